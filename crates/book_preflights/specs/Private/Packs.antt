-- How a list of texts is stored: their bytes, one text behind the other, and where each ends.
use Rattle.std.specs.Prelude.{◌≡◌, ℕ, ◌≤◌, ◌-◌, List, [], ◌∷◌, take, drop}
use Rattle.value_text.specs.Texts.{Text}

-- the texts from a place on
abbrev pub texts_of : List ℕ → ℕ → List ℕ → List (List ℕ)
texts_of bytes start [] = []
texts_of bytes start (end ∷ ends) = take (end - start) (drop start bytes) ∷ texts_of bytes end ends

-- from a place on the ends are in order, and the last of them is where the bytes end
abbrev pub AreEnds : ℕ → ℕ → List ℕ → Type 0
AreEnds start last [] = start ≡ last
AreEnds start last (end ∷ ends) = (start ≤ end) × AreEnds end last ends

-- the texts of the first piece, if there is one
abbrev pub texts_in : List (List Text) → List Text
texts_in [] = []
texts_in (packed ∷ pieces) = packed
