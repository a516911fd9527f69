-- What the keys of an object and a loop over the items of a list come to.
use Rattle.std.proofs.Common.{◌≡◌, ℕ, ◌+◌, List, [], ◌∷◌, ◌++◌, map}
use Rattle.std.proofs.Common.{Bor, Ok, Err, refl, ap, sym, ◌∙◌}
use Rattle.std.proofs.Common.{append_assoc}
use Rattle.std.proofs.lemmas.List.{append-nil}
use Rattle.std.specs.Prelude.{decimal}
use Rattle.serde_json.specs.Data.{Data, Items, no_items, item}
use Rattle.value_json.specs.Gives.{Gives, Refuses, IsUnder}
use Rattle.value_json.specs.Reading.{Read, ◌>>=◌, under, each_from}
use Rattle.value_json.specs.declared.refused.Refused.{Refused}
use Rattle.value_json.specs.declared.refused.Refused.TheVariants.{Memory, At}

-- ---- places

-- what is refused below is refused under the segment
pub refuses-under : {A : Type 0} (segment : List ℕ) (inner outer : Refused) (read : Read A)
    → IsUnder segment inner outer → Refuses inner read → Refuses outer (under segment read)
refuses-under segment inner Memory read is refuses = tt
refuses-under segment Memory (At place) read is refuses = absurd is
refuses-under {A} segment (At inner) (At place) read is refuses =
    ap (λ (r : Read A). under segment r) refuses ∙ ap (λ (p : List ℕ). let r : Read A = Err p in r) (sym is)

-- ---- words and keys

-- words that are lent, with their meanings
abbrev pub entries : {A : Type 0} → List (Bor (List ℕ) × A) → List (List ℕ × A)
entries words = map (λ entry. (entry.0.now, entry.1)) words

-- ---- lists

-- what was read so far goes before what is still read
abbrev pub with_front : {A : Type 0} → List A → Read (List A) → Read (List A)
with_front front (Ok xs) = Ok (front ++ xs)
with_front front (Err place) = Err place

front-step : {A : Type 0} (front : List A) (x : A) (rest : Read (List A))
    → with_front front (rest >>= (λ xs. Ok (x ∷ xs))) ≡ with_front (front ++ x ∷ []) rest
front-step {A} front x (Ok xs) =
    ap (λ (r : List A). let o : Read (List A) = Ok r in o) (sym (append_assoc front (x ∷ []) xs))
front-step front x (Err place) = refl

-- one more item is read
pub one-more : {A : Type 0} (read : Data → Read A) (i : ℕ) (items behind : Items) (tree : Data) (front : List A) (y : A)
    → items ≡ item tree behind → under (decimal i) (read tree) ≡ Ok y
    → with_front front (each_from read i items) ≡ with_front (front ++ y ∷ []) (each_from read (i + 1) behind)
one-more read i items behind tree front y is came =
    rw (is, came) (front-step front y (each_from read (i + 1) behind))

-- the first item that is refused refuses the list
pub refused-item : {A : Type 0} (read : Data → Read A) (i : ℕ) (items behind : Items) (tree : Data) (front : List A)
    (e : Refused) (whole : Read (List A))
    → items ≡ item tree behind → Gives (Err e) (under (decimal i) (read tree))
    → whole ≡ with_front front (each_from read i items) → Gives (Err e) whole
refused-item read i items behind tree front Memory whole is came so = tt
refused-item read i items behind tree front (At place) whole is came so = so ∙ rw (is, came)

-- nothing is left
pub none-left : {A : Type 0} (read : Data → Read A) (i : ℕ) (items : Items) (front : List A) (whole : Read (List A))
    → items ≡ no_items → whole ≡ with_front front (each_from read i items) → whole ≡ Ok front
none-left {A} read i items front whole is so = so
    ∙ rw is (ap (λ (xs : List A). let o : Read (List A) = Ok xs in o) (append-nil front))
