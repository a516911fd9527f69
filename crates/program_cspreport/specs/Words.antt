-- The words of the program.
use Rattle.std.specs.Prelude.{Bool, false, List, [], ◌∷◌, codes, bytes_eq}
use Rattle.value_text.specs.Texts.{Text}

-- the word `play`, alone
abbrev pub are_accepted : List Text → Bool
are_accepted (word ∷ []) = bytes_eq word (codes "play")
are_accepted _ = false
