-- What the words ask for, by whether they are texts and two.
use Rattle.std.proofs.Common.{◌≡◌, ◌∙◌, ◌&&◌, ℕ, Bool, cond, true, false, refl, ap, List, [], ◌∷◌, Option, Some, None}
use Rattle.std.proofs.Common.{option_map, true≢false}
use Rattle.std.specs.Prelude.{option_and_then}
use Rattle.clap.proofs.WalkLemmas.{both}
use Rattle.server_words.specs.Private.Command.{two_of}
use Rattle.server_words.specs.Words.{are_texts, count_of, is_text, task_of}
use Rattle.server_words.specs.declared.words.Task.{Task}

abbrev pub task : List ℕ → ℕ → Task
task address count = record { address = address; count = count }

-- what two texts ask for
abbrev pub asked : List ℕ × List ℕ → Option Task
asked pair = option_map (task pair.0) (count_of pair.1)

pub task-of-texts : (words : List (List ℕ)) → are_texts words ≡ true
    → option_and_then asked (two_of words) ≡ task_of words
task-of-texts [] all = refl
task-of-texts (a ∷ []) all = refl
task-of-texts (a ∷ b ∷ []) all =
    let text = both _ _ all in
    let text' = both _ _ text.1 in
    let first : is_text a ≡ true = text.0 in
    let second : is_text b ≡ true = text'.0 in
    rw (first, second) refl
task-of-texts (a ∷ b ∷ c ∷ words) all = refl

pub no-task : (words : List (List ℕ)) → are_texts words ≡ false → None ≡ task_of words
no-task [] all = refl
no-task (a ∷ []) all = refl
no-task (a ∷ b ∷ []) all = go (is_text a) (is_text b) all
  where
    go : (first second : Bool) → (first && (second && true)) ≡ false
        → None ≡ cond (first && second) (asked (a, b)) None
    go true true same = absurd (true≢false same)
    go true false same = refl
    go false second same = refl
no-task (a ∷ b ∷ c ∷ words) all = refl

pub task-of-two : (words : List (List ℕ)) (address number : List ℕ) (count : ℕ) → are_texts words ≡ true
    → Some (address, number) ≡ two_of words → Some count ≡ count_of number
    → Some (task address count) ≡ task_of words
task-of-two words address number count all two counted =
    ap (option_map (task address)) counted ∙ ap (option_and_then asked) two
    ∙ task-of-texts words all
