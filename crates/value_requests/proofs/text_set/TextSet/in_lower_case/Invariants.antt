use Rattle.std.proofs.Common.{◌≡◌, ℕ, List, ◌||◌, drop}
use Rattle.std.specs.List.{list_any}
use Rattle.std.specs.Prelude.{bytes_eq}
use Rattle.std.specs.Str.{str_to_ascii_lowercase}
use Rattle.value_requests.specs.TextSets.{has_text}
use Rattle.value_requests.proofs.text_set.TextSet.in_lower_case.Given as goal

-- the texts so far, and those that are left
abbrev pub invariant-loop-text : goal.invariant-loop-text
invariant-loop-text l = (text : List ℕ)
    → (has_text l.set text
    || list_any (λ item. bytes_eq (str_to_ascii_lowercase item) text) (drop l.text-index l.texts))
    ≡ list_any (λ item. bytes_eq (str_to_ascii_lowercase item) text) l.texts
