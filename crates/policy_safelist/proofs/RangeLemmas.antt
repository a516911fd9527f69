-- A span is cut at its first dash.
use Rattle.std.proofs.Common.{◌≡◌, ◌+◌, ◌==◌, ◌&&◌, ℕ, List, refl, take, drop}
use Rattle.std.proofs.Common.{Some}
use Rattle.std.proofs.lemmas.Option.{cond_some}
use Rattle.std.specs.List.{position}
use Rattle.value_text.specs.Digits.{is_digits}
use Rattle.policy_safelist.specs.Ranges.{is_end_of, is_span}

-- what is before the first dash and after it
pub is_span-cut : (text : List ℕ) (at : ℕ) → position (λ byte. byte == 45) text ≡ Some at → is_span text
    ≡ (is_digits (take at text) && is_end_of (take at text) (drop (at + 1) text))
is_span-cut text at e =
    let found = cond_some _ _ at e in
    rw (e, found.1) refl
