use Rattle.std.proofs.Common.{◌≡◌, drop, not}
use Rattle.std.specs.List.{find}
use Rattle.std.specs.Str.{str_to_ascii_lowercase}
use Rattle.value_requests.specs.TextSets.{has_text}
use Rattle.policy_preflight.proofs.allowed.first_missing.Given as goal

-- all so far are there
abbrev pub invariant-loop-name : goal.invariant-loop-name
invariant-loop-name l =
    find (λ name. not (has_text l.listed (str_to_ascii_lowercase name))) l.unsafe_names
    ≡ find (λ name. not (has_text l.listed (str_to_ascii_lowercase name))) (drop l.name-index l.unsafe_names)
