use Rattle.std.proofs.Common.{◌≡◌, drop, map, bytes_eq}
use Rattle.policy_integrity.specs.Matching.{standard_symbol}
use Rattle.policy_integrity.proofs.matching.is_in_standard.Given as goal

abbrev pub invariant-loop-index : goal.invariant-loop-index
invariant-loop-index l =
    bytes_eq (map standard_symbol (drop l.index l.value)) (drop l.index l.text)
    ≡ bytes_eq (map standard_symbol l.value) l.text
