use Rattle.std.proofs.Common.{◌≡◌, ◌+◌, drop, length}
use Rattle.std.specs.List.{flat_map}
use Rattle.script_reading.specs.Headers.{policies_of_header}
use Rattle.script_reading.proofs.headers.has_few_policies.Given as goal

-- how many more there may be: 16 without those so far
abbrev pub invariant-loop-header : goal.invariant-loop-header
invariant-loop-header l =
    length (flat_map policies_of_header l.headers) + l.left
    ≡ 16 + length (flat_map policies_of_header (drop l.header-index l.headers))
