use Rattle.std.proofs.Common.{◌≡◌, ◌++◌, drop}
use Rattle.std.specs.List.{flat_map}
use Rattle.script_reading.specs.Headers.{policies_of_header}
use Rattle.script_reading.proofs.headers.policies_of_headers.Given as goal

abbrev pub invariant-loop-header : goal.invariant-loop-header
invariant-loop-header l =
    l.policies ++ flat_map policies_of_header (drop l.header-index l.headers) ≡ flat_map policies_of_header l.headers
