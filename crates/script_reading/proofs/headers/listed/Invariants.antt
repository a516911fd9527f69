use Rattle.std.proofs.Common.{◌≡◌, ◌++◌, drop, map}
use Rattle.value_headers.specs.Headers.{values_of}
use Rattle.script_reading.specs.Headers.{header_of_pair}
use Rattle.script_reading.proofs.headers.listed.Given as goal

-- the values so far, and those of the headers that are left
abbrev pub invariant-loop-header : goal.invariant-loop-header
invariant-loop-header l =
    values_of l.name l.list ++ values_of l.name (map header_of_pair (drop l.header-index l.headers))
    ≡ values_of l.name (map header_of_pair l.headers)
