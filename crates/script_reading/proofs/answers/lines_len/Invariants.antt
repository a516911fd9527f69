use Rattle.std.proofs.Common.{◌≡◌, ◌+◌, ◌-◌, ◌^◌, ◌≤◌, length, drop, min}
use Rattle.std.specs.List.{flat_map}
use Rattle.script_reading.specs.Answers.{header_line}
use Rattle.script_reading.proofs.answers.lines_len.Given as goal

abbrev pub invariant-loop-header : goal.invariant-loop-header
invariant-loop-header l =
    (min (length (flat_map header_line l.headers)) (2 ^ 64 - 1)
    ≡ min (l.total + length (flat_map header_line (drop l.header-index l.headers))) (2 ^ 64 - 1))
    × (l.total ≤ 2 ^ 64 - 1)
