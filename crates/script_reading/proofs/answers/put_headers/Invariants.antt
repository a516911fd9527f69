use Rattle.std.proofs.Common.{◌≡◌, ◌++◌, drop}
use Rattle.std.specs.List.{flat_map}
use Rattle.script_reading.specs.Answers.{header_line}
use Rattle.script_reading.proofs.answers.put_headers.Given as goal

abbrev pub invariant-loop-header : goal.invariant-loop-header
invariant-loop-header l =
    l.fn.text.items ++ flat_map header_line l.headers
    ≡ l.text.items ++ flat_map header_line (drop l.header-index l.headers)
