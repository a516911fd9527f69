use Rattle.std.proofs.Common.{◌≡◌, drop}
use Rattle.script_lines.specs.Kept.{told}
use Rattle.script_lines.specs.Lines as spec
use Rattle.script_lines.proofs.lines.tell_headers.Given as goal

abbrev pub invariant-loop-index : goal.invariant-loop-index
invariant-loop-index g l =
    told (g.R.Receiver.kept l.receiver) (spec.header_lines (drop l.index l.headers))
    ≡ told (g.R.Receiver.kept l.fn.receiver) (spec.header_lines l.headers)
