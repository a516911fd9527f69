use Rattle.std.proofs.Common.{◌≡◌, drop}
use Rattle.script_lines.specs.Calls as spec
use Rattle.script_lines.specs.Kept.{told}
use Rattle.script_lines.proofs.calls.tell_comma_texts.Given as goal

abbrev pub invariant-loop-index : goal.invariant-loop-index
invariant-loop-index g l =
    told (g.R.Receiver.kept l.receiver) (spec.comma_texts (drop l.index l.texts))
    ≡ told (g.R.Receiver.kept l.fn.receiver) (spec.comma_texts (drop 1 l.texts))
