use Rattle.std.proofs.Common.{◌≡◌, ◌++◌, length}
use Rattle.script_lines.specs.Escapes as spec
use Rattle.play_text.proofs.escape.add_blocks.Given as goal

abbrev pub invariant-loop-rest : goal.invariant-loop-rest
invariant-loop-rest l =
    l.text ++ spec.escaped l.rest ≡ l.fn.text ++ spec.escaped l.piece

abbrev pub decreases-loop-rest : goal.decreases-loop-rest
decreases-loop-rest l = length l.rest
