use Rattle.std.proofs.Common.{◌≡◌, ◌≤◌, ◌-◌, length, take, drop}
use Rattle.script_scenarios.specs.Templates.{pieces}
use Rattle.script_scenarios.proofs.PieceLemmas.{onto}
use Rattle.script_scenarios.proofs.template.next_piece.Given as goal

-- no `${` begins before
abbrev pub invariant-loop-i : goal.invariant-loop-i
invariant-loop-i l = (pieces l.text ≡ onto (take l.i l.text) (pieces (drop l.i l.text))) × (l.i ≤ length l.text)

abbrev pub decreases-loop-i : goal.decreases-loop-i
decreases-loop-i l = length l.text - l.i
