use Rattle.play_documents.proofs.Words.{◌*◌, ◌+◌, HasSpent, IsAtEnd, Keeps, max, over_link, standing, step_of}
use Rattle.play_documents.proofs.Words.{step_size, steps_size}
use Rattle.play_documents.proofs.ScriptLemmas.{IsAt, IsRound}
use Rattle.play_documents.proofs.commands.+script.Given as goal

abbrev pub decreases-script : goal.decreases-script
decreases-script g l = 3 * steps_size l.script.now + 2

abbrev pub decreases-play_command : goal.decreases-play_command
decreases-play_command g l = 3 * step_size (step_of l.command.now) + 1

abbrev pub decreases-repeat : goal.decreases-repeat
decreases-repeat g l = 3 * steps_size l.part.now + 3

abbrev pub decreases-choice : goal.decreases-choice
decreases-choice g l = 3 * max (steps_size l.part.now) (steps_size l.other.now) + 3

-- the commands so far were played, and the others follow; nothing is to come over the link; no more calls were made
-- than the fetches and loads may make; and what plays is as every call leaves it
abbrev pub invariant-script-loop-command : goal.invariant-script-loop-command
invariant-script-loop-command g l = record {
  played : IsAt (over_link g.L.Link.serves) l.command-items l.command-index
      (standing g.S.Share.account g.L.Link.told l.fn.player) (standing g.S.Share.account g.L.Link.told l.player);
  rests : IsAtEnd (g.L.Link.told l.player.link.now).left;
  spent : HasSpent (standing g.S.Share.account g.L.Link.told l.fn.player)
      (standing g.S.Share.account g.L.Link.told l.player);
  kept : Keeps g.S.Share.account g.S.Share.belongs l.fn.player l.player;
}

-- the same of a script that is repeated
abbrev pub invariant-repeat-loop-i : goal.invariant-repeat-loop-i
invariant-repeat-loop-i g l = record {
  played : IsRound (over_link g.L.Link.serves) l.times l.part l._i
      (standing g.S.Share.account g.L.Link.told l.fn.player) (standing g.S.Share.account g.L.Link.told l.player);
  rests : IsAtEnd (g.L.Link.told l.player.link.now).left;
  spent : HasSpent (standing g.S.Share.account g.L.Link.told l.fn.player)
      (standing g.S.Share.account g.L.Link.told l.player);
  kept : Keeps g.S.Share.account g.S.Share.belongs l.fn.player l.player;
}
