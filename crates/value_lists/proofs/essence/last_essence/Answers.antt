use Rattle.std.proofs.Common.{◌∙◌}
use Rattle.std.specs.Str.{str_to_ascii_lowercase}
use Rattle.value_lists.proofs.EssenceLemmas.{last_essence-None, last_essence-Some}
use Rattle.value_lists.proofs.essence.last_essence.Goals as goal
use Rattle.value_lists.proofs.essence.last_essence.Goals.{in-Some, in_default}

pub loop-index-preserved : goal.loop-index-preserved
loop-index-preserved c =
    elim c.match-specific_essence.branch [
      | in-Some w ↦
          rw w.last-is (last_essence-Some c.args.values.now c.loop-index.index c.at.result.now
          (str_to_ascii_lowercase w.in-Some.essence.now) c.at.ensures w.in-Some.ensures)
      | in_default w ↦ rw w.last-is (c.loop-index.invariant
          ∙ last_essence-None c.args.values.now c.loop-index.index c.at.result.now c.at.ensures w.in_default.ensures)
    ]
