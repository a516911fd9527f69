use Rattle.script_runs.proofs.LastLemmas.{last-grows, printed-grows}
use Rattle.script_runs.proofs.shown.Shown.add.Goals as goal

pub invariant_of-self-2 : goal.invariant_of-self-2
invariant_of-self-2 c = (
  printed-grows c.self.inside.events c.push.new.self c.args.event c.self.inside.printed c.event_len.result
      c.saturating_add-printed.result c.self.invariant.0 c.event_len.ensures c.saturating_add-printed.ensures
      c.in_ok-push.ensures.ok,
  last-grows c.self.inside.last c.last_after-last.result c.self.inside.events c.push.new.self c.args.event c.len.result
      c.len.ensures c.last_after-last.ensures c.in_ok-push.ensures.ok c.self.invariant.1,
)
