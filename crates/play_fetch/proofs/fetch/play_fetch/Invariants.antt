use Rattle.play_fetch.proofs.Words.{◌-◌, Keeps, acts, at_time, fetch_price, lent_setting, over_link, standing}
use Rattle.play_fetch.proofs.FetchLemmas.{IsFetching}
use Rattle.play_fetch.proofs.fetch.play_fetch.Given as goal

-- the fetch is at this step, and has shown what was added to the events; what plays is as every call leaves it
abbrev pub invariant-loop-step : goal.invariant-loop-step
invariant-loop-step g l = record {
  fetching : IsFetching (over_link g.L.Link.serves) (at_time (lent_setting l.fn.player.lent.now) l.fn.now) l.fn.request
      (standing g.S.Share.account g.L.Link.told l.fn.player) l.acts (standing g.S.Share.account g.L.Link.told l.player)
      l.step;
  kept : Keeps g.S.Share.account g.S.Share.belongs l.fn.player l.player;
}

-- each act takes one of the fetch's acts
abbrev pub decreases-loop-step : goal.decreases-loop-step
decreases-loop-step g l =
    fetch_price acts (at_time (lent_setting l.fn.player.lent.now) l.fn.now) l.fn.request - l.acts
