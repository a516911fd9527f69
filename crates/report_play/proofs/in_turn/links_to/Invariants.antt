use Rattle.std.proofs.Common.{◌≤◌, ◌-◌, vec_capacity, vec_len}
use Rattle.std.specs.List.{All}
use Rattle.report_play.specs.Private.Delivered.{IsLinkTo}
use Rattle.report_play.proofs.in_turn.links_to.Given as goal

-- the links so far are to the servers
abbrev pub invariant-loop-links : goal.invariant-loop-links
invariant-loop-links l = record {
  servers : All (IsLinkTo l.scenario) l.links.items;
  few : vec_len l.links ≤ l.count;
  room : l.count ≤ vec_capacity l.links;
}

abbrev pub decreases-loop-links : goal.decreases-loop-links
decreases-loop-links l = l.count - vec_len l.links
