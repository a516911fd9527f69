use Rattle.std.proofs.Common.{◌≡◌, ◌≤◌, ◌-◌, length}
use Rattle.server_tables.specs.Private.Coming.{Gives, IsSearched}
use Rattle.std.proofs.Common.{None}
use Rattle.link_http1.specs.RequestHeads.{IsRead}
use Rattle.server_tables.specs.Serving.{AskedOn, most_read, peer_told}
use Rattle.server_tables.proofs.listen.read_block.Given as goal

-- these bytes came, all of them were searched, and no block ends in them
abbrev pub invariant-loop-buffer : goal.invariant-loop-buffer
invariant-loop-buffer g l = record {
  gives : Gives
      (peer_told g.P.Source.gives g.P.Sink.takes l.fn.peer)
      (peer_told g.P.Source.gives g.P.Sink.takes l.peer)
      l.bytes.items;
  few : length l.bytes.items ≤ most_read;
  searched : IsSearched l.search l.bytes.items;
  quiet : (g.P.Source.gives l.peer).faults ≡ (g.P.Source.gives l.fn.peer).faults;
  all : l.search.searched ≡ length l.bytes.items;
  none : IsRead l.bytes.items None;
  asked_on : AskedOn l.bytes.items;
}

abbrev pub decreases-loop-buffer : goal.decreases-loop-buffer
decreases-loop-buffer g l = most_read - length l.bytes.items
