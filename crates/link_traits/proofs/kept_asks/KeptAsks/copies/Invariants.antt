use Rattle.std.proofs.Common.{◌≡◌, ◌++◌, drop, length}
use Rattle.link_traits.specs.Private.KeptAsks.{asks_in, bytes_of}
use Rattle.link_traits.proofs.kept_asks.KeptAsks.copies.Given as goal

abbrev pub invariant-loop-size : goal.invariant-loop-size
invariant-loop-size l = record {
  bytes : bytes_of (drop l.size-index l.size-items) ≡ length l.rest;
  same : l.asks ++ asks_in (drop l.size-index l.size-items) l.rest ≡ l.self.asks;
}
