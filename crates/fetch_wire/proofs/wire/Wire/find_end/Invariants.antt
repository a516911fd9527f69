use Rattle.std.proofs.Common.{◌≡◌, ◌+◌, ◌-◌, length}
use Rattle.link_http1.specs.Bodies.{IsOpen}
use Rattle.link_http1.specs.BodyLaws.{most_open}
use Rattle.fetch_wire.specs.Wires.{window_of}
use Rattle.fetch_wire.proofs.WireLemmas.{Counts, Receives}
use Rattle.fetch_wire.proofs.wire.Wire.find_end.Given as goal

-- what was received was read or is in the window
abbrev pub invariant-loop-end : goal.invariant-loop-end
invariant-loop-end g l = record {
  received : Receives (window_of l.fn.self) (g.L.Link.told l.fn.link).left l.reader.bytes (window_of l.self)
      (g.L.Link.told l.link).left;
  counts : Counts (IsOpen l.fn.self.framing l.limit) (window_of l.fn.self) (g.L.Link.told l.fn.link).left
      (g.L.Link.told l.fn.link).received l.reader.bytes (window_of l.self) (g.L.Link.told l.link).received;
  framing : l.reader.framing ≡ l.fn.self.framing;
  limit : l.reader.limit ≡ l.limit;
  state : (g.L.Link.told l.link).state ≡ (g.L.Link.told l.fn.link).state;
  faults : (g.L.Link.told l.link).faults ≡ (g.L.Link.told l.fn.link).faults;
}

-- each receive takes a byte, and bytes that leave a body open are so many at most
abbrev pub decreases-loop-end : goal.decreases-loop-end
decreases-loop-end g l =
    (most_open l.fn.self.framing l.limit + 1) - (length l.reader.bytes + length (window_of l.self))
