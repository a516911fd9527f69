use Rattle.std.proofs.Common.{◌≡◌, ◌+◌, ◌-◌, length}
use Rattle.link_http1.specs.Answers.{IsUnfinished, most_bytes}
use Rattle.fetch_wire.specs.Private.Reads.{GivesAtMost}
use Rattle.fetch_wire.specs.Wires.{coming_of, window_of}
use Rattle.fetch_wire.proofs.WireLemmas.{Counts, Receives}
use Rattle.fetch_wire.proofs.wire.Wire.find_head.Given as goal

-- what was received was read or is in the window, and the link has given 65,537 bytes at most
abbrev pub invariant-loop-head : goal.invariant-loop-head
invariant-loop-head g l = record {
  received : Receives (window_of l.fn.self) (g.L.Link.told l.fn.link).left l.reader (window_of l.self)
      (g.L.Link.told l.link).left;
  counts : Counts IsUnfinished (window_of l.fn.self) (g.L.Link.told l.fn.link).left (g.L.Link.told l.fn.link).received
      l.reader
      (window_of l.self) (g.L.Link.told l.link).received;
  few : GivesAtMost IsUnfinished (coming_of (g.L.Link.told l.fn.link).left l.fn.self) (g.L.Link.told l.fn.link).left
      (g.L.Link.told l.link).left (g.L.Link.told l.fn.link).received (g.L.Link.told l.link).received (most_bytes + 1);
  state : (g.L.Link.told l.link).state ≡ (g.L.Link.told l.fn.link).state;
  faults : (g.L.Link.told l.link).faults ≡ (g.L.Link.told l.fn.link).faults;
}

-- each receive takes a byte, and bytes that leave a head open are 65,536 at most
abbrev pub decreases-loop-head : goal.decreases-loop-head
decreases-loop-head g l = (most_bytes + 1) - (length l.reader + length (window_of l.self))
