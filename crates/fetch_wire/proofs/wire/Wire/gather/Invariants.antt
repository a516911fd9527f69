use Rattle.std.proofs.Common.{◌≡◌, ◌<◌, ◌-◌, length}
use Rattle.link_traits.specs.Links.{Received}
use Rattle.link_traits.specs.Sources.{Gave}
use Rattle.fetch_wire.specs.Wires.{window_of}
use Rattle.fetch_wire.proofs.wire.Wire.gather.Given as goal

-- what was received is in the window, at the front of the buffer, and there is room
abbrev pub invariant-loop-count : goal.invariant-loop-count
invariant-loop-count g l = record {
  gave : Gave (g.L.Link.told l.fn.link).left (g.L.Link.told l.link).left (window_of l.self);
  received : Received (length (window_of l.self)) (g.L.Link.told l.fn.link).received (g.L.Link.told l.link).received;
  front : l.self.from ≡ 0;
  few : 0 < l.self.to → l.self.to < l.fewest;
  some_room : l.self.to < length l.self.buffer.items;
  framing : l.self.framing ≡ l.fn.self.framing;
  state : (g.L.Link.told l.link).state ≡ (g.L.Link.told l.fn.link).state;
  faults : (g.L.Link.told l.link).faults ≡ (g.L.Link.told l.fn.link).faults;
}

-- each receive takes a byte
abbrev pub decreases-loop-count : goal.decreases-loop-count
decreases-loop-count g l = length l.self.buffer.items - l.self.to
