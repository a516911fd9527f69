use Rattle.std.proofs.Common.{◌∙◌, ◌+◌, ◌≤◌, length, arith, refl}
use Rattle.link_http1.specs.Answers.{IsUnfinished, most_bytes}
use Rattle.fetch_wire.specs.Wires.{window_of}
use Rattle.fetch_wire.proofs.HeadLemmas.{finds-bad, finds-end, finds-fault, finds-head, finds-long, head-goes-on}
use Rattle.fetch_wire.proofs.HeadLemmas.{head-read, head-waits}
use Rattle.fetch_wire.proofs.WireLemmas.{counts-more, counts-none, few-none, gives-few, receives-none}
use Rattle.fetch_wire.proofs.wire.Wire.find_head.Goals as goal

pub returns-in-Final-clause-found : goal.returns-in-Final-clause-found
returns-in-Final-clause-found g c =
    finds-head (window_of c.args.self.now) (g.L.Link.told c.args.link.now).left c.loop-head.reader c.window.result.now
    (window_of c.loop-head.self) (g.L.Link.told c.loop-head.link).left c.in_ok-head.field-0 c.window.ensures
    c.in_ok-head.ensures c.loop-head.invariant.received c.in-Final.head c.in-Final.count c.in-Final.is

pub returns-in-Bad-clause-found : goal.returns-in-Bad-clause-found
returns-in-Bad-clause-found g c =
    finds-bad (window_of c.args.self.now) (g.L.Link.told c.args.link.now).left c.loop-head.reader c.window.result.now
    (window_of c.loop-head.self) (g.L.Link.told c.loop-head.link).left c.in_ok-head.field-0 c.window.ensures
    c.in_ok-head.ensures c.loop-head.invariant.received c.in-Bad.is

pub returns-in-TooBig-clause-found : goal.returns-in-TooBig-clause-found
returns-in-TooBig-clause-found g c =
    finds-long (window_of c.args.self.now) (g.L.Link.told c.args.link.now).left c.loop-head.reader c.window.result.now
    (window_of c.loop-head.self) (g.L.Link.told c.loop-head.link).left c.in_ok-head.field-0 c.window.ensures
    c.in_ok-head.ensures c.loop-head.invariant.received c.in-TooBig.is

pub returns-in-Ok-false-clause-found : goal.returns-in-Ok-false-clause-found
returns-in-Ok-false-clause-found g c =
    finds-end (window_of c.args.self.now) (g.L.Link.told c.args.link.now).left c.loop-head.reader c.window.result.now
    (window_of c.loop-head.self) (g.L.Link.told c.loop-head.link).left c.in_ok-head.field-0 c.window.ensures
    c.in_ok-head.ensures c.loop-head.invariant.received c.in-More.next (window_of c.refill.new.self)
    (window_of c.refill.new.self) (g.L.Link.told c.refill.new.link).left c.in-More.is c.in-Ok-false.ensures.gave
    (c.in-Ok-false.ensures.none c.in-Ok-false.field-0-test) (c.in-Ok-false.ensures.end c.in-Ok-false.field-0-test)

pub returns-in-Err-clause-found : goal.returns-in-Err-clause-found
returns-in-Err-clause-found g c =
    finds-fault (window_of c.args.self.now) (g.L.Link.told c.args.link.now).left c.loop-head.reader
    c.window.result.now (window_of c.loop-head.self) (g.L.Link.told c.loop-head.link).left c.in_ok-head.field-0
    c.window.ensures c.in_ok-head.ensures c.loop-head.invariant.received c.in-More.next
    (window_of c.refill.new.self) (g.L.Link.told c.refill.new.link).left c.in-More.is c.in-Err.ensures.failed

pub loop-head-preserved : goal.loop-head-preserved
loop-head-preserved g c =
    let received = c.in-Ok-true.ensures in
    let on = head-goes-on (window_of c.args.self.now) (g.L.Link.told c.args.link.now).left c.loop-head.reader
    c.window.result.now (window_of c.loop-head.self) (g.L.Link.told c.loop-head.link).left c.in_ok-head.field-0
    c.window.ensures c.in_ok-head.ensures c.loop-head.invariant.received c.in-More.next
    (window_of c.refill.new.self) (g.L.Link.told c.refill.new.link).left c.in-More.is received.gave in
    let read = head-read (window_of c.args.self.now) (g.L.Link.told c.args.link.now).left c.loop-head.reader
    c.window.result.now (window_of c.loop-head.self) (g.L.Link.told c.loop-head.link).left c.in_ok-head.field-0
    c.window.ensures c.in_ok-head.ensures c.loop-head.invariant.received c.in-More.next c.in-More.is in
    let few : length c.in-More.next + length (window_of c.refill.new.self) ≤ most_bytes + 1 =
    omega (arith, received.few, c.min.ensures, c.seen_bytes.ensures.value, c.seen_bytes.ensures.few) in
    let counts = counts-more IsUnfinished (window_of c.args.self.now) (g.L.Link.told c.args.link.now).left
    (g.L.Link.told c.args.link.now).received c.loop-head.reader (window_of c.loop-head.self) c.in-More.next
    (window_of c.refill.new.self) (g.L.Link.told c.loop-head.link).received (g.L.Link.told c.refill.new.link).received
    read
    received.received c.loop-head.invariant.counts
    (head-waits (window_of c.args.self.now) (g.L.Link.told c.args.link.now).left c.loop-head.reader
    c.window.result.now (window_of c.loop-head.self) (g.L.Link.told c.loop-head.link).left c.in_ok-head.field-0
    c.window.ensures c.in_ok-head.ensures c.loop-head.invariant.received c.in-More.next
    (window_of c.refill.new.self) c.loop-head.invariant.counts.count c.in-More.is c.loop-head.invariant.counts.whole
    (omega (arith, received.few, c.min.ensures))) in
    record {
      received = on;
      counts = counts;
      few = gives-few IsUnfinished (window_of c.args.self.now) (g.L.Link.told c.args.link.now).left
          (g.L.Link.told c.args.link.now).received c.in-More.next (window_of c.refill.new.self)
          (g.L.Link.told c.refill.new.link).left (g.L.Link.told c.refill.new.link).received (most_bytes + 1) few on
          counts;
      state = received.state ∙ c.loop-head.invariant.state;
      faults = received.cause.quiet ∙ c.loop-head.invariant.faults;
    }

pub returns-in_err-reader-clause-few : goal.returns-in_err-reader-clause-few
returns-in_err-reader-clause-few g c =
    few-none IsUnfinished _ (g.L.Link.told c.args.link.now).left (g.L.Link.told c.args.link.now).received
    (most_bytes + 1)

pub loop-head-init : goal.loop-head-init
loop-head-init g c = record {
  received = rw c.in_ok-reader.ensures (receives-none (window_of c.args.self.now) (g.L.Link.told c.args.link.now).left);
  counts = rw c.in_ok-reader.ensures
      (counts-none IsUnfinished (window_of c.args.self.now) (g.L.Link.told c.args.link.now).left
      (g.L.Link.told c.args.link.now).received);
  few = few-none IsUnfinished _ (g.L.Link.told c.args.link.now).left (g.L.Link.told c.args.link.now).received
      (most_bytes + 1);
  state = refl;
  faults = refl;
}

pub returns-in-Ok-false-clause-few : goal.returns-in-Ok-false-clause-few
returns-in-Ok-false-clause-few g c =
    let received = c.in-Ok-false.ensures in
    let on = head-goes-on (window_of c.args.self.now) (g.L.Link.told c.args.link.now).left c.loop-head.reader
    c.window.result.now (window_of c.loop-head.self) (g.L.Link.told c.loop-head.link).left c.in_ok-head.field-0
    c.window.ensures c.in_ok-head.ensures c.loop-head.invariant.received c.in-More.next
    (window_of c.refill.new.self) (g.L.Link.told c.refill.new.link).left c.in-More.is received.gave in
    let read = head-read (window_of c.args.self.now) (g.L.Link.told c.args.link.now).left c.loop-head.reader
    c.window.result.now (window_of c.loop-head.self) (g.L.Link.told c.loop-head.link).left c.in_ok-head.field-0
    c.window.ensures c.in_ok-head.ensures c.loop-head.invariant.received c.in-More.next c.in-More.is in
    let few : length c.in-More.next + length (window_of c.refill.new.self) ≤ most_bytes + 1 =
    omega (arith, received.few, c.min.ensures, c.seen_bytes.ensures.value, c.seen_bytes.ensures.few) in
    let counts = counts-more IsUnfinished (window_of c.args.self.now) (g.L.Link.told c.args.link.now).left
    (g.L.Link.told c.args.link.now).received c.loop-head.reader (window_of c.loop-head.self) c.in-More.next
    (window_of c.refill.new.self) (g.L.Link.told c.loop-head.link).received (g.L.Link.told c.refill.new.link).received
    read
    received.received c.loop-head.invariant.counts
    (head-waits (window_of c.args.self.now) (g.L.Link.told c.args.link.now).left c.loop-head.reader
    c.window.result.now (window_of c.loop-head.self) (g.L.Link.told c.loop-head.link).left c.in_ok-head.field-0
    c.window.ensures c.in_ok-head.ensures c.loop-head.invariant.received c.in-More.next
    (window_of c.refill.new.self) c.loop-head.invariant.counts.count c.in-More.is c.loop-head.invariant.counts.whole
    (omega (arith, received.few, c.min.ensures))) in
    gives-few IsUnfinished (window_of c.args.self.now) (g.L.Link.told c.args.link.now).left
    (g.L.Link.told c.args.link.now).received c.in-More.next (window_of c.refill.new.self)
    (g.L.Link.told c.refill.new.link).left (g.L.Link.told c.refill.new.link).received (most_bytes + 1) few on counts
