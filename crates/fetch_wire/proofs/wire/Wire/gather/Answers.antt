use Rattle.std.proofs.Common.{◌∙◌, ap, length, arith, refl}
use Rattle.std.proofs.lemmas.List.{with_items_is}
use Rattle.link_traits.proofs.SourceLemmas.{gave-nothing}
use Rattle.link_traits.proofs.ReceivedLemmas.{received-none}
use Rattle.fetch_wire.proofs.WireLemmas.{gathered-counted, gathered-more, gathers, gathers-same}
use Rattle.fetch_wire.proofs.wire.Wire.gather.Goals as goal

pub returns-then-count-eq0-clause-gave : goal.returns-then-count-eq0-clause-gave
returns-then-count-eq0-clause-gave g c =
    let is = c.loop-count.invariant in
    let came = c.in_ok-count.ensures in
    let now = with_items_is c.loop-count.self.buffer c.receive_behind.new.buffer
    (omega (arith, came.length, ap length c.as_mut_slice.ensures.value, c.loop-count.self.buffer.ok.0)) in
    gathered-more (g.L.Link.told c.args.link.now).left (g.L.Link.told c.loop-count.link).left
    (g.L.Link.told c.receive_behind.new.link).left c.loop-count.self.buffer.items c.as_mut_slice.result.now
    c.receive_behind.new.buffer _ c.loop-count.self.from c.loop-count.self.to c.in_ok-count.count is.front is.gave
    c.as_mut_slice.ensures.value came.kept came.gave now

pub loop-count-preserved : goal.loop-count-preserved
loop-count-preserved g c =
    let is = c.loop-count.invariant in
    let came = c.in_ok-count.ensures in
    let now = with_items_is c.loop-count.self.buffer c.receive_behind.new.buffer
    (omega (arith, came.length, ap length c.as_mut_slice.ensures.value, c.loop-count.self.buffer.ok.0)) in
    record {
      gave = gathered-more (g.L.Link.told c.args.link.now).left (g.L.Link.told c.loop-count.link).left
          (g.L.Link.told c.receive_behind.new.link).left c.loop-count.self.buffer.items c.as_mut_slice.result.now
          c.receive_behind.new.buffer _ c.loop-count.self.from c.loop-count.self.to c.in_ok-count.count is.front is.gave
          c.as_mut_slice.ensures.value came.kept came.gave now;
      received = gathered-counted (g.L.Link.told c.args.link.now).received (g.L.Link.told c.loop-count.link).received
          (g.L.Link.told c.receive_behind.new.link).received c.loop-count.self.buffer.items _ c.loop-count.self.from
          c.loop-count.self.to c.in_ok-count.count is.front (omega (arith, is.some_room))
          (omega (arith, ap length now, came.within)) is.received came.received;
      front = is.front;
      few = λ some. omega (arith, c.if-self-fewest.false);
      some_room = omega (arith, ap length now, came.within, c.len.ensures, c.if-self-len.false);
      framing = is.framing;
      state = came.state ∙ is.state;
      faults = came.cause.quiet ∙ is.faults;
    }

pub returns-then-count-eq0-clause-received : goal.returns-then-count-eq0-clause-received
returns-then-count-eq0-clause-received g c =
    let is = c.loop-count.invariant in
    let came = c.in_ok-count.ensures in
    let now = with_items_is c.loop-count.self.buffer c.receive_behind.new.buffer
    (omega (arith, came.length, ap length c.as_mut_slice.ensures.value, c.loop-count.self.buffer.ok.0)) in
    gathered-counted (g.L.Link.told c.args.link.now).received (g.L.Link.told c.loop-count.link).received
    (g.L.Link.told c.receive_behind.new.link).received c.loop-count.self.buffer.items _ c.loop-count.self.from
    c.loop-count.self.to c.in_ok-count.count is.front (omega (arith, is.some_room))
    (omega (arith, ap length now, came.within)) is.received came.received

pub loop-count-init : goal.loop-count-init
loop-count-init g c = record {
  gave = gave-nothing (g.L.Link.told c.args.link.now).left;
  received = received-none (g.L.Link.told c.args.link.now).received;
  front = refl;
  few = λ some. omega (arith, some);
  some_room = omega (arith, c.args.self.now.size);
  framing = refl;
  state = refl;
  faults = refl;
}

pub returns-then-count-eq0-clause-before : goal.returns-then-count-eq0-clause-before
returns-then-count-eq0-clause-before g c =
    let is = c.loop-count.invariant in
    let came = c.in_ok-count.ensures in
    let now = with_items_is c.loop-count.self.buffer c.receive_behind.new.buffer
    (omega (arith, came.length, ap length c.as_mut_slice.ensures.value, c.loop-count.self.buffer.ok.0)) in
    gathers (g.L.Link.told c.args.link.now).left (g.L.Link.told c.loop-count.link).left c.loop-count.self.buffer.items _
    c.loop-count.self.from c.loop-count.self.to c.in_ok-count.count c.args.fewest is.front
    (omega (arith, is.some_room)) (omega (arith, ap length now, came.within))
    (omega (arith, ap length now, came.length, ap length c.as_mut_slice.ensures.value, c.loop-count.self.size)) is.gave
    is.few

pub returns-in_err-count-clause-before : goal.returns-in_err-count-clause-before
returns-in_err-count-clause-before g c =
    let is = c.loop-count.invariant in
    let came = c.in_err-count.ensures in
    let now = with_items_is c.loop-count.self.buffer c.receive_behind.new.buffer
    (omega (arith, came.length, ap length c.as_mut_slice.ensures.value, c.loop-count.self.buffer.ok.0)) in
    gathers-same (g.L.Link.told c.args.link.now).left (g.L.Link.told c.loop-count.link).left
    c.loop-count.self.buffer.items
    c.as_mut_slice.result.now c.receive_behind.new.buffer _ c.loop-count.self.from c.loop-count.self.to c.args.fewest
    is.front
    (omega (arith, ap length now, came.length, ap length c.as_mut_slice.ensures.value, is.some_room)) is.gave is.few
    c.as_mut_slice.ensures.value came.kept now
