use Rattle.std.proofs.Common.{◌∙◌, ◌≡◌, ◌-◌, ◌^◌, arith, refl}
use Rattle.link_http1.specs.Bodies.{IsOpen}
use Rattle.fetch_wire.specs.Wires.{window_of}
use Rattle.fetch_wire.proofs.BodyLemmas.{body-ended, body-fails, body-framed, body-goes-on, body-limited, body-nears}
use Rattle.fetch_wire.proofs.BodyLemmas.{body-over, body-read, body-waits, end-most}
use Rattle.fetch_wire.proofs.WireLemmas.{counts-more, counts-none, gives-counted, gives-none, receives-none}
use Rattle.fetch_wire.proofs.wire.Wire.find_end.Goals as goal

pub returns-in-Over-clause-ended : goal.returns-in-Over-clause-ended
returns-in-Over-clause-ended g c =
    let is = c.loop-end.invariant in
    body-over (window_of c.args.self.now) (g.L.Link.told c.args.link.now).left c.args.self.now.framing c.args.limit
    c.loop-end.reader c.window.result.now (window_of c.loop-end.self) (g.L.Link.told c.loop-end.link).left
    c.window.ensures is.framing is.limit is.received c.in-Over.end c.in-Over.ensures

pub returns-in-Ok-false-clause-ended : goal.returns-in-Ok-false-clause-ended
returns-in-Ok-false-clause-ended g c =
    let is = c.loop-end.invariant in
    let came = c.gather.ensures in
    body-ended (window_of c.args.self.now) (g.L.Link.told c.args.link.now).left c.args.self.now.framing c.args.limit
    c.loop-end.reader c.window.result.now (window_of c.loop-end.self) (g.L.Link.told c.loop-end.link).left
    c.window.ensures is.framing is.limit is.received c.in-More.next (window_of c.gather.new.self)
    (g.L.Link.told c.gather.new.link).left c.last.result c.in-More.ensures came.gave
    (c.in-Ok-false.ensures.end c.in-Ok-false.field-0-test) c.last.ensures

pub returns-in-Err-clause-ended : goal.returns-in-Err-clause-ended
returns-in-Err-clause-ended g c =
    let is = c.loop-end.invariant in
    let came = c.gather.ensures in
    body-fails (window_of c.args.self.now) (g.L.Link.told c.args.link.now).left c.args.self.now.framing c.args.limit
    c.loop-end.reader c.window.result.now (window_of c.loop-end.self) (g.L.Link.told c.loop-end.link).left
    c.window.ensures is.framing is.limit is.received c.in-More.next (window_of c.gather.new.self)
    (g.L.Link.told c.gather.new.link).left c.last-in-Err.result c.count_of.result c.fewest.result c.in-More.ensures
    came.gave
    c.in-Err.ensures.few c.fewest.ensures.open c.last-in-Err.ensures c.count_of.ensures

pub count_of-requires : goal.count_of-requires
count_of-requires g c =
    let is = c.loop-end.invariant in
    let same : c.in-More.next.limit ≡ c.args.limit =
    body-limited (window_of c.args.self.now) (g.L.Link.told c.args.link.now).left c.args.self.now.framing c.args.limit
    c.loop-end.reader c.window.result.now (window_of c.loop-end.self) (g.L.Link.told c.loop-end.link).left
    c.window.ensures is.framing is.limit is.received c.in-More.next c.in-More.ensures in
    end-most c.in-More.next.framing c.in-More.next.limit (2 ^ 32 - 1) _ c.last-in-Err.result
    c.last-in-Err.ensures (omega (arith, same, c.ranges.limit.fits))

pub loop-end-smaller : goal.loop-end-smaller
loop-end-smaller g c =
    let is = c.loop-end.invariant in
    body-nears (window_of c.args.self.now) (g.L.Link.told c.args.link.now).left c.args.self.now.framing c.args.limit
    c.loop-end.reader c.window.result.now (window_of c.loop-end.self) (g.L.Link.told c.loop-end.link).left
    c.window.ensures is.framing is.limit is.received c.in-More.next (window_of c.gather.new.self) c.in-More.ensures
    (c.in-Ok-true.ensures.some c.in-Ok-true.field-0-test)

pub loop-end-preserved : goal.loop-end-preserved
loop-end-preserved g c =
    let is = c.loop-end.invariant in
    let came = c.in-Ok-true.ensures in
    let gathered = c.gather.ensures in
    record {
      received = body-goes-on (window_of c.args.self.now) (g.L.Link.told c.args.link.now).left c.args.self.now.framing
          c.args.limit
          c.loop-end.reader c.window.result.now (window_of c.loop-end.self) (g.L.Link.told c.loop-end.link).left
          c.window.ensures is.framing is.limit is.received c.in-More.next
          (window_of c.gather.new.self) (g.L.Link.told c.gather.new.link).left c.in-More.ensures gathered.gave;
      counts = counts-more (IsOpen c.args.self.now.framing c.args.limit) (window_of c.args.self.now)
          (g.L.Link.told c.args.link.now).left
          (g.L.Link.told c.args.link.now).received c.loop-end.reader.bytes (window_of c.loop-end.self)
          c.in-More.next.bytes
          (window_of c.gather.new.self) (g.L.Link.told c.loop-end.link).received
          (g.L.Link.told c.gather.new.link).received
          (body-read (window_of c.args.self.now) (g.L.Link.told c.args.link.now).left c.args.self.now.framing
          c.args.limit
          c.loop-end.reader c.window.result.now (window_of c.loop-end.self) (g.L.Link.told c.loop-end.link).left
          c.window.ensures is.framing is.limit is.received c.in-More.next c.in-More.ensures)
          gathered.received is.counts
          (body-waits (window_of c.args.self.now) (g.L.Link.told c.args.link.now).left c.args.self.now.framing
          c.args.limit
          c.loop-end.reader c.window.result.now (window_of c.loop-end.self) (g.L.Link.told c.loop-end.link).left
          c.window.ensures is.framing is.limit is.received c.in-More.next
          (window_of c.gather.new.self) is.counts.count c.fewest.result c.in-More.ensures gathered.before
          c.fewest.ensures.open
          is.counts.whole);
      framing = body-framed (window_of c.args.self.now) (g.L.Link.told c.args.link.now).left c.args.self.now.framing
          c.args.limit
          c.loop-end.reader c.window.result.now (window_of c.loop-end.self) (g.L.Link.told c.loop-end.link).left
          c.window.ensures is.framing is.limit is.received c.in-More.next c.in-More.ensures;
      limit = body-limited (window_of c.args.self.now) (g.L.Link.told c.args.link.now).left c.args.self.now.framing
          c.args.limit
          c.loop-end.reader c.window.result.now (window_of c.loop-end.self) (g.L.Link.told c.loop-end.link).left
          c.window.ensures is.framing is.limit is.received c.in-More.next c.in-More.ensures;
      state = came.state ∙ is.state;
      faults = came.cause.quiet ∙ is.faults;
    }

pub returns-in-Over-clause-gives : goal.returns-in-Over-clause-gives
returns-in-Over-clause-gives g c =
    let is = c.loop-end.invariant in
    gives-counted (IsOpen c.args.self.now.framing c.args.limit) (window_of c.args.self.now)
    (g.L.Link.told c.args.link.now).left
    (g.L.Link.told c.args.link.now).received c.loop-end.reader.bytes (window_of c.loop-end.self)
    (g.L.Link.told c.loop-end.link).left (g.L.Link.told c.loop-end.link).received is.received is.counts

pub returns-in-Ok-false-clause-gives : goal.returns-in-Ok-false-clause-gives
returns-in-Ok-false-clause-gives g c =
    let is = c.loop-end.invariant in
    let came = c.gather.ensures in
    gives-counted (IsOpen c.args.self.now.framing c.args.limit) (window_of c.args.self.now)
    (g.L.Link.told c.args.link.now).left
    (g.L.Link.told c.args.link.now).received c.in-More.next.bytes (window_of c.gather.new.self)
    (g.L.Link.told c.gather.new.link).left (g.L.Link.told c.gather.new.link).received
    (body-goes-on (window_of c.args.self.now) (g.L.Link.told c.args.link.now).left c.args.self.now.framing c.args.limit
    c.loop-end.reader c.window.result.now (window_of c.loop-end.self) (g.L.Link.told c.loop-end.link).left
    c.window.ensures is.framing is.limit is.received c.in-More.next
    (window_of c.gather.new.self) (g.L.Link.told c.gather.new.link).left c.in-More.ensures came.gave)
    (counts-more (IsOpen c.args.self.now.framing c.args.limit) (window_of c.args.self.now)
    (g.L.Link.told c.args.link.now).left
    (g.L.Link.told c.args.link.now).received c.loop-end.reader.bytes (window_of c.loop-end.self) c.in-More.next.bytes
    (window_of c.gather.new.self) (g.L.Link.told c.loop-end.link).received (g.L.Link.told c.gather.new.link).received
    (body-read (window_of c.args.self.now) (g.L.Link.told c.args.link.now).left c.args.self.now.framing c.args.limit
    c.loop-end.reader c.window.result.now (window_of c.loop-end.self) (g.L.Link.told c.loop-end.link).left
    c.window.ensures is.framing is.limit is.received c.in-More.next c.in-More.ensures)
    came.received is.counts
    (body-waits (window_of c.args.self.now) (g.L.Link.told c.args.link.now).left c.args.self.now.framing c.args.limit
    c.loop-end.reader c.window.result.now (window_of c.loop-end.self) (g.L.Link.told c.loop-end.link).left
    c.window.ensures is.framing is.limit is.received c.in-More.next
    (window_of c.gather.new.self) is.counts.count c.fewest.result c.in-More.ensures came.before c.fewest.ensures.open
    is.counts.whole))

pub returns-in-Err-clause-gives : goal.returns-in-Err-clause-gives
returns-in-Err-clause-gives g c =
    let is = c.loop-end.invariant in
    let came = c.gather.ensures in
    gives-counted (IsOpen c.args.self.now.framing c.args.limit) (window_of c.args.self.now)
    (g.L.Link.told c.args.link.now).left
    (g.L.Link.told c.args.link.now).received c.in-More.next.bytes (window_of c.gather.new.self)
    (g.L.Link.told c.gather.new.link).left (g.L.Link.told c.gather.new.link).received
    (body-goes-on (window_of c.args.self.now) (g.L.Link.told c.args.link.now).left c.args.self.now.framing c.args.limit
    c.loop-end.reader c.window.result.now (window_of c.loop-end.self) (g.L.Link.told c.loop-end.link).left
    c.window.ensures is.framing is.limit is.received c.in-More.next
    (window_of c.gather.new.self) (g.L.Link.told c.gather.new.link).left c.in-More.ensures came.gave)
    (counts-more (IsOpen c.args.self.now.framing c.args.limit) (window_of c.args.self.now)
    (g.L.Link.told c.args.link.now).left
    (g.L.Link.told c.args.link.now).received c.loop-end.reader.bytes (window_of c.loop-end.self) c.in-More.next.bytes
    (window_of c.gather.new.self) (g.L.Link.told c.loop-end.link).received (g.L.Link.told c.gather.new.link).received
    (body-read (window_of c.args.self.now) (g.L.Link.told c.args.link.now).left c.args.self.now.framing c.args.limit
    c.loop-end.reader c.window.result.now (window_of c.loop-end.self) (g.L.Link.told c.loop-end.link).left
    c.window.ensures is.framing is.limit is.received c.in-More.next c.in-More.ensures)
    came.received is.counts
    (body-waits (window_of c.args.self.now) (g.L.Link.told c.args.link.now).left c.args.self.now.framing c.args.limit
    c.loop-end.reader c.window.result.now (window_of c.loop-end.self) (g.L.Link.told c.loop-end.link).left
    c.window.ensures is.framing is.limit is.received c.in-More.next
    (window_of c.gather.new.self) is.counts.count c.fewest.result c.in-More.ensures came.before c.fewest.ensures.open
    is.counts.whole))

pub returns-in_err-reader-clause-gives : goal.returns-in_err-reader-clause-gives
returns-in_err-reader-clause-gives g c =
    gives-none (IsOpen c.args.self.now.framing c.args.limit) _ (g.L.Link.told c.args.link.now).left
    (g.L.Link.told c.args.link.now).received

pub loop-end-init : goal.loop-end-init
loop-end-init g c = record {
  received = rw c.in_ok-reader.ensures (receives-none (window_of c.args.self.now) (g.L.Link.told c.args.link.now).left);
  counts = rw c.in_ok-reader.ensures
      (counts-none (IsOpen c.args.self.now.framing c.args.limit) (window_of c.args.self.now)
      (g.L.Link.told c.args.link.now).left
      (g.L.Link.told c.args.link.now).received);
  framing = rw c.in_ok-reader.ensures refl;
  limit = rw c.in_ok-reader.ensures refl;
  state = refl;
  faults = refl;
}
