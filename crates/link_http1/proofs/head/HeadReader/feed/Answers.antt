use Rattle.std.proofs.Common.{◌++◌, arith, subst, sym}
use Rattle.link_http1.specs.Private.HeadPushing.{IsPushed}
use Rattle.link_http1.specs.Private.HeadReading.{IsLine}
use Rattle.link_http1.specs.declared.head.Pushed.{Pushed}
use Rattle.link_http1.proofs.ReaderLemmas.{fed-bad, fed-final, fed-long}
use Rattle.link_http1.proofs.head.HeadReader.feed.Goals as goal

pub returns-then-line-room : goal.returns-then-line-room
returns-then-line-room c =
    fed-long c.args.self c.args.piece.now c.loop-rest.reader c.loop-rest.rest.now c.split_at.result.0.now
    c.split_at.result.1.now c.loop-rest.invariant.whole c.split_at.ensures.by_index.0 c.loop-rest.room
    c.loop-rest.invariant.unfinished.undecided
    (subst IsLine (sym c.split_at.ensures.front) c.line_length.ensures.line) c.loop-rest.invariant.room_is
    c.if-line-room.true

pub overflow_sub-result : goal.overflow_sub-result
overflow_sub-result c = omega (arith, c.split_at.ensures.back_len, c.loop-rest.invariant.within)

pub returns-in-Final : goal.returns-in-Final
returns-in-Final c = (
  omega arith,
  fed-final c.args.self c.args.piece.now c.loop-rest.reader c.loop-rest.rest.now c.split_at.result.0.now
      c.split_at.result.1.now c.loop-rest.invariant.whole c.split_at.ensures.by_index.0 c.loop-rest.room c.in-Final.head
      c.loop-rest.invariant.unfinished.undecided
      (subst IsLine (sym c.split_at.ensures.front) c.line_length.ensures.line)
      c.loop-rest.invariant.room_is c.if-line-room.false
      (omega (arith, c.split_at.ensures.back_len, c.loop-rest.invariant.within))
      (subst (λ (p : Pushed). IsPushed (c.loop-rest.reader ++ c.split_at.result.0.now) p) c.in-Final.is
      c.in_ok-next.ensures),
)

pub returns-in-Bad : goal.returns-in-Bad
returns-in-Bad c =
    fed-bad c.args.self c.args.piece.now c.loop-rest.reader c.loop-rest.rest.now c.split_at.result.0.now
    c.split_at.result.1.now c.loop-rest.invariant.whole c.split_at.ensures.by_index.0 c.loop-rest.room
    c.loop-rest.invariant.unfinished.undecided (subst IsLine (sym c.split_at.ensures.front) c.line_length.ensures.line)
    c.loop-rest.invariant.room_is c.if-line-room.false
    (omega (arith, c.split_at.ensures.back_len, c.loop-rest.invariant.within))
    (subst (λ (p : Pushed). IsPushed (c.loop-rest.reader ++ c.split_at.result.0.now) p) c.in-Bad.is
    c.in_ok-next.ensures)
