use Rattle.std.proofs.Common.{None, Some, sym}
use Rattle.book_hosts.proofs.CuttingLemmas.{field-last, field-others, field-step, piece_end-within}
use Rattle.book_hosts.specs.declared.pieces.Place.TheVariants.{Outside}
use Rattle.book_hosts.proofs.directives.directives_of.Goals as goal

pub split_at-requires : goal.split_at-requires
split_at-requires c = rw c.piece_end.ensures (piece_end-within Outside _)

pub returns-then-not-branch : goal.returns-then-not-branch
returns-then-not-branch c =
    sym (field-step c.loop-directives.rest.now c.loop-directives.directives _ None c.split_at.result.0.now
    c.split_at.result.1.now c.piece_end.result c.piece_end.ensures c.split_at.ensures.front
    c.split_at.ensures.back c.loop-directives.invariant (rw c.if-not-branch.true at c.in_ok-add_piece.ensures))

pub returns-in-empty : goal.returns-in-empty
returns-in-empty c =
    let whole = field-step c.loop-directives.rest.now c.loop-directives.directives _ (Some c.add_piece.new.directives)
    c.split_at.result.0.now c.split_at.result.1.now c.piece_end.result c.piece_end.ensures
    c.split_at.ensures.front c.split_at.ensures.back c.loop-directives.invariant
    (rw c.if-not-branch.false at c.in_ok-add_piece.ensures) in
    field-last _ c.add_piece.new.directives c.split_at.result.1.now c.in-empty.len_below whole

pub loop-directives-preserved : goal.loop-directives-preserved
loop-directives-preserved c =
    let whole = field-step c.loop-directives.rest.now c.loop-directives.directives _ (Some c.add_piece.new.directives)
    c.split_at.result.0.now c.split_at.result.1.now c.piece_end.result c.piece_end.ensures
    c.split_at.ensures.front c.split_at.ensures.back c.loop-directives.invariant
    (rw c.if-not-branch.false at c.in_ok-add_piece.ensures) in
    field-others _ c.add_piece.new.directives c.split_at.result.1.now c.in-len1-up.len_at_least whole
