use Rattle.std.proofs.Common.{◌+◌, ap, refl, sym}
use Rattle.std.proofs.lemmas.Option.{get_or_from_slice_get}
use Rattle.audit_replay.specs.Tapes.{Tape}
use Rattle.audit_replay.proofs.OpLemmas.{op-equal, op-other}
use Rattle.audit_replay.proofs.TapeLemmas.{differs, next-within, passes}
use Rattle.audit_replay.proofs.tape.TapePass.replied.Goals as goal

pub entry_at-entry-requires : goal.entry_at-entry-requires
entry_at-entry-requires c =
    next-within c.args.self.now c.in_ok-index.index c.requires.within c.in_ok-index.ensures

pub returns-then-not-same_op : goal.returns-then-not-same_op
returns-then-not-same_op c = (
  refl,
  differs c.args.self.now c.in_ok-index.index c.entry_at-entry.result.now c.args.op.now c.requires.within
      c.in_ok-index.ensures
      (sym (get_or_from_slice_get c.args.self.now.history c.in_ok-index.index c.entry_at-entry.result.now
      c.entry_at-entry.result.now c.entry_at-entry.ensures))
      (op-other c.entry_at-entry.result.now.op c.args.op.now c.same_op.result
      (rw c.get.ensures at c.same_op.ensures) c.if-not-same_op.true),
)

pub returns : goal.returns
returns c =
    passes c.args.self.now _ c.in_ok-index.index c.entry_at-entry.result.now c.args.op.now c.requires
    c.if-not-is_on_tape.ensures.on c.in_ok-index.ensures c.entry_at-entry.ensures
    (op-equal c.entry_at-entry.result.now.op c.args.op.now c.same_op.result (rw c.get.ensures at c.same_op.ensures)
    c.if-not-same_op.false)
    (ap (λ (t : Tape). record t { at = c.in_ok-index.index + 1 }) c.self.view_is)
