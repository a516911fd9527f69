use Rattle.std.proofs.Common.{◌≡◌, drop}
use Rattle.audit_replay.specs.Private.Ops.{texts_eq}
use Rattle.audit_replay.proofs.ops.same_texts.Given as goal

abbrev pub invariant-loop-index : goal.invariant-loop-index
invariant-loop-index l = texts_eq l.one l.other ≡ texts_eq (drop l.index l.one) (drop l.index l.other)
