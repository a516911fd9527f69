use Rattle.std.proofs.Common.{◌≡◌, map, take}
use Rattle.audit_text.proofs.lists.copies.Given as goal

abbrev pub invariant-loop-part : goal.invariant-loop-part
invariant-loop-part l = l.list.items ≡ map (λ part. part.now) (take l.part-index l.parts)
