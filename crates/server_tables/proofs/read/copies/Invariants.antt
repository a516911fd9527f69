use Rattle.std.proofs.Common.{◌≡◌, map, take}
use Rattle.server_tables.proofs.read.copies.Given as goal

abbrev pub invariant-loop-text : goal.invariant-loop-text
invariant-loop-text l = l.list ≡ map (λ text. text.now) (take l.text-index l.texts)
