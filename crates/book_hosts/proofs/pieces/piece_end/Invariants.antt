use Rattle.std.proofs.Common.{◌≡◌, ◌+◌, drop}
use Rattle.book_hosts.specs.Private.Pieces.{piece_end}
use Rattle.book_hosts.specs.declared.pieces.Place.TheVariants.{Outside}
use Rattle.book_hosts.proofs.pieces.piece_end.Given as goal

abbrev pub invariant-loop-index : goal.invariant-loop-index
invariant-loop-index l = piece_end Outside l.text ≡ l.index + piece_end l.place (drop l.index l.text)
