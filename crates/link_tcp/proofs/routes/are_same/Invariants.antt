use Rattle.std.proofs.Common.{◌≡◌, take}
use Rattle.link_tcp.proofs.routes.are_same.Given as goal

-- so far they have the same routes
abbrev pub invariant-loop-i : goal.invariant-loop-i
invariant-loop-i l = take l.i l.some ≡ take l.i l.others
