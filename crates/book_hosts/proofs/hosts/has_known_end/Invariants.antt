use Rattle.std.proofs.Common.{◌≡◌, drop}
use Rattle.book_hosts.specs.Private.Terms.{is_under}
use Rattle.book_hosts.proofs.hosts.has_known_end.Given as goal

abbrev pub invariant-loop-start : goal.invariant-loop-start
invariant-loop-start l = is_under l.index l.name l.now ≡ is_under l.index (drop l.start l.name) l.now
