use Rattle.std.proofs.Common.{◌≡◌}
use Rattle.book_hosts.specs.Private.Index.{listed}
use Rattle.book_hosts.specs.Private.Terms.{is_under}
use Rattle.book_hosts.proofs.walk.is_under.Given as goal

-- none of the hosts so far is above the name
abbrev pub invariant-loop-host : goal.invariant-loop-host
invariant-loop-host l =
    is_under (listed (λ name. name.items) l.terms.entries) l.name l.now
    ≡ is_under (listed (λ name. name.items) l.host-iterator) l.name l.now
