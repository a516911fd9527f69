use Rattle.std.proofs.Common.{◌≡◌, ◌++◌}
use Rattle.book_hosts.specs.Private.Index.{listed}
use Rattle.book_hosts.proofs.walk.copies.Given as goal

-- the copies so far and those of what is left are those of all
abbrev pub invariant-loop-name : goal.invariant-loop-name
invariant-loop-name l =
    l.hosts.items ++ listed (λ name. name.items) l.name-iterator ≡ listed (λ name. name.items) l.terms.entries
