use Rattle.std.proofs.Common.{◌≡◌, drop}
use Rattle.book_calls.specs.Book.{empty}
use Rattle.play_definitions.specs.Plays.{with_hosts}
use Rattle.play_seats.proofs.book.opened.Given as goal

-- the hosts so far were noted, and the others follow
abbrev pub invariant-loop-known : goal.invariant-loop-known
invariant-loop-known l = with_hosts l.fn.hosts empty ≡ with_hosts (drop l.known-index l.hosts) l.book
