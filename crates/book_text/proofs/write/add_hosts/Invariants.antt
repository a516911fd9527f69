use Rattle.std.proofs.Common.{◌≡◌, ◌++◌, take}
use Rattle.std.specs.List.{AllByRecursion, flat_map}
use Rattle.book_text.specs.Texts.{FitsHost, host_line}
use Rattle.book_text.proofs.write.add_hosts.Given as goal

-- the lines of the hosts so far are written, and their numbers are of 64 bits
abbrev pub invariant-loop-known : goal.invariant-loop-known
invariant-loop-known l =
    (l.text ≡ l.fn.text ++ flat_map host_line (take l.known-index l.hosts))
    × AllByRecursion FitsHost (take l.known-index l.hosts)
