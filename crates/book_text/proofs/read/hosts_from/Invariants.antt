use Rattle.std.proofs.Common.{◌≡◌, ◌+◌, ◌-◌}
use Rattle.book_hosts.specs.Hosts as hosts
use Rattle.book_text.specs.Reading.{host_at, hosts_from, lines_from, why_no_host}
use Rattle.book_text.proofs.read.hosts_from.Given as goal

-- what is left, read behind the hosts so far, is what all are read as
abbrev pub invariant-loop-index : goal.invariant-loop-index
invariant-loop-index l =
    lines_from host_at hosts.may_stand_last why_no_host (3 + l.index) (l.count - l.index) l.hosts l.rest
    ≡ hosts_from l.count l.text
