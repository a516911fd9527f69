use Rattle.std.proofs.Common.{◌∙◌, sym}
use Rattle.book_hosts.specs.Hosts as hosts
use Rattle.book_text.specs.Reading.{host_at, why_no_host}
use Rattle.book_text.proofs.LineLemmas.{line-failed, line-read}
use Rattle.book_text.proofs.read.hosts_from.Goals as goal

pub returns-in-Err : goal.returns-in-Err
returns-in-Err c =
    line-failed host_at hosts.may_stand_last why_no_host 3 c.args.count c.loop-index.index c.loop-index.hosts
    c.loop-index.rest.now c.in-Err.error _ c.loop-index-test.true c.loop-index.invariant c.in-Err.ensures

pub loop-index-preserved : goal.loop-index-preserved
loop-index-preserved c =
    sym (line-read host_at hosts.may_stand_last why_no_host 3 c.args.count c.loop-index.index c.loop-index.hosts
    c.loop-index.rest.now c.next_host.new.hosts c.in-Ok.after.now c.loop-index-test.true c.in-Ok.ensures)
    ∙ c.loop-index.invariant
