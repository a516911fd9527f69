use Rattle.std.proofs.Common.{ap, sym, ◌∙◌}
use Rattle.book_hosts.specs.Private.Terms.{begins_under}
use Rattle.book_hosts.proofs.UnderLemmas.{under-ended, under-here, under-later}
use Rattle.book_hosts.proofs.hosts.has_known_end.Goals as goal

pub returns-then-begins_under : goal.returns-then-begins_under
returns-then-begins_under c =
    sym (c.loop-start.invariant
    ∙ under-here c.args.index.now c.args.name.now c.args.now c.loop-start.start c.loop-start-test.true
    (ap (λ text. begins_under c.args.index.now text c.args.now) (sym c.split_at.ensures.back)
    ∙ sym c.begins_under.ensures ∙ c.if-begins_under.true))

pub loop-start-preserved : goal.loop-start-preserved
loop-start-preserved c =
    c.loop-start.invariant ∙ under-later c.args.index.now c.args.name.now c.args.now c.loop-start.start
    c.loop-start-test.true
    (ap (λ text. begins_under c.args.index.now text c.args.now) (sym c.split_at.ensures.back)
    ∙ sym c.begins_under.ensures ∙ c.if-begins_under.false)

pub returns : goal.returns
returns c = sym (c.loop-start.invariant
    ∙ under-ended c.args.index.now c.args.name.now c.args.now c.loop-start.start c.loop-start-test.false)
