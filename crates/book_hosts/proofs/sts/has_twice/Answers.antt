use Rattle.std.proofs.Common.{drop, sym, ap, ◌∙◌, ◌+◌}
use Rattle.book_hosts.proofs.TwiceLemmas.{directive-there, from-new, from-old, names_twice, names_twice-more}
use Rattle.book_hosts.proofs.TwiceLemmas.{names_twice-none, names_twice-there}
use Rattle.book_hosts.proofs.sts.has_twice.Goals as goal

pub loop-directive-init : goal.loop-directive-init
loop-directive-init c = rw c.new-names.ensures.empty (names_twice-none c.args.directives.now)

pub returns-then-not-branch : goal.returns-then-not-branch
returns-then-not-branch c =
    let there = directive-there c.args.directives.now c.loop-directive.directive-index c.directive-item.result
    c.loop-directive-test.true c.directive-item.is in
    sym (names_twice-there c.loop-directive.names.keys c.as_slice.result c.directive-item.result
    (drop (c.loop-directive.directive-index + 1) c.args.directives.now) c.as_slice.ensures
    (from-old _ _ c.in_ok-insert.ensures.added c.if-not-branch.true))
    ∙ sym (ap (names_twice c.loop-directive.names.keys) there) ∙ c.loop-directive.invariant

pub loop-directive-preserved : goal.loop-directive-preserved
loop-directive-preserved c =
    let there = directive-there c.args.directives.now c.loop-directive.directive-index c.directive-item.result
    c.loop-directive-test.true c.directive-item.is in
    names_twice-more c.loop-directive.names.keys c.insert.new.self.keys c.as_slice.result c.directive-item.result
    (drop (c.loop-directive.directive-index + 1) c.args.directives.now) c.as_slice.ensures
    c.in_ok-insert.ensures.updates.0 (from-new _ _ c.in_ok-insert.ensures.added c.if-not-branch.false)
    ∙ sym (ap (names_twice c.loop-directive.names.keys) there) ∙ c.loop-directive.invariant
