use Rattle.std.proofs.Common.{◌≡◌, ◌||◌, ap, sym, ◌∙◌}
use Rattle.book_hosts.specs.Hosts.{matches_host}
use Rattle.book_hosts.specs.Private.Terms.{holds_alive, is_under}
use Rattle.book_hosts.proofs.UnderLemmas.{matches-parts}
use Rattle.book_hosts.proofs.hosts.HstsList.is_known.Goals as goal

pub returns-then-holds_alive-clause-known : goal.returns-then-holds_alive-clause-known
returns-then-holds_alive-clause-known c =
    let parts : matches_host c.args.self.now c.args.host.now c.args.now
    ≡ (holds_alive c.self.inside.index c.args.host.now c.args.now
    || is_under c.self.inside.index c.args.host.now c.args.now) =
    ap (λ hosts. matches_host hosts c.args.host.now c.args.now) (sym c.self.view_is)
    ∙ matches-parts c.self.inside.index c.args.host.now c.args.now in
    c.if-holds_alive.true
    ∙ sym (parts ∙ ap (λ b. b || is_under c.self.inside.index c.args.host.now c.args.now)
    (sym c.holds_alive.ensures ∙ c.if-holds_alive.true))

pub returns-else-holds_alive-clause-known : goal.returns-else-holds_alive-clause-known
returns-else-holds_alive-clause-known c =
    let parts : matches_host c.args.self.now c.args.host.now c.args.now
    ≡ (holds_alive c.self.inside.index c.args.host.now c.args.now
    || is_under c.self.inside.index c.args.host.now c.args.now) =
    ap (λ hosts. matches_host hosts c.args.host.now c.args.now) (sym c.self.view_is)
    ∙ matches-parts c.self.inside.index c.args.host.now c.args.now in
    c.is_under.ensures
    ∙ sym (parts ∙ ap (λ b. b || is_under c.self.inside.index c.args.host.now c.args.now)
    (sym c.holds_alive.ensures ∙ c.if-holds_alive.false))
