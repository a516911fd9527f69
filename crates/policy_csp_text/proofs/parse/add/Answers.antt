use Rattle.std.proofs.Common.{ap, map, sym, ◌∙◌}
use Rattle.std.specs.List.{list_any}
use Rattle.std.specs.Prelude.{bytes_eq, option_map}
use Rattle.policy_csp_text.specs.Private.Collecting.{directives_in}
use Rattle.policy_csp_text.proofs.NameLemmas.{token-added, token-passed}
use Rattle.policy_csp_text.proofs.parse.add.Goals as goal

pub returns-in_ok-push-clause-added : goal.returns-in_ok-push-clause-added
returns-in_ok-push-clause-added c =
    ap (λ tokens. directives_in (map (λ first. first.now) tokens)) c.in_ok-push.ensures.items
    ∙ (token-added (λ key. key.items) c.args.names.now.keys c.insert.new.self.keys c.args.firsts.now.items
    c.in-Some.name c.args.token c.requires
    (ap (option_map (λ bytes. bytes.items)) (sym c.in-Some.is) ∙ c.in_ok-name.ensures)
    (sym c.in_ok-insert.ensures.added ∙ c.if-branch.true) c.in_ok-insert.ensures.keys).0

pub returns-in_ok-push-clause-names : goal.returns-in_ok-push-clause-names
returns-in_ok-push-clause-names c = λ name.
    (token-added (λ key. key.items) c.args.names.now.keys c.insert.new.self.keys c.args.firsts.now.items
    c.in-Some.name c.args.token c.requires
    (ap (option_map (λ bytes. bytes.items)) (sym c.in-Some.is) ∙ c.in_ok-name.ensures)
    (sym c.in_ok-insert.ensures.added ∙ c.if-branch.true) c.in_ok-insert.ensures.keys).1 name
    ∙ ap (λ tokens. list_any (λ other. bytes_eq name other.name) (directives_in (map (λ first. first.now) tokens)))
    (sym c.in_ok-push.ensures.items)

pub returns-else-branch-clause-added : goal.returns-else-branch-clause-added
returns-else-branch-clause-added c =
    token-passed (λ key. key.items) c.args.names.now.keys c.args.firsts.now.items c.in-Some.name c.args.token c.requires
    (ap (option_map (λ bytes. bytes.items)) (sym c.in-Some.is) ∙ c.in_ok-name.ensures)
    (sym c.in_ok-insert.ensures.added ∙ c.if-branch.false)
