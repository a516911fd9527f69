use Rattle.play_fetch.proofs.Words.{MatchResult-from_err, Progress, ap, context_of, fetch, rules, window_of}
use Rattle.play_definitions.proofs.WorldLemmas.{end-left, outside-is}
use Rattle.play_definitions.proofs.KeepLemmas.{keeps-pass}
use Rattle.play_fetch.proofs.FetchLemmas.{fetch-begun, fetch-drove, fetch-unbegun}
use Rattle.play_fetch.proofs.fetch.drive_fetch.Goals as goal

pub returns-in_err-wire-clause-came : goal.returns-in_err-wire-clause-came
returns-in_err-wire-clause-came g c =
    MatchResult-from_err c.from_residual.result _ _ (search rules)
    (λ one. fetch-unbegun c.args.body_limit (g.S.Share.account c.args.pass.now).document
    (fetch (context_of c.args.client.now c.args.policies.now c.args.cookies.now c.args.now) c.args.request) _ _
    (search (rules, outside-is)))

pub returns-in_err-outcome-clause-came : goal.returns-in_err-outcome-clause-came
returns-in_err-outcome-clause-came g c =
    MatchResult-from_err c.from_residual-in_err-outcome.result _ _ (search rules)
    (λ one. fetch-begun (search (rules, outside-is)) c.in_ok-wire.ensures.idle c.in_err-outcome.ensures.came
    (search (rules, outside-is)))

pub returns-in_err-outcome-clause-pass : goal.returns-in_err-outcome-clause-pass
returns-in_err-outcome-clause-pass g c =
    keeps-pass c.play_fetch.ensures.kept (search rules) c.play_fetch.ensures.few

pub returns-clause-came : goal.returns-clause-came
returns-clause-came g c =
    fetch-drove (search (rules, outside-is)) c.in_ok-wire.ensures.idle
    (ap (λ (p : Progress). p.shown) c.new-running.ensures) (search rules) c.in_ok-outcome.ensures.came
    (search (rules, outside-is))

pub returns-clause-hung_up : goal.returns-clause-hung_up
returns-clause-hung_up g c =
    end-left (window_of c.close.new.self) (g.L.Link.told c.close.new.link).left c.close.ensures.idle.end

pub returns-clause-pass : goal.returns-clause-pass
returns-clause-pass g c = keeps-pass c.play_fetch.ensures.kept (search rules) c.play_fetch.ensures.few
