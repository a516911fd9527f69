use Rattle.play_fetch.proofs.Words.{MatchResult-from_err, at_time, lent_setting}
use Rattle.play_definitions.proofs.KeepLemmas.{same-terms}
use Rattle.play_fetch.proofs.FetchLemmas.{act-cut, cut-unbegun}
use Rattle.play_fetch.proofs.fetch.go_on.Goals as goal

pub returns-in_err-input-clause-went : goal.returns-in_err-input-clause-went
returns-in_err-input-clause-went g c = MatchResult-from_err c.from_residual.result _ _ c.from_residual.ensures.0
    (λ one. cut-unbegun (same-terms c.answer.ensures.kept) c.answer.ensures.run c.in_err-input.ensures.refused)

pub returns-in_err-step-clause-went : goal.returns-in_err-step-clause-went
returns-in_err-step-clause-went g c =
    MatchResult-from_err c.from_residual-in_err-step.result _ _ c.from_residual-in_err-step.ensures.0
    (λ one. act-cut (at_time (lent_setting c.args.player.now.lent.now) c.args.fetching.now) c.args.fetching c.args.act
    c.in_ok-input.input (same-terms c.answer.ensures.kept) c.in_ok-input.ensures.fits c.in_ok-input.ensures.came
    (rw (c.into_inner-act.ensures, c.answer.ensures.run) at c.in_err-step.ensures.cut))
