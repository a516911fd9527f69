use Rattle.play_fetch.proofs.Words.{MatchResult-from_err, arith, at_time, lent_setting, refl, rules}
use Rattle.play_definitions.proofs.WorldLemmas.{refuses-none}
use Rattle.play_fetch.proofs.FetchLemmas.{cut-unbegun, fetching-cut, fetching-room, fetching-start, fetching-went}
use Rattle.play_fetch.proofs.FetchLemmas.{few-acts}
use Rattle.play_fetch.proofs.fetch.play_fetch.Goals as goal

pub returns-in_err-step-clause-came : goal.returns-in_err-step-clause-came
returns-in_err-step-clause-came g c = MatchResult-from_err c.from_residual.result _ _ c.from_residual.ensures.0
    (λ one. cut-unbegun refl refl (refuses-none _))

pub loop-step-init : goal.loop-step-init
loop-step-init g c = record {
  fetching = fetching-start refl c.in_ok-step.ensures.process c.requires.timely;
  kept = search rules;
}

pub overflow_add-acts : goal.overflow_add-acts
overflow_add-acts g c = omega (
  arith,
  fetching-room (rw c.in-Going.is at c.loop-step.invariant.fetching),
  few-acts (at_time (lent_setting c.args.player.now.lent.now) c.args.now) c.args.request
      (omega (arith, c.len-policies.ensures, c.len-policies.type_inv)),
)

pub returns-in_err-step-in-Going-clause-came : goal.returns-in_err-step-in-Going-clause-came
returns-in_err-step-in-Going-clause-came g c =
    MatchResult-from_err c.from_residual-in_err-step-in-Going.result _ _
    c.from_residual-in_err-step-in-Going.ensures.0
    (λ one. fetching-cut (rw c.in-Going.is at c.loop-step.invariant.fetching) c.in_err-step-in-Going.ensures.went)

pub loop-step-preserved : goal.loop-step-preserved
loop-step-preserved g c = record {
  fetching = fetching-went (rw c.in-Going.is at c.loop-step.invariant.fetching) c.in_ok-step-in-Going.ensures.went;
  kept = search rules;
}
