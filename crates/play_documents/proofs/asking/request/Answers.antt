use Rattle.play_documents.proofs.Words.{[], ◌∙◌, ◌∷◌, Event, MatchResult-from_err, after_events, ap, refl, window_of}
use Rattle.play_definitions.proofs.WorldLemmas.{end-left}
use Rattle.play_definitions.proofs.KeepLemmas.{same-terms}
use Rattle.play_documents.proofs.PartLemmas.{cut-fetch, cut-here, played-cut, played-event, played-fetch, played-then}
use Rattle.play_documents.proofs.PartLemmas.{plays-unbegun, settles-fault, settles-outcome, stands-as}
use Rattle.play_documents.proofs.asking.request.Goals as goal

pub returns-in_err-show-in-Err-clause-came : goal.returns-in_err-show-in-Err-clause-came
returns-in_err-show-in-Err-clause-came g c = plays-unbegun _ _ c.from_residual.result c.from_residual.ensures.0
    (stands-as refl refl c.in_err-show-in-Err.ensures.err)

pub returns-in_ok-show-in-Err-clause-came : goal.returns-in_ok-show-in-Err-clause-came
returns-in_ok-show-in-Err-clause-came g c = rw c.in-Err.is (record {
  played = played-event refl refl (c.in_ok-show-in-Err.ensures.ok
      ∙ ap (λ (e : Event). after_events (e ∷ []) c.args.player.now.running.now) c.fault_event.ensures)
      (settles-fault c.args.kind c.in-Err.fault _);
  rests = c.requires.rests;
})

pub returns-in_err-outcome-in-Ok-clause-came : goal.returns-in_err-outcome-in-Ok-clause-came
returns-in_err-outcome-in-Ok-clause-came g c =
    let none = c.from_residual-in_err-outcome-in-Ok in
    rw c.in-Ok.is (MatchResult-from_err none.result _ _ none.ensures.0
    (λ one. cut-fetch c.args.kind (rw c.now-now.ensures.now at c.in_err-outcome-in-Ok.ensures.came)))

pub returns-in_err-end_fetch-in-Ok-clause-came : goal.returns-in_err-end_fetch-in-Ok-clause-came
returns-in_err-end_fetch-in-Ok-clause-came g c =
    let none = c.from_residual-in_err-end_fetch-in-Ok in
    rw c.in-Ok.is (MatchResult-from_err none.result _ _ none.ensures.0
    (λ one. rw c.in_err-end_fetch-in-Ok.ensures.unshown (played-cut (played-fetch c.args.kind
    (rw c.now-now.ensures.now at c.in_ok-outcome-in-Ok.ensures.came)) cut-here)))

pub returns-in_ok-end_fetch-in-Ok-clause-came : goal.returns-in_ok-end_fetch-in-Ok-clause-came
returns-in_ok-end_fetch-in-Ok-clause-came g c =
    let last = c.end_fetch.new.player in
    let ended = c.in_ok-end_fetch-in-Ok.ensures.ended in
    rw c.in-Ok.is (record {
      played = played-then
          (played-fetch c.args.kind (rw c.now-now.ensures.now at c.in_ok-outcome-in-Ok.ensures.came))
          (played-event (same-terms c.end_fetch.ensures.kept) refl
          (ended.0 ∙ ap (λ (e : Event). after_events (e ∷ []) c.fetch.new.player.running.now) c.outcome_event.ensures)
          (settles-outcome c.args.kind c.in_ok-outcome-in-Ok.outcome _ _
          (record { idle = ended.1; outside_is = c.end_fetch.ensures.outside })));
      rests = end-left (window_of last.wire.now) (g.L.Link.told last.link.now).left ended.1.end;
    })
