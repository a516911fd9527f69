-- A fetch inside a run.
use Rattle.std.proofs.Common.{◌≡◌, List, [], ◌∷◌, ◌++◌, ap, sym, subst, append_assoc}
use Rattle.std.proofs.lemmas.List.{append-nil}
use Rattle.fetch_acts.specs.declared.act.Act.{Act}
use Rattle.fetch_acts.specs.declared.act.Input.{Input}
use Rattle.fetch_acts.specs.Process.{Process, act}
use Rattle.fetch_acts.specs.Traces as fetches
use Rattle.fetch_acts.specs.Traces.{Trace, with_events}
use Rattle.value_requests.specs.declared.response.Outcome.{Outcome}
use Rattle.script_events.specs.declared.events.Event.{Event}
use Rattle.script_runs.specs.Play.{events_of}
use Rattle.script_runs.specs.Runs.{Next, Progress, after_events, embed}
use Rattle.script_runs.specs.Traces.{PlayTrace, stop, stepped}

-- no events more
after-none : (progress : Progress) → after_events [] progress ≡ progress
after-none progress = ap (λ (l : List Event). let p : Progress = record progress { shown = l } in p)
    (append-nil progress.shown)

-- these events more, and then those
after-after : (a b : List Event) (progress : Progress)
    → after_events b (after_events a progress) ≡ after_events (a ++ b) progress
after-after a b progress = ap (λ (l : List Event). let p : Progress = record progress { shown = l } in p)
    (append_assoc progress.shown a b)

module _ {World : Type 0} (answers : World → Act → Input → World → Type 0)
    (settles : Event → World → World → Type 0) where
  -- what a fetch does in a world it does inside a run, whatever follows
  pub embedded : {p q : Process} {a b : World} {t : List Input} {e : List Event}
      → Trace (with_events answers events_of) p a t e q b → (next : Outcome → Next) (progress : Progress)
      → PlayTrace answers settles (embed p next progress) a t e (embed q next (after_events e progress)) b
  embedded {q = q} {b = b} fetches.stop next progress =
      subst (λ (m : Progress). PlayTrace answers settles (embed q next progress) b [] [] (embed q next m) b)
      (sym (after-none progress)) stop
  embedded {q = q} {a = a} {b = b} (fetches.stepped {mid = mid} {tape = tape} {made = made} {events = events} request
      first after input is fit x) next progress =
      subst (λ (l : List Event). PlayTrace answers settles (embed (act request first after) next progress) a
      (input ∷ tape) (l ++ events) (embed q next (after_events (l ++ events) progress)) b) (sym is.1)
      (subst (λ (m : Progress). PlayTrace answers settles (embed (act request first after) next progress) a
      (input ∷ tape) (events_of first input ++ events) (embed q next m) b)
      (after-after (events_of first input) events progress)
      (stepped request first (λ i. embed (after i) next (after_events (events_of first i) progress)) input is.0 fit
      (embedded x next (after_events (events_of first input) progress))))
