-- Traces of runs, one after another, and what they come to.
use Rattle.std.proofs.Common.{◌≡◌, List, [], ◌∷◌, ◌++◌, refl, ap, append_assoc}
use Rattle.fetch_acts.specs.declared.act.Act.{Act}
use Rattle.fetch_acts.specs.declared.act.Input.{Input}
use Rattle.script_events.specs.declared.events.Event.{Event}
use Rattle.script_runs.specs.Play.{Play, PlayRun, emit, events_of, run_play, shows}
use Rattle.script_runs.specs.Traces.{PlayTrace, stop, shown, stepped}

-- the events of two parts, and then the rest
pub shows-append : (a b : List Event) (rest : PlayRun) → shows a (shows b rest) ≡ shows (a ++ b) rest
shows-append a b rest = rw append_assoc refl

module _ {World : Type 0} (answers : World → Act → Input → World → Type 0)
    (settles : Event → World → World → Type 0) where
  pub play-append : {p q r : Play} {a b c : World} {t u : List Input} {e f : List Event}
      → PlayTrace answers settles p a t e q b → PlayTrace answers settles q b u f r c
      → PlayTrace answers settles p a (t ++ u) (e ++ f) r c
  play-append stop y = y
  play-append (shown event is x) y = shown event is (play-append x y)
  play-append (stepped request first after input is fit x) y =
      rw append_assoc (stepped request first after input is fit (play-append x y))

  -- what a trace says of runs over tapes
  pub play-run : {p q : Play} {a b : World} {t : List Input} {e : List Event}
      → PlayTrace answers settles p a t e q b → (u : List Input) → run_play p (t ++ u) ≡ shows e (run_play q u)
  play-run stop u = refl
  play-run (shown event is x) u = ap (shows (event ∷ [])) (play-run x u)
  play-run {q = q} (stepped {events = events} request first after input is fit x) u =
      rw (fit, play-run x u) (shows-append (events_of first input) events (run_play q u))

  -- one event
  pub play-event : (event : Event) (p : Play) (a b : World) → settles event a b
      → PlayTrace answers settles (emit event p) a [] (event ∷ []) p b
  play-event event p a b is = shown event is stop

-- a trace in one world is one in another where each answer is one there
module _ {A B : Type 0} (answers : A → Act → Input → A → Type 0) (settles : Event → A → A → Type 0)
    (other : B → Act → Input → B → Type 0) (rests : Event → B → B → Type 0) (f : A → B)
    (maps : (a : A) (first : Act) (input : Input) (b : A) → answers a first input b → other (f a) first input (f b))
    (stays : (event : Event) (a b : A) → settles event a b → rests event (f a) (f b)) where
  pub play-map : {p q : Play} {a b : A} {t : List Input} {e : List Event} → PlayTrace answers settles p a t e q b
      → PlayTrace other rests p (f a) t e q (f b)
  play-map stop = stop
  play-map {a = a} (shown {mid = mid} event is x) = shown event (stays event a mid is) (play-map x)
  play-map {a = a} (stepped {mid = mid} request first after input is fit x) =
      stepped request first after input (maps a first input mid is) fit (play-map x)
