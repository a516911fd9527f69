-- Traces, one after another, and what they come to.
use Rattle.std.proofs.Common.{◌≡◌, List, [], ◌∷◌, ◌++◌, Some, IsTrue, refl, ap, sym, subst, ◌∙◌, append_assoc}
use Rattle.std.proofs.lemmas.List.{append-nil}
use Rattle.fetch_acts.specs.Process.{Process, ended, act, fits}
use Rattle.fetch_acts.specs.declared.act.Act.{Act}
use Rattle.value_requests.specs.declared.response.Outcome.{Outcome}
use Rattle.fetch_acts.specs.declared.act.Input.{Input}
use Rattle.value_requests.specs.declared.request.Request.{Request}
use Rattle.fetch_acts.specs.Readings.{Shown, before, shown as told}
use Rattle.fetch_acts.specs.Traces.{Trace, stop, stepped}

pub before-before : {Event : Type 0} (a b : List Event) (rest : Shown Event)
    → before a (before b rest) ≡ before (a ++ b) rest
before-before a b rest = rw append_assoc refl

module _ {World Event : Type 0} (exchange : World → Act → Input → List Event → World → Type 0) where
  pub trace-append : {p q r : Process} {a b c : World} {t u : List Input} {e f : List Event}
      → Trace exchange p a t e q b → Trace exchange q b u f r c → Trace exchange p a (t ++ u) (e ++ f) r c
  trace-append stop y = y
  trace-append (stepped request first after input is fit x) y = rw append_assoc
      (stepped request first after input is fit (trace-append x y))

  -- one exchange
  pub trace-one : (request : Request) (first : Act) (after : Input
      → Process) (input : Input) (a b : World) (shown : List Event) → exchange a first input shown b
      → IsTrue (fits first input) → Trace exchange (act request first after) a (input ∷ []) shown (after input) b
  trace-one request first after input a b shown is fit = subst (λ (e : List Event). Trace exchange
      (act request first after) a (input ∷ []) e (after input) b) (append-nil shown)
      (stepped request first after input is fit stop)

  module _ (words : Act → Input → List Event) (exact : (a : World) (first : Act) (input : Input) (shown : List Event)
      (b : World) → exchange a first input shown b → shown ≡ words first input) where
    -- what is told over the tape of a trace is what was shown, and then what is told of what is left
    pub trace-told : {p q : Process} {a b : World} {tape : List Input} {events : List Event}
        → Trace exchange p a tape events q b → (more : List Input)
        → told words p (tape ++ more) ≡ before events (told words q more)
    trace-told stop more = refl
    trace-told {q = q} (stepped {made = made} {events = events} request first after input is fit x) more = rw
        (fit, trace-told x more, ← exact _ first input _ _ is) (before-before made events (told words q more))

    -- a trace to the end gives its tape and what the definition tells over it
    pub trace-tells : {p : Process} {a b : World} {tape : List Input} {events : List Event} → (outcome : Outcome)
        → Trace exchange p a tape events (ended outcome) b
        → told words p tape ≡ record { events = events; outcome = Some outcome }
    trace-tells {p = p} {tape = tape} {events = events} outcome x =
        ap (λ (t : List Input). told words p t) (sym (append-nil tape)) ∙ trace-told x []
        ∙ ap (λ (e : List Event). let s : Shown Event = record { events = e; outcome = Some outcome } in s)
        (append-nil events)
