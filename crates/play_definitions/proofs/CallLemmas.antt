-- What a run adds to its document's entries.
use Rattle.script_events.specs.declared.events.Event.TheVariants as event
use Rattle.std.proofs.lemmas.List.{length-append}
use Rattle.value_lemmas.proofs.Lists.{AllByRecursion-append}
use Rattle.book_calls.specs.declared.entry.Entry.{Entry}
use Rattle.script_runs.specs.Traces.{stop}
use Rattle.std.proofs.Common.{ap, append_assoc, arith, refl, sym, ◌∙◌}
use Rattle.std.proofs.lemmas.List.{append-nil}
use Rattle.std.specs.List.{AllByRecursion}
use Rattle.std.specs.Prelude.{List, [], length, ℕ, ◌++◌, ◌+◌, ◌∷◌, ◌≡◌}
use Rattle.fetch_acts.specs.declared.act.Act.{Act}
use Rattle.fetch_acts.specs.declared.act.Act.TheVariants.{Ask, Send, Tell}
use Rattle.fetch_acts.specs.declared.act.Input.{Input}
use Rattle.fetch_wire.specs.Exchanges.{Answering}
use Rattle.play_definitions.specs.Worlds.{IsHungUp, Outside, Settles, World, WorldAnswers}
use Rattle.script_events.specs.declared.events.Event.{Event}
use Rattle.script_runs.specs.Play.{Play}
use Rattle.script_runs.specs.Traces.{PlayTrace, shown, stepped}

-- Between two worlds these entries were added, each of them the document's, and the calls left fell by as many.
pub record Calls {State : Type 0} (document : ℕ) (a b : World State) : Type 0 where
  pub more : List Entry
  pub own : b.own ≡ a.own ++ more
  pub named : AllByRecursion (λ (e : Entry). e.document ≡ document) more
  pub fell : a.left ≡ b.left + length more

module _ {State : Type 0} (by : Answering State) (limit document : ℕ) where
  calls-alike : {a b : World State} → b.own ≡ a.own → b.left ≡ a.left → Calls document a b
  calls-alike {a = a} own left = record {
    more = [];
    own = own ∙ sym (append-nil a.own);
    named = tt;
    fell = omega (arith, left);
  }

  calls-same : {a b : World State} → b ≡ a → Calls document a b
  calls-same is = calls-alike (ap (λ (w : World State). w.own) is) (ap (λ (w : World State). w.left) is)

  calls-hung : {a b : World State} → IsHungUp a b → Calls document a b
  calls-hung is = calls-alike (ap (λ (o : Outside State). o.own) is.outside_is)
      (ap (λ (o : Outside State). o.left) is.outside_is)

  calls-act : {a b : World State} (first : Act) (input : Input) → WorldAnswers by limit document a first input b
      → Calls document a b
  calls-act (Ask op) input is = record {
    more = is.asked.entry ∷ [];
    own = is.asked.own_is;
    named = (is.asked.document_is, tt);
    fell = omega (arith, is.asked.left_is);
  }
  calls-act (Send hop) input is = calls-alike is.1.own_is is.1.left_is
  calls-act (Tell violation) input is = calls-same is.1
  calls-act first input is = calls-alike is.own_is is.left_is

  calls-event : {a b : World State} (shown : Event) → Settles shown a b → Calls document a b
  calls-event (event.Result outcome) is = calls-hung is
  calls-event (event.LoadFailed error) is = calls-hung is
  calls-event one is = calls-same is

  calls-then : {a b c : World State} → Calls document a b → Calls document b c → Calls document a c
  calls-then {a = a} x y = record {
    more = x.more ++ y.more;
    own = y.own ∙ ap (λ (l : List Entry). l ++ y.more) x.own ∙ append_assoc a.own x.more y.more;
    named = AllByRecursion-append (λ (e : Entry). e.document ≡ document) x.more y.more x.named y.named;
    fell = omega (arith, x.fell, y.fell, length-append x.more y.more);
  }

  -- over a trace
  pub trace-calls : {p q : Play} {a b : World State} {t : List Input} {e : List Event}
      → PlayTrace (WorldAnswers by limit document) Settles p a t e q b → Calls document a b
  trace-calls stop = calls-alike refl refl
  trace-calls (shown one is x) = calls-then (calls-event one is) (trace-calls x)
  trace-calls (stepped request first after input is fit x) = calls-then (calls-act first input is) (trace-calls x)
