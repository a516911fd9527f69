-- Parts of a run, one after another.
use Rattle.script_runs.specs.Traces as traces
use Rattle.value_requests.specs.declared.policy.Destination.TheVariants as destination
use Rattle.value_requests.specs.declared.response.Outcome.TheVariants as outcome
use Rattle.script_runs.proofs.EmbedLemmas.{embedded}
use Rattle.value_requests.specs.declared.policy.Destination.{Destination}
use Rattle.play_documents.proofs.Words.{[], ℕ, ◌++◌, ◌∙◌, ◌∷◌, ◌≡◌, Answering, WorldAnswers, Ending, Err, Event}
use Rattle.play_documents.proofs.Words.{FetchCut, FetchReached, IsErr, IsHungUp, LeadsTo, List, MatchResult-from_err}
use Rattle.play_documents.proofs.Words.{Next, Ok, Option, Outcome, OutOfMemory, PartCut, PartReached, Play, PlaysOn}
use Rattle.play_documents.proofs.Words.{Process, Progress, Request, Result, Rule, RuleCameTo, Settles, Standing}
use Rattle.play_documents.proofs.Words.{Terms, TypeFault, World, after_events, ap, append-nil, append_assoc, asked}
use Rattle.play_documents.proofs.Words.{embed, fault_event, fetch_started, fetched, outcome_event, outside_of}
use Rattle.play_documents.proofs.Words.{play-append, refl, showing, start_event, started, subst, sym}
use Rattle.play_definitions.proofs.LostLemmas.{lost-none, lost-then}
use Rattle.play_definitions.proofs.WorldLemmas.{refuses-none}

-- what follows a fetch: its outcome is shown
abbrev onward : Destination → Next → Outcome → Next
onward kind next came = showing (outcome_event kind came) next

module _ {State : Type 0} {by : Answering State} where
  -- ---- parts that were played

  -- nothing
  pub played-none : {N : Type 0} {part : N → Play} {a : Standing State} → PartReached by part a part a
  played-none {a = a} = record {
    same = refl;
    tape = [];
    made = [];
    added = rw append-nil refl;
    trace = λ n. traces.stop;
  }

  -- one part, and then the next
  pub played-then : {N : Type 0} {part middle last : N → Play} {a b c : Standing State}
      → PartReached by part a middle b → PartReached by middle b last c → PartReached by part a last c
  played-then {middle = middle} {last = last} {a = a} {b = b} {c = c} x y = record {
    same = y.same ∙ x.same;
    tape = x.tape ++ y.tape;
    made = x.made ++ y.made;
    added = rw (y.added, x.added, append_assoc) refl;
    trace = λ n. play-append (WorldAnswers by a.terms.limit a.terms.document) Settles (x.trace n)
        (subst (λ (t : Terms). PlaysOn by t.limit t.document (middle n) b.world y.tape y.made (last n) c.world)
        x.same (y.trace n));
  }

  -- inside a larger one
  pub played-inside : {N M : Type 0} {part last : N → Play} {a b : Standing State} (f : M → N)
      → PartReached by part a last b → PartReached by (λ m. part (f m)) a (λ m. last (f m)) b
  played-inside f x =
      record { same = x.same; tape = x.tape; made = x.made; added = x.added; trace = λ m. x.trace (f m) }

  -- where the run inside is another, and has shown the same
  pub played-moved : {N : Type 0} {part rest : N → Play} {a b : Standing State} → b.terms ≡ a.terms
      → b.world ≡ a.world → b.progress.shown ≡ a.progress.shown → ((n : N) → part n ≡ rest n)
      → PartReached by part a rest b
  played-moved {a = a} same still kept alike = record {
    same = same;
    tape = [];
    made = [];
    added = rw (kept, append-nil) refl;
    trace = λ n. rw (alike n, still) traces.stop;
  }

  -- an event, and what the world comes to with it
  pub played-event : {event : Event} {a b : Standing State} {progress : Progress} → b.terms ≡ a.terms
      → progress.shown ≡ a.progress.shown → b.progress ≡ after_events (event ∷ []) progress
      → Settles event a.world b.world
      → PartReached by (λ (next : Next). showing event next progress) a (λ next. next b.progress) b
  played-event {event = event} same kept noted settled = record {
    same = same;
    tape = [];
    made = event ∷ [];
    added = ap (λ (p : Progress). p.shown) noted ∙ ap (λ (l : List Event). l ++ event ∷ []) kept;
    trace = λ next. rw noted (traces.shown event settled traces.stop);
  }

  -- a fetch
  pub played-fetch : (kind : Destination) {whole place : Process} {a b : Standing State}
      → FetchReached by whole a place b → PartReached by (λ (next : Next). embed whole (onward kind next) a.progress) a
      (λ next. embed place (onward kind next) b.progress) b
  played-fetch kind {a = a} x = record {
    same = x.same;
    tape = x.tape;
    made = x.made;
    added = ap (λ (p : Progress). p.shown) x.added;
    trace = λ n. rw x.added (embedded (WorldAnswers by a.terms.limit a.terms.document) Settles x.trace (onward kind n)
        a.progress);
  }

  -- ---- parts that were cut off

  pub cut-here : {N : Type 0} {part : N → Play} {a : Standing State} → PartCut by part a a
  unfolding played-none
  cut-here {part = part} {a = a} = record {
    place = part;
    last = a;
    played = played-none;
    lost = lost-none refl refl (refuses-none (outside_of a.world));
  }

  pub played-cut : {N : Type 0} {part middle : N → Play} {a b c : Standing State} → PartReached by part a middle b
      → PartCut by middle b c → PartCut by part a c
  unfolding played-then
  played-cut x y = record {
    place = y.place;
    last = y.last;
    played = played-then x y.played;
    lost = lost-then x.made x.same x.added y.lost;
  }

  pub cut-inside : {N M : Type 0} {part : N → Play} {a b : Standing State} (f : M → N) → PartCut by part a b
      → PartCut by (λ m. part (f m)) a b
  unfolding played-inside
  cut-inside f x =
      record { place = λ m. x.place (f m); last = x.last; played = played-inside f x.played; lost = x.lost }

  -- a fetch
  pub cut-fetch : (kind : Destination) {whole : Process} {a b : Standing State} → FetchCut by whole a b
      → PartCut by (λ (next : Next). embed whole (onward kind next) a.progress) a b
  unfolding played-fetch
  cut-fetch kind x = record {
    place = λ next. embed x.place (onward kind next) x.last.progress;
    last = x.last;
    played = played-fetch kind x.came;
    lost = x.lost;
  }

  -- ---- rules

  -- one after a part of another
  pub plays-after : (first rule : Rule) {a b : Standing State} (c : Standing State)
      (result : Result (Option Ending) OutOfMemory) → LeadsTo by rule a first b → RuleCameTo by first b result c
      → RuleCameTo by rule a result c
  plays-after first rule c (Ok ending) at x = record { played = played-then at x.played; rests = x.rests }
  plays-after first rule c (Err refused) at x = played-cut at x

-- memory was refused before the rule began, and a call passes that on
pub plays-unbegun : {State : Type 0} (by : Answering State) (rule : Rule) {a b : Standing State}
    (result : Result (Option Ending) OutOfMemory) → IsErr result → b ≡ a → RuleCameTo by rule a result b
plays-unbegun by rule result is kept = MatchResult-from_err result _ _ is (λ one. rw kept cut-here)

-- ---- what the world comes to with the events of a fetch and of a load

settles-start : {State : Type 0} (kind : Destination) (number : ℕ) (a : World State)
    → Settles (start_event kind number) a a
settles-start destination.Fetch number a = refl
settles-start kind number a = refl

pub settles-fault : {State : Type 0} (kind : Destination) (fault : TypeFault) (a : World State)
    → Settles (fault_event kind fault) a a
settles-fault destination.Fetch fault a = refl
settles-fault kind fault a = refl

pub settles-outcome : {State : Type 0} (kind : Destination) (came : Outcome) (a b : World State) → IsHungUp a b
    → Settles (outcome_event kind came) a b
settles-outcome destination.Fetch came a b hung = hung
settles-outcome kind (outcome.Error error) a b hung = hung
settles-outcome kind came a b hung = hung

-- a standing, part by part
pub stands-as : {State : Type 0} {a b : Standing State} → b.terms ≡ a.terms → b.world ≡ a.world
    → b.progress ≡ a.progress → b ≡ a
stands-as same still kept = rw (same, still, kept) refl

-- a fetch or a load has started
pub asked-begun : {State : Type 0} {by : Answering State} (kind : Destination) (made : Result Request TypeFault)
    {a b : Standing State} → b.terms ≡ a.terms → b.world ≡ a.world
    → b.progress ≡ after_events (start_event kind a.progress.fetches ∷ []) (fetch_started (started a.progress))
    → LeadsTo by (λ lent next begun. asked lent kind made next (started begun)) a (λ lent. fetched lent kind made) b
asked-begun {by = by} kind made {a = a} {b = b} same still noted =
    subst (λ (t : Terms). PartReached by (λ (next : Next). asked a.terms.setting kind made next (started a.progress)) a
    (λ next. fetched t.setting kind made next b.progress) b) (sym same)
    (played-inside (fetched a.terms.setting kind made) (played-event same refl noted
    (subst (λ (w : World _). Settles (start_event kind a.progress.fetches) a.world w) (sym still)
    (settles-start kind a.progress.fetches a.world))))
