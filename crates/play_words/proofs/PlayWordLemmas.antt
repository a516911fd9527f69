-- What is printed of a play is plain, and the op of each entry of its history is in range and has words.
use Rattle.std.proofs.Common.{◌≡◌, ◌+◌, ◌==◌, ◌<◌, ◌≤◌, ℕ, Bool, true, false, cond, List, [], ◌∷◌, length}
use Rattle.std.proofs.Common.{refl, sym, subst, arith, inl, inr}
use Rattle.std.specs.Prelude.{IsTrue}
use Rattle.std.specs.List.{AllByRecursion}
use Rattle.std.proofs.lemmas.Bool.{cases_eq}
use Rattle.std.proofs.lemmas.Bool.Decides.{Decides-eqb}
use Rattle.book_calls.specs.declared.entry.Entry.{Entry}
use Rattle.book_calls.specs.Entries.{Legal, entries_of}
use Rattle.book_calls.specs.Ops.{InRange}
use Rattle.fetch_acts.specs.declared.act.Input.{Input}
use Rattle.fetch_laws.specs.Apart.{Made}
use Rattle.fetch_wire.specs.Exchanges.{Answering}
use Rattle.script_events.specs.declared.events.Event.{Event}
use Rattle.script_events.specs.declared.events.Event.TheVariants as event
use Rattle.script_events.specs.declared.events.Transcript.{Transcript}
use Rattle.script_scenarios.specs.declared.document.Document.{Document}
use Rattle.script_scenarios.specs.declared.scenario.Scenario.{Scenario}
use Rattle.script_runs.specs.Documents.{EachDocument}
use Rattle.script_runs.specs.Play.{Play, PlayRun, run_play}
use Rattle.script_runs.specs.Runs.{document_client}
use Rattle.play_definitions.specs.Plays.{IsTranscript, Way, opening_book}
use Rattle.play_text.specs.Plain.{IsLine, IsPlainEvent, IsPlainTranscript}
use Rattle.play_text.specs.Words.{has_words}
use Rattle.play_isolation.specs.Calls.{calls_in, calls_of}
use Rattle.play_isolation.specs.Isolated.{run_in}
use Rattle.play_words.specs.Laws.{IsReady, IsToldOp, PlaysTold}
use Rattle.play_words.proofs.FetchWordLemmas.{word-line}
use Rattle.play_words.proofs.MadeWordLemmas.{client-word}
use Rattle.play_isolation.proofs.OwnLemmas.{range-calls}
use Rattle.play_isolation.proofs.PlayLemmas.{transcript-in}
use Rattle.play_words.proofs.RunWordLemmas.{events-plain}

-- ---- entries of documents

-- the op of each is told
abbrev AreToldOps : List Entry → Type 0
AreToldOps entries = AllByRecursion (λ (entry : Entry). IsToldOp entry.op) entries

-- so it is in the list where it is among the entries of each document
all-told : (count : ℕ) (history : List Entry)
    → AllByRecursion (λ (entry : Entry). entry.document < count) history
    → ((number : ℕ) → number < count → AreToldOps (entries_of number history)) → AreToldOps history
all-told count [] named each = tt
all-told count (entry ∷ history) named each = (
  first (entry.document == entry.document) (Decides-eqb entry.document entry.document).1
      (each entry.document named.0),
  all-told count history named.1 (λ number below. rest number (entry.document == number) (each number below)),
)
  where
    first : (b : Bool) → (entry.document ≡ entry.document → b ≡ true)
        → AreToldOps (cond b (entry ∷ entries_of entry.document history) (entries_of entry.document history))
        → IsToldOp entry.op
    first true same told = told.0
    first false same told = absurd (let no : false ≡ true = same refl in cc)

    rest : (number : ℕ) (b : Bool)
        → AreToldOps (cond b (entry ∷ entries_of number history) (entries_of number history))
        → AreToldOps (entries_of number history)
    rest number true told = told.1
    rest number false told = told

-- ---- the calls of a run

plain-calls : (events : List Event) → AllByRecursion IsPlainEvent events
    → AllByRecursion (λ (call : Made). IsTrue (has_words call.op)) (calls_in events)
plain-calls [] plain = tt
plain-calls (event.Call op reply ∷ events) plain = (plain.0, plain-calls events plain.1)
plain-calls (shown ∷ events) plain = plain-calls events plain.1

entries-told : (entries : List Entry) → AllByRecursion (λ (call : Made). InRange call.op) (calls_of entries)
    → AllByRecursion (λ (call : Made). IsTrue (has_words call.op)) (calls_of entries) → AreToldOps entries
entries-told [] range words = tt
entries-told (entry ∷ entries) range words =
    ((range.0, words.0), entries-told entries range.1 words.1)

-- ---- a document of a play

module _ {State : Type 0} (by : Answering State) (scenario : Scenario) (base : ℕ) (history : List Entry)
    (soon : base ≤ 1099511627776) (legal : Legal (opening_book scenario) history) where
  module _ (number : ℕ) (document : Document) (old new : Way State) (transcript : Transcript) (ready : IsReady document)
      (is : IsTranscript by scenario base history number document old new transcript) where
    abbrev whole : Play
    whole = run_in scenario base document

    abbrev tape : List Input
    tape = is.run_is.ran.tape

    shown-plain : AllByRecursion IsPlainEvent (run_play whole tape).events
    shown-plain = events-plain scenario.cookies base document tape ready.given

    transcript-plain : IsPlainTranscript transcript
    transcript-plain = record {
      key = subst IsLine (sym is.key_is)
          (word-line (document_client document).key (client-word document ready.given).key);
      events = subst (λ (r : PlayRun). AllByRecursion IsPlainEvent r.events) is.run_is.ran.runs shown-plain;
    }

    own-told : AreToldOps (entries_of number history)
    own-told =
        let calls = (transcript-in by scenario base history number document old new transcript is legal).calls in
        entries-told (entries_of number history)
        (subst (AllByRecursion (λ (call : Made). InRange call.op)) calls
        (range-calls scenario.cookies base document tape ready.script soon))
        (subst (AllByRecursion (λ (call : Made). IsTrue (has_words call.op))) calls
        (plain-calls (run_play whole tape).events shown-plain))

  -- ---- all of them

  all-plain : {number : ℕ} {documents : List Document} {olds news : List (Way State)} {transcripts : List Transcript}
      → EachDocument (IsTranscript by scenario base history) number documents olds news transcripts
      → AllByRecursion IsReady documents → AllByRecursion IsPlainTranscript transcripts
  all-plain EachDocument.none ready = tt
  all-plain (EachDocument.one_more {number = number} {document = document} {old = old} {new = new}
      {transcript = transcript} is more) ready =
      (transcript-plain number document old new transcript ready.0 is, all-plain more ready.1)

  each-told : {number : ℕ} {documents : List Document} {olds news : List (Way State)} {transcripts : List Transcript}
      → EachDocument (IsTranscript by scenario base history) number documents olds news transcripts
      → AllByRecursion IsReady documents → (one : ℕ) → number ≤ one → one < number + length documents
      → AreToldOps (entries_of one history)
  each-told EachDocument.none ready one from below = absurd (omega (arith, from, below))
  each-told (EachDocument.one_more {number = number} {document = document} {old = old} {new = new}
      {transcript = transcript} is more) ready one from below =
      elim (cases_eq one number) [
        | inl same ↦ subst (λ (n : ℕ). AreToldOps (entries_of n history)) (sym same)
            (own-told number document old new transcript ready.0 is)
        | inr other ↦ each-told more ready.1 one (omega (arith, from, other)) (omega (arith, below))
      ]

pub plays-told : (State : Type 0) → PlaysTold State
plays-told State by scenario base olds news transcripts history soon ready play =
    let early : base ≤ 1099511627776 = omega (arith, soon) in
    record {
      are_plain = all-plain by scenario base history early play.legal play.runs ready;
      ops = all-told (length scenario.documents) history play.named
          (λ number below. each-told by scenario base history early play.legal play.runs ready number
          (omega arith) (omega (arith, below)));
    }
