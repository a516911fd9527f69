-- What a verdict says of a play, and what a play says of its verdict.
use Rattle.std.proofs.Common.{◌≡◌, ◌≤◌, ◌<◌, ◌+◌, ℕ, Bool, true, false, List, [], ◌∷◌, length, refl, ap, sym, subst}
use Rattle.std.proofs.Common.{arith, None}
use Rattle.std.proofs.lemmas.Bool.Decides.{nat_tests}
use Rattle.std.proofs.lemmas.Grind.{common_steps}
use Rattle.std.specs.Prelude.{nat_le, position}
use Rattle.std.specs.List.{AllByRecursion, position_or_len}
use Rattle.value_lemmas.proofs.Lists.{position_or_len-no, position_or_len-yes}
use Rattle.book_calls.specs.declared.book.Book.{Book}
use Rattle.book_calls.specs.declared.entry.Entry.{Entry}
use Rattle.book_calls.specs.Book.{after}
use Rattle.book_calls.specs.Entries.{HasTurnsFrom, LegalFrom}
use Rattle.play_isolation.specs.Laws.{PlaysAlone}
use Rattle.play_definitions.specs.Plays.{IsPlay, IsTranscript, by_rules, opening_book, ways_to_servers}
use Rattle.script_events.specs.declared.events.Transcript.{Transcript}
use Rattle.script_runs.specs.Documents.{EachDocument}
use Rattle.script_scenarios.specs.declared.scenario.Scenario.{Scenario}
use Rattle.script_scenarios.specs.declared.servers.Server.{Server}
use Rattle.audit_replay.specs.Legality.{AreRight, first_stranger, is_stranger}
use Rattle.audit_verdict.specs.Laws.{IsComplete, IsSound}

-- ---- a history that the book gives is legal, and has its turns

legal-right : (book : Book) (turn : ℕ) (history : List Entry) → AreRight book turn history
    → LegalFrom book turn history
legal-right book turn [] are = tt
legal-right book turn (e ∷ history) are = (
  omega (arith, are.0.turn_is),
  are.0.reply_is,
  subst (λ (n : ℕ). LegalFrom (after book e.op) n history) (ap (λ (n : ℕ). n + 1) (sym are.0.turn_is))
      (legal-right (after book e.op) (turn + 1) history are.1),
)

turns-right : (book : Book) (turn : ℕ) (history : List Entry) → AreRight book turn history
    → HasTurnsFrom turn history
turns-right book turn [] are = tt
turns-right book turn (e ∷ history) are =
    (are.0.turn_is, turns-right (after book e.op) (turn + 1) history are.1)

right-legal : (book : Book) (turn : ℕ) (history : List Entry) → LegalFrom book turn history
    → HasTurnsFrom turn history → AreRight book turn history
right-legal book turn [] legal turns = tt
right-legal book turn (e ∷ history) legal turns = (
  record { turn_is = turns.0; reply_is = legal.1 },
  right-legal (after book e.op) (turn + 1) history
      (subst (λ (n : ℕ). LegalFrom (after book e.op) n history) (ap (λ (n : ℕ). n + 1) turns.0) legal.2) turns.1,
)

-- ---- no entry names no document

none-passes : {X : Type 0} (p : X → Bool) (xs : List X) → position p xs ≡ None → length xs ≤ position_or_len p xs
none-passes p xs none = grind (arith, common_steps)

passes-none : {X : Type 0} (p : X → Bool) (xs : List X) → length xs ≤ position_or_len p xs → position p xs ≡ None
passes-none p xs far = grind (arith, nat_tests)

named-one : (count : ℕ) (e : Entry) (history : List Entry) (b : Bool) → nat_le count e.document ≡ b
    → length (e ∷ history) ≤ position_or_len (is_stranger count) (e ∷ history)
    → (length history ≤ position_or_len (is_stranger count) history
    → AllByRecursion (λ (e : Entry). e.document < count) history)
    → AllByRecursion (λ (e : Entry). e.document < count) (e ∷ history)
named-one count e history true is far more =
    absurd (omega (arith, far, position_or_len-yes (is_stranger count) e history is))
named-one count e history false is far more =
    (grind (arith, nat_tests), more (omega (arith, far, position_or_len-no (is_stranger count) e history is)))

named-far : (count : ℕ) (history : List Entry)
    → length history ≤ position_or_len (is_stranger count) history
    → AllByRecursion (λ (e : Entry). e.document < count) history
named-far count [] far = tt
named-far count (e ∷ history) far =
    named-one count e history (nat_le count e.document) refl far (λ later. named-far count history later)

far-named : (count : ℕ) (history : List Entry) → AllByRecursion (λ (e : Entry). e.document < count) history
    → length history ≤ position_or_len (is_stranger count) history
far-named count [] all = omega arith
far-named count (e ∷ history) all =
    let below : e.document < count = all.0 in
    let no : nat_le count e.document ≡ false = grind (arith, nat_tests) in
    omega (arith, far-named count history all.1, position_or_len-no (is_stranger count) e history no)

named-all : (count : ℕ) (history : List Entry) → first_stranger count history ≡ None
    → AllByRecursion (λ (e : Entry). e.document < count) history
named-all count history none = named-far count history (none-passes (is_stranger count) history none)

all-named : (count : ℕ) (history : List Entry) → AllByRecursion (λ (e : Entry). e.document < count) history
    → first_stranger count history ≡ None
all-named count history all = passes-none (is_stranger count) history (far-named count history all)

-- ---- the laws

-- documents that come to their transcripts over a history that the book gives and whose entries name documents
pub play-of : (scenario : Scenario) (transcripts : List Transcript) (history : List Entry)
    → AreRight (opening_book scenario) 0 history → first_stranger (length scenario.documents) history ≡ None
    → EachDocument (IsTranscript by_rules scenario scenario.now history) 0 scenario.documents
    (ways_to_servers scenario) (ways_to_servers scenario) transcripts → IsPlay scenario transcripts history
play-of scenario transcripts history given named runs = record {
  legal = legal-right (opening_book scenario) 0 history given;
  turns = turns-right (opening_book scenario) 0 history given;
  named = named-all (length scenario.documents) history named;
  runs = runs;
}

pub is-sound : PlaysAlone (List Server) → IsSound
is-sound law bytes play is =
    let ran = is.0 in
    let of = ran.legal.of in
    let scenario = of.scenario in
    let made = play-of scenario ran.transcripts of.history ran.legal.given ran.legal.named ran.runs in
    record {
      of = record {
        scenario = scenario;
        read = of.read;
        transcripts = ran.transcripts;
        history = of.history;
        is_play = made;
        holds = of.holds;
        text_is = is.1;
      };
      alone = law by_rules scenario scenario.now (ways_to_servers scenario) (ways_to_servers scenario)
          ran.transcripts of.history made;
    }

pub is-complete : IsComplete
is-complete bytes play is =
    let scenario = is.scenario in (
      record {
        legal = record {
          of = record { scenario = scenario; read = is.read; history = is.history; holds = is.holds };
          given = right-legal (opening_book scenario) 0 is.history is.is_play.legal is.is_play.turns;
          named = all-named (length scenario.documents) is.history is.is_play.named;
        };
        transcripts = is.transcripts;
        runs = is.is_play.runs;
      },
      is.text_is,
    )
