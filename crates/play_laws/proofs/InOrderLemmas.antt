-- A scenario's play whose history is in order of documents is one: the first entry in which two such histories differ is
-- of one document in both, and there the book replies to one call.
use Rattle.std.proofs.Common.{◌≡◌, ◌≢◌, ◌≤◌, ◌<◌, ◌+◌, inl, inr, ℕ, List, [], ◌∷◌, length}
use Rattle.std.proofs.Common.{refl, ap, sym, subst, ◌∙◌, arith}
use Rattle.std.specs.List.{AllByRecursion}
use Rattle.std.proofs.lemmas.Bool.{cases_order}
use Rattle.std.proofs.lemmas.Bool.Decides.{eqb_tells}
use Rattle.book_calls.specs.Book.{after, reply}
use Rattle.book_calls.specs.Entries.{AreInOrderFrom, HasTurnsFrom, LegalFrom, entries_of}
use Rattle.book_calls.specs.declared.book.Book.{Book}
use Rattle.book_calls.specs.declared.entry.Entry.{Entry}
use Rattle.link_http1.specs.HeadLaws.{HasOneEnd}
use Rattle.play_definitions.specs.Plays.{IsPlay, IsTranscript, by_rules, opening_book}
use Rattle.play_isolation.specs.Calls.{PartAtReply}
use Rattle.play_laws.proofs.TranscriptLemmas.{calls-follow, plays-once, way, way-told, ways}
use Rattle.play_laws.specs.Once.{OnceInOrder}
use Rattle.script_events.specs.declared.events.Transcript.{Transcript}
use Rattle.script_runs.specs.Documents.{EachDocument}
use Rattle.script_scenarios.specs.declared.document.Document.{Document}
use Rattle.script_scenarios.specs.declared.scenario.Scenario.{Scenario}
use Rattle.script_scenarios.specs.declared.servers.Server.{Server}

entry-is : (a b : Entry) → a.turn ≡ b.turn → a.document ≡ b.document → a.op ≡ b.op → a.reply ≡ b.reply → a ≡ b
entry-is a b turn document op answer = rw (turn, document, op, answer) refl

-- ---- the entries of a document

-- the first is the document's
own-of : (number : ℕ) (e : Entry) (es : List Entry) → e.document ≡ number
    → entries_of number (e ∷ es) ≡ e ∷ entries_of number es
own-of number e es is = elim (eqb_tells e.document number) [
  | inl t ↦ rw t.0 refl
  | inr f ↦ absurd (f.1 is)
]

-- or another's
other-of : (number : ℕ) (e : Entry) (es : List Entry) → e.document ≢ number
    → entries_of number (e ∷ es) ≡ entries_of number es
other-of number e es other = elim (eqb_tells e.document number) [
  | inl t ↦ absurd (other t.1)
  | inr f ↦ rw f.0 refl
]

-- entries in order from a document on are none of an earlier one
none-of : (first number : ℕ) (entries : List Entry) → number < first → AreInOrderFrom first entries
    → entries_of number entries ≡ []
none-of first number [] below order = refl
none-of first number (e ∷ es) below order =
    other-of number e es (λ is. omega (arith, below, order.0, is))
    ∙ none-of e.document number es (omega (arith, below, order.0)) order.1

-- ---- two histories in which each document's entries part at a reply

-- behind an equal entry they still do
rest-part : (number : ℕ) (e o : Entry) (xs ys : List Entry) → e ≡ o
    → PartAtReply (entries_of number (e ∷ xs)) (entries_of number (o ∷ ys))
    → PartAtReply (entries_of number xs) (entries_of number ys)
rest-part number e o xs ys is part = elim (eqb_tells e.document number) [
  | inl t ↦
      let at : PartAtReply (e ∷ entries_of number xs) (o ∷ entries_of number ys) =
      rw (own-of number e xs t.1, own-of number o ys (ap (λ (x : Entry). x.document) (sym is) ∙ t.1)) at part in
      at.1 is
  | inr f ↦
      rw (other-of number e xs f.1, other-of number o ys (λ same. f.1 (ap (λ (x : Entry). x.document) is ∙ same)))
      at part
]

-- an entry of an earlier document than all of the other history has no place there
ahead : (e o : Entry) (xs ys : List Entry) → e.document < o.document → AreInOrderFrom o.document ys
    → PartAtReply (entries_of e.document (e ∷ xs)) (entries_of e.document (o ∷ ys)) → ⊥
ahead e o xs ys lt order part =
    rw (own-of e.document e xs refl, none-of o.document e.document (o ∷ ys) lt (omega arith, order)) at part

behind : (e o : Entry) (xs ys : List Entry) → o.document < e.document → AreInOrderFrom e.document xs
    → PartAtReply (entries_of o.document (e ∷ xs)) (entries_of o.document (o ∷ ys)) → ⊥
behind e o xs ys lt order part =
    rw (own-of o.document o ys refl, none-of e.document o.document (e ∷ xs) lt (omega arith, order)) at part

abbrev AllPart : ℕ → List Entry → List Entry → Type 0
AllPart count xs ys = (number : ℕ) → number < count → PartAtReply (entries_of number xs) (entries_of number ys)

abbrev AllNamed : ℕ → List Entry → Type 0
AllNamed count entries = AllByRecursion (λ (entry : Entry). entry.document < count) entries

one-order : (count : ℕ) (book : Book) (turn from first : ℕ) (xs ys : List Entry)
    → LegalFrom book turn xs → LegalFrom book turn ys → HasTurnsFrom from xs → HasTurnsFrom from ys
    → AllNamed count xs → AllNamed count ys → AreInOrderFrom first xs → AreInOrderFrom first ys
    → AllPart count xs ys → xs ≡ ys
one-order count book turn from first [] [] legal legal' turns turns' named named' order order' part = refl
one-order count book turn from first [] (o ∷ ys) legal legal' turns turns' named named' order order' part =
    absurd (rw (own-of o.document o ys refl) at (part o.document named'.0))
one-order count book turn from first (e ∷ xs) [] legal legal' turns turns' named named' order order' part =
    absurd (rw (own-of e.document e xs refl) at (part e.document named.0))
one-order count book turn from first (e ∷ xs) (o ∷ ys) legal legal' turns turns' named named' order order' part =
    elim (cases_order e.document o.document) [
      | inl same ↦
          let at : PartAtReply (e ∷ entries_of e.document xs) (o ∷ entries_of e.document ys) =
          rw (own-of e.document e xs refl, own-of e.document o ys (sym same)) at (part e.document named.0) in
          let is : e ≡ o =
          entry-is e o (turns.0 ∙ sym turns'.0) same at.0 (legal.1 ∙ ap (reply book) at.0 ∙ sym legal'.1) in
          ap (λ (l : List Entry). e ∷ l)
          (one-order count (after book e.op) (e.turn + 1) (from + 1) e.document xs ys legal.2
          (subst (λ (x : Entry). LegalFrom (after book x.op) (x.turn + 1) ys) (sym is) legal'.2) turns.1 turns'.1
          named.1 named'.1 order.1 (subst (λ (x : Entry). AreInOrderFrom x.document ys) (sym is) order'.1)
          (λ number below. rest-part number e o xs ys is (part number below)))
          ∙ ap (λ (x : Entry). x ∷ ys) is
      | inr z ↦ elim z [
        | inl lt ↦ absurd (ahead e o xs ys lt order'.1 (part e.document named.0))
        | inr lt ↦ absurd (behind e o xs ys lt order.1 (part o.document named'.0))
      ]
    ]

-- ---- plays

-- in two plays over the scenario's servers each document's entries part at a reply
parts : HasOneEnd → (scenario : Scenario) (history different : List Entry) (first : ℕ) (documents : List Document)
    {transcripts others : List Transcript}
    → EachDocument (IsTranscript by_rules scenario scenario.now history) first documents
    (ways scenario.servers documents) (ways scenario.servers documents) transcripts
    → EachDocument (IsTranscript by_rules scenario scenario.now different) first documents
    (ways scenario.servers documents) (ways scenario.servers documents) others
    → (number : ℕ) → first ≤ number → number < first + length documents
    → PartAtReply (entries_of number history) (entries_of number different)
parts law scenario history different first [] EachDocument.none EachDocument.none number from below =
    absurd (omega (arith, from, below))
parts law scenario history different first (document ∷ documents)
    (EachDocument.one_more {transcript = transcript} is are) (EachDocument.one_more {transcript = other} same more)
    number from below =
    elim (cases_order first number) [
      | inl at ↦
          subst (λ (n : ℕ). PartAtReply (entries_of n history) (entries_of n different)) at
          (calls-follow law (List Server) by_rules scenario scenario.now history different first document
          (way scenario.servers) (way scenario.servers) transcript other (way-told scenario.servers) is same)
      | inr z ↦ elim z [
        | inl lt ↦
            parts law scenario history different (first + 1) documents are more number (omega (arith, lt))
            (omega (arith, below))
        | inr lt ↦ absurd (omega (arith, from, lt))
      ]
    ]

pub one-in_order : HasOneEnd → OnceInOrder
one-in_order law scenario transcripts others history different play again order again-order =
    let same : history ≡ different =
    one-order (length scenario.documents) (opening_book scenario) 0 0 0 history different play.legal again.legal
    play.turns again.turns play.named again.named order again-order
    (λ number below. parts law scenario history different 0 scenario.documents play.runs again.runs number
    (omega arith) (omega (arith, below))) in (
      plays-once law scenario transcripts others different
          (subst (λ (h : List Entry). IsPlay scenario transcripts h) same play) again,
      same,
    )
