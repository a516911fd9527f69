-- One entry of a history after another.
use Rattle.std.proofs.Common.{◌≡◌, ◌<◌, ◌+◌, ℕ, List, [], ◌∷◌, ◌++◌, length, length-take, get_or, take, refl, ap, sym}
use Rattle.std.proofs.Common.{subst, ◌∙◌, arith, add-one}
use Rattle.std.proofs.Math.Seq.{take-suc}
use Rattle.std.proofs.lemmas.Option.{slice_get_read}
use Rattle.book_calls.specs.declared.book.Book.{Book}
use Rattle.book_calls.specs.declared.entry.Entry.{Entry}
use Rattle.book_calls.specs.declared.op.Reply.{Reply}
use Rattle.book_calls.specs.Book.{after, reply}
use Rattle.book_calls.specs.Entries.{book_after}
use Rattle.book_calls.proofs.EntryLemmas.{book_after-append}
use Rattle.audit_replay.specs.Legality.{AreRight, IsIllegalAt, IsRight}

right-snoc : (book : Book) (turn : ℕ) (history : List Entry) (entry : Entry) → AreRight book turn history
    → IsRight (book_after book history) (turn + length history) entry → AreRight book turn (history ++ entry ∷ [])
right-snoc book turn [] entry are is = (record { turn_is = is.turn_is ∙ omega arith; reply_is = is.reply_is }, tt)
right-snoc book turn (e ∷ history) entry are is = (
  are.0,
  right-snoc (after book e.op) (turn + 1) history entry are.1
      (record { turn_is = is.turn_is ∙ omega arith; reply_is = is.reply_is }),
)

-- How far a history was judged: the entries so far are right, and this is the book after them.
pub record Judged (opening : Book) (history : List Entry) (index : ℕ) (book : Book) (turn : ℕ) : Type 0 where
  pub right : AreRight opening 0 (take index history)
  pub book_is : book ≡ book_after opening (take index history)
  pub turn_is : turn ≡ index

take-one : (history : List Entry) (index : ℕ) (entry : Entry) → index < length history
    → entry ≡ get_or history index entry → take (index + 1) history ≡ take index history ++ entry ∷ []
take-one history index entry below is =
    ap (λ (n : ℕ). take n history) (add-one index) ∙ take-suc history index entry below
    ∙ ap (λ (e : Entry). take index history ++ e ∷ []) (sym is)

pub judged-more : (opening : Book) (history : List Entry) (index : ℕ) (book next : Book) (turn : ℕ) (entry : Entry)
    (said : Reply) → Judged opening history index book turn → index < length history
    → entry ≡ get_or history index entry → next ≡ after book entry.op → said ≡ reply book entry.op
    → entry.turn ≡ turn → entry.reply ≡ said → Judged opening history (index + 1) next (turn + 1)
judged-more opening history index book next turn entry said judged below is moved replied turn_is same =
    let front = take index history in
    let one = take-one history index entry below is in
    let count : length front ≡ index = omega (arith, below, length-take index history) in
    record {
      right = subst (AreRight opening 0) (sym one) (right-snoc opening 0 front entry judged.right (record {
        turn_is = turn_is ∙ judged.turn_is ∙ omega (arith, count);
        reply_is = same ∙ replied ∙ ap (λ (b : Book). reply b entry.op) judged.book_is;
      }));
      book_is = moved ∙ ap (λ (b : Book). after b entry.op) judged.book_is
          ∙ sym (book_after-append opening front (entry ∷ [])) ∙ ap (book_after opening) (sym one);
      turn_is = ap (λ (n : ℕ). n + 1) judged.turn_is;
    }

pub illegal-here : (opening : Book) (history : List Entry) (index : ℕ) (book : Book) (turn : ℕ) (entry : Entry)
    (said : Reply) → Judged opening history index book turn → index < length history
    → entry ≡ get_or history index entry → said ≡ reply book entry.op
    → (entry.turn ≡ turn → entry.reply ≡ said → ⊥) → IsIllegalAt opening history turn
illegal-here opening history index book turn entry said judged below is replied wrong =
    subst (IsIllegalAt opening history) (sym judged.turn_is) (record {
      before = judged.right;
      entry = entry;
      entry_is = slice_get_read history (length history) index entry refl below is;
      wrong = λ right. wrong (right.turn_is ∙ sym judged.turn_is)
          (right.reply_is ∙ ap (λ (b : Book). reply b entry.op) (sym judged.book_is) ∙ sym replied);
    })
