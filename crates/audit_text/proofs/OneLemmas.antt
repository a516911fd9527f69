-- A text holds one history.
use Rattle.std.proofs.Common.{◌≡◌, ◌≢◌, ℕ, true, List, [], ◌∷◌, ◌++◌, codes, refl, ap, sym, ◌∙◌, arith}
use Rattle.std.proofs.Common.{length, length-append, Option, Some, None}
use Rattle.std.proofs.lemmas.Bool.{and_parts}
use Rattle.std.proofs.lemmas.List.{append_cancel_left}
use Rattle.std.proofs.lemmas.List.Elements.{All-cons, All-head, All-nil, All-tail}
use Rattle.std.specs.Prelude.{IfSome}
use Rattle.std.specs.List.{All, list_all}
use Rattle.value_text.specs.Tokens.{is_token}
use Rattle.book_calls.specs.declared.entry.Entry.{Entry}
use Rattle.book_calls.specs.declared.op.Op.{Op}
use Rattle.book_calls.specs.declared.op.Op.TheVariants.{Match, Note, Covers, Learn, Clear}
use Rattle.book_calls.specs.Ops.{InRange}
use Rattle.audit_text.specs.OneHistory.{HasOneHistory, IsListed, IsNamed, IsReadable, IsReadableOp}
use Rattle.script_lines.specs.Lines.{line}
use Rattle.play_text.specs.Text.{history_text}
use Rattle.play_text.specs.Words.{has_words, is_method, is_word}
use Rattle.audit_text.specs.Entries.{IsEntry}
use Rattle.play_text.specs.Plain.{IsLine}
use Rattle.audit_text.specs.Histories.{AreLinesOf, HasLines, heading, lined}
use Rattle.audit_text.specs.Laws.{HoldsOne}
use Rattle.audit_text.proofs.CallLemmas.{five, three}
use Rattle.audit_text.proofs.LineLemmas.{lined-then, one-line}
use Rattle.audit_text.proofs.ListLemmas.{token-lacks, word-lacks}

-- ---- entries can be read back

named : (text : List ℕ) → is_token text ≡ true → IsNamed text
named text is =
    (token-lacks 32 refl text is, λ same. let no : is_token (codes "()") ≡ true = ap is_token (sym same) ∙ is in cc)

method-named : (method : Option (List ℕ)) → is_method method ≡ true → IfSome method IsNamed
method-named None is = tt
method-named (Some method) is = named method is

listed : (tokens : List (List ℕ)) → list_all is_token tokens ≡ true → All IsListed tokens
listed [] is = All-nil IsListed
listed (token ∷ tokens) is =
    let one = (and_parts (is_token token) (list_all is_token tokens) is).0 in
    All-cons IsListed token tokens (named token one, token-lacks 44 refl token one)
    (listed tokens (and_parts (is_token token) (list_all is_token tokens) is).1)

readable-op : (op : Op) → InRange op → has_words op ≡ true → IsReadableOp op
readable-op (Match host now) range is = word-lacks host is
readable-op (Note host sts now) range is = (word-lacks host is, omega (arith, range.1))
readable-op (Covers question now) range is =
    let words = five (is_word question.key) (is_word question.origin) (is_method question.method)
    (list_all is_token question.names) (is_word question.url) is in
    record {
      key = word-lacks question.key words.0;
      origin = word-lacks question.origin words.1;
      method = method-named question.method words.2;
      names = listed question.names words.3;
      url = word-lacks question.url words.4;
    }
readable-op (Learn lesson now) range is =
    let words = five (is_word lesson.key) (is_word lesson.origin) (list_all is_token lesson.methods)
    (list_all is_token lesson.names) (is_word lesson.url) is in
    record {
      key = word-lacks lesson.key words.0;
      origin = word-lacks lesson.origin words.1;
      age = omega (arith, range.1);
      methods = listed lesson.methods words.2;
      names = listed lesson.names words.3;
      url = word-lacks lesson.url words.4;
    }
readable-op (Clear key origin url now) range is =
    let words = three (is_word key) (is_word origin) (is_word url) is in
    (word-lacks key words.0, word-lacks origin words.1, word-lacks url words.2)

readable : (entry : Entry) → IsEntry entry → IsReadable entry
readable entry is = record {
  turn = is.turn;
  document = omega (arith, is.document);
  time = omega (arith, is.op.0);
  op = readable-op entry.op is.op is.words;
}

-- ---- the lines are those of the history's text

all-readable : (lines : List (List ℕ)) (history : List Entry) → AreLinesOf lines history → All IsReadable history
all-readable [] [] are = All-nil IsReadable
all-readable [] (entry ∷ history) are = absurd are
all-readable (text ∷ lines) [] are = absurd are
all-readable (text ∷ lines) (entry ∷ history) are =
    All-cons IsReadable entry history (readable entry are.0.is_entry) (all-readable lines history are.1)

pub lines-text : (lines : List (List ℕ)) (history : List Entry) → AreLinesOf lines history
    → lined lines ≡ history_text history
lines-text [] [] are = refl
lines-text [] (entry ∷ history) are = absurd are
lines-text (text ∷ lines) [] are = absurd are
lines-text (text ∷ lines) (entry ∷ history) are =
    ap (λ (l : List ℕ). line text ++ l) (lines-text lines history are.1)
    ∙ ap (λ (l : List ℕ). l ++ history_text history) are.0.text_is

-- ---- the lines of a text are one list

same-lines : (one other : List (List ℕ)) (x y : List ℕ) → All IsLine one → All IsLine other
    → lined one ++ line (codes "done") ≡ lined other ++ line (codes "done") → one ≡ other
same-lines [] [] x y a b e = refl
same-lines [] (v ∷ other) x y a b e = absurd
    (ends v other (one-line (codes "done") v [] (lined other ++ line (codes "done")) refl (All-head IsLine v other b)
    (e ∙ lined-then v other (line (codes "done")))).1)
  where
    ends : (v : List ℕ) (other : List (List ℕ)) → [] ≡ lined other ++ line (codes "done") → ⊥
    ends v other e = let n = ap length e in omega (arith, n, length-append (lined other) (line (codes "done")))
same-lines (u ∷ one) [] x y a b e = absurd
    (ends u one (one-line u (codes "done") (lined one ++ line (codes "done")) [] (All-head IsLine u one a) refl
    (sym (lined-then u one (line (codes "done"))) ∙ e)).1)
  where
    ends : (u : List ℕ) (one : List (List ℕ)) → lined one ++ line (codes "done") ≡ [] → ⊥
    ends u one e = let n = ap length e in omega (arith, n, length-append (lined one) (line (codes "done")))
same-lines (u ∷ one) (v ∷ other) x y a b e =
    let cut = one-line u v (lined one ++ line (codes "done")) (lined other ++ line (codes "done"))
    (All-head IsLine u one a) (All-head IsLine v other b)
    (sym (lined-then u one (line (codes "done"))) ∙ e ∙ lined-then v other (line (codes "done"))) in
    let more = same-lines one other x y (All-tail IsLine u one a) (All-tail IsLine v other b) cut.1 in cc (cut.0, more)

-- what follows the first heading is one text
after-heading : (one other : List (List ℕ)) (x y : List ℕ) → All IsLine one → All IsLine other
    → All (λ text. text ≢ heading) one → All (λ text. text ≢ heading) other
    → lined one ++ (line heading ++ x) ≡ lined other ++ (line heading ++ y) → x ≡ y
after-heading [] [] x y a b f g e = append_cancel_left (line heading) x y e
after-heading [] (v ∷ other) x y a b f g e =
    absurd (All-head (λ text. text ≢ heading) v other g
    (sym (one-line heading v x (lined other ++ (line heading ++ y)) refl (All-head IsLine v other b)
    (e ∙ lined-then v other (line heading ++ y))).0))
after-heading (u ∷ one) [] x y a b f g e =
    absurd (All-head (λ text. text ≢ heading) u one f
    (one-line u heading (lined one ++ (line heading ++ x)) y (All-head IsLine u one a) refl
    (sym (lined-then u one (line heading ++ x)) ∙ e)).0)
after-heading (u ∷ one) (v ∷ other) x y a b f g e =
    let cut = one-line u v (lined one ++ (line heading ++ x)) (lined other ++ (line heading ++ y))
    (All-head IsLine u one a) (All-head IsLine v other b)
    (sym (lined-then u one (line heading ++ x)) ∙ e ∙ lined-then v other (line heading ++ y)) in
    after-heading one other x y (All-tail IsLine u one a) (All-tail IsLine v other b)
    (All-tail (λ text. text ≢ heading) u one f) (All-tail (λ text. text ≢ heading) v other g) cut.1

-- the lines between the first heading and the end are one list
pub one-lines : (play : List ℕ) (before others one other : List (List ℕ)) → HasLines play before one
    → HasLines play others other → one ≡ other
one-lines play before others one other has too =
    same-lines one other [] [] has.lines_are too.lines_are
    (after-heading before others (lined one ++ line (codes "done")) (lined other ++ line (codes "done"))
    has.before_are too.before_are has.first too.first (sym has.text_is ∙ too.text_is))

pub one-text : HasOneHistory → HoldsOne
one-text law play history other held holds =
    let same = one-lines play held.before holds.before held.lines holds.lines held.has holds.has in
    law history other (all-readable held.lines history held.entries) (all-readable holds.lines other holds.entries)
    (sym (lines-text held.lines history held.entries) ∙ ap lined same ∙ lines-text holds.lines other holds.entries)
