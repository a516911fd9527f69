-- The lines of a text, read one after the other.
use Rattle.std.proofs.Common.{◌≡◌, ◌≢◌, ◌≤◌, ◌<◌, ◌+◌, ◌-◌, ℕ, Bool, true, false, List, [], ◌∷◌, ◌++◌, length}
use Rattle.std.proofs.Common.{codes, take, drop, get_or, refl, ap, sym, subst, ◌∙◌, arith, append_assoc, length-append}
use Rattle.std.proofs.Common.{Some}
use Rattle.std.proofs.Common.{add-one, cond, None, Result, Ok, Err}
use Rattle.std.proofs.lemmas.Bool.{and_from, and_parts}
use Rattle.std.proofs.lemmas.Bool.Decides.{Decides-eqb, nat_tests}
use Rattle.std.proofs.lemmas.Grind.{common_steps}
use Rattle.std.proofs.lemmas.List.{append-nil, append_cancel_left, get_or-append_right}
use Rattle.std.proofs.lemmas.List.Concat.{flat_map-append}
use Rattle.std.proofs.lemmas.List.Elements.{All-append, All-cons, All-head, All-nil, All-tail, All-weaker}
use Rattle.std.proofs.lemmas.List.Sums.{passes_at_first, split_at_first, take_while-cons}
use Rattle.std.specs.Prelude.{◌==◌, not, IfOk, MatchBool}
use Rattle.std.specs.List.{All, position, position_or_len, slice_get, take_while}
use Rattle.book_calls.specs.declared.entry.Entry.{Entry}
use Rattle.script_lines.specs.Lines.{line}
use Rattle.audit_text.specs.Entries.{IsLineOf}
use Rattle.play_text.specs.Plain.{IsLine}
use Rattle.audit_text.specs.Histories.{AreLinesOf, FailsAfter, HasFault, HasLines, IsRead}
use Rattle.audit_text.specs.Histories.{heading, lined}
use Rattle.audit_text.specs.Private.Cuts.{AreLines, HasRead, HoldsLines, IsCut, IsDone, IsOther, IsReadLines}
use Rattle.audit_text.specs.Private.Cuts.{LacksHeading, Passes}
use Rattle.audit_text.specs.declared.history.Reading.{Reading}
use Rattle.audit_text.specs.declared.history.Reading.TheVariants.{Entries, Fault}
use Rattle.value_bytes.specs.declared.memory.OutOfMemory.{OutOfMemory}
use Rattle.audit_text.proofs.ListLemmas.{lacks-all}
use Rattle.value_decimal.proofs.DecimalLemmas.{lacks}

-- ---- one line

abbrev is_end : ℕ → Bool
is_end byte = byte == 10

no-end : (text : List ℕ) → length text ≤ position_or_len is_end text → lacks 10 text ≡ true
no-end [] far = refl
no-end (byte ∷ text) far = grind (arith, common_steps, no-end text)

before-end : (text : List ℕ) → lacks 10 (take (position_or_len is_end text) text) ≡ true
before-end [] = refl
before-end (byte ∷ text) =
    ap (lacks 10) (take_while-cons (λ other. not (is_end other)) byte text)
    ∙ by (not (byte == 10)) refl (take_while (λ other. not (is_end other)) text) (before-end text)
  where
    by : (b : Bool) → not (byte == 10) ≡ b → (rest : List ℕ) → lacks 10 rest ≡ true
        → lacks 10 (cond b (byte ∷ rest) []) ≡ true
    by true is rest e = and_from (not (byte == 10)) (lacks 10 rest) is e
    by false is rest e = refl

pub cut-none : (text : List ℕ) → position is_end text ≡ None → IsLine text
cut-none text none = no-end text (grind (arith, common_steps))

line-then : (text rest : List ℕ) → line text ++ rest ≡ text ++ 10 ∷ rest
line-then text rest = append_assoc text (codes "\n") rest

pub cut-some : (text : List ℕ) (end : ℕ) → position is_end text ≡ Some end
    → IsCut text (take end text) (drop (end + 1) text)
cut-some text end some =
    let here : (position_or_len is_end text < length text) × (position_or_len is_end text ≡ end) =
    grind (arith, common_steps) in
    let first = subst (λ (n : ℕ). lacks 10 (take n text) ≡ true) here.1 (before-end text) in
    let at : get_or text end 0 ≡ 10 =
    (Decides-eqb (get_or text end 0) 10).0 (subst (λ (n : ℕ). is_end (get_or text n 0) ≡ true) here.1
    (passes_at_first is_end text 0 here.0)) in
    let whole : text ≡ take end text ++ (get_or text end 0 ∷ drop (end + 1) text) =
    subst (λ (n : ℕ). text ≡ take n text ++ (get_or text n 0 ∷ drop (n + 1) text)) here.1
    (split_at_first is_end text 0 here.0) in
    record {
      first_is = first;
      text_is = whole ∙ ap (λ (byte : ℕ). take end text ++ (byte ∷ drop (end + 1) text)) at
          ∙ sym (line-then (take end text) (drop (end + 1) text));
    }

-- what is left after a line is shorter
pub cut-shorter : (text first rest : List ℕ) → IsCut text first rest → length rest < length text
cut-shorter text first rest is =
    omega (arith, ap length is.text_is, length-append (line first) rest, length-append first (codes "\n"))

-- two equal texts are cut at their first LF
cut-at : (x y a b : List ℕ) → IsLine x → IsLine y → x ++ 10 ∷ a ≡ y ++ 10 ∷ b → (x ≡ y) × (a ≡ b)
cut-at [] [] a b lx ly e = (refl, cc)
cut-at [] (d ∷ y) a b lx ly e = absurd (let same : 10 ≡ d = cc in grind (arith, common_steps))
cut-at (c ∷ x) [] a b lx ly e = absurd (let same : c ≡ 10 = cc in grind (arith, common_steps))
cut-at (c ∷ x) (d ∷ y) a b lx ly e =
    let first : c ≡ d = cc in
    let rest : x ++ 10 ∷ a ≡ y ++ 10 ∷ b = cc in
    let h = cut-at x y a b (and_parts (not (c == 10)) (lacks 10 x) lx).1
    (and_parts (not (d == 10)) (lacks 10 y) ly).1 rest in
    (cc, h.1)

pub one-line : (x y a b : List ℕ) → IsLine x → IsLine y → line x ++ a ≡ line y ++ b → (x ≡ y) × (a ≡ b)
one-line x y a b lx ly e = cut-at x y a b lx ly (sym (line-then x a) ∙ e ∙ line-then y b)

pub no-line-in : (x y a : List ℕ) → IsLine x → x ≡ y ++ 10 ∷ a → ⊥
no-line-in [] [] a lx e = cc
no-line-in [] (d ∷ y) a lx e = cc
no-line-in (c ∷ x) [] a lx e = let same : c ≡ 10 = cc in grind (arith, common_steps)
no-line-in (c ∷ x) (d ∷ y) a lx e = no-line-in x y a (and_parts (not (c == 10)) (lacks 10 x) lx).1 cc

pub no-line : (x y a : List ℕ) → IsLine x → x ≡ line y ++ a → ⊥
no-line x y a lx e = no-line-in x y a lx (e ∙ line-then y a)

-- ---- the heading

pub lined-then : (text : List ℕ) (lines : List (List ℕ)) (rest : List ℕ)
    → lined (text ∷ lines) ++ rest ≡ line text ++ (lined lines ++ rest)
lined-then text lines rest = append_assoc (line text) (lined lines) rest

lined-more : (lines : List (List ℕ)) (text rest : List ℕ)
    → lined (lines ++ text ∷ []) ++ rest ≡ lined lines ++ (line text ++ rest)
lined-more lines text rest =
    ap (λ (l : List ℕ). l ++ rest) (flat_map-append line lines (text ∷ [])
    ∙ ap (λ (l : List ℕ). lined lines ++ l) (append-nil (line text)))
    ∙ append_assoc (lined lines) (line text) rest

pub passes-more : (play rest first after : List ℕ) → Passes play rest → IsCut rest first after → first ≢ heading
    → Passes play after
passes-more play rest first after passed is other = record {
  before = passed.before ++ first ∷ [];
  others = All-append IsOther passed.before (first ∷ []) passed.others
      (All-cons IsOther first [] (record { is_line = is.first_is; other = other }) (All-nil IsOther));
  text_is = passed.text_is ∙ ap (λ (l : List ℕ). lined passed.before ++ l) is.text_is
      ∙ sym (lined-more passed.before first after);
}

lacks-heading : (others before : List (List ℕ)) (end rest : List ℕ) → All IsOther others → IsLine end
    → All IsLine before → lined others ++ end ≡ lined before ++ (line heading ++ rest) → ⊥
lacks-heading [] [] end rest o le b e = no-line end heading rest le e
lacks-heading [] (y ∷ before) end rest o le b e =
    no-line end y (lined before ++ (line heading ++ rest)) le (e ∙ lined-then y before (line heading ++ rest))
lacks-heading (x ∷ others) [] end rest o le b e =
    let one = All-head IsOther x others o in
    one.other (one-line x heading (lined others ++ end) rest one.is_line refl (sym (lined-then x others end) ∙ e)).0
lacks-heading (x ∷ others) (y ∷ before) end rest o le b e =
    let one = All-head IsOther x others o in
    let cut = one-line x y (lined others ++ end) (lined before ++ (line heading ++ rest)) one.is_line
    (All-head IsLine y before b) (sym (lined-then x others end) ∙ e ∙ lined-then y before (line heading ++ rest)) in
    lacks-heading others before end rest (All-tail IsOther x others o) le (All-tail IsLine y before b) cut.1

pub no-heading : (play rest : List ℕ) → Passes play rest → IsLine rest → LacksHeading play
no-heading play rest passed end before after b e =
    lacks-heading passed.before before rest after passed.others end b (sym passed.text_is ∙ e)

-- what follows the first heading is one text
pub one-heading : (others before : List (List ℕ)) (x y : List ℕ) → All IsOther others → All IsLine before
    → All (λ text. text ≢ heading) before
    → lined others ++ (line heading ++ x) ≡ lined before ++ (line heading ++ y) → x ≡ y
one-heading [] [] x y o b f e = append_cancel_left (line heading) x y e
one-heading [] (v ∷ before) x y o b f e =
    absurd (All-head (λ text. text ≢ heading) v before f
    (sym (one-line heading v x (lined before ++ (line heading ++ y)) refl (All-head IsLine v before b)
    (e ∙ lined-then v before (line heading ++ y))).0))
one-heading (u ∷ others) [] x y o b f e =
    let one = All-head IsOther u others o in
    absurd (one.other (one-line u heading (lined others ++ (line heading ++ x)) y one.is_line refl
    (sym (lined-then u others (line heading ++ x)) ∙ e)).0)
one-heading (u ∷ others) (v ∷ before) x y o b f e =
    let one = All-head IsOther u others o in
    let cut = one-line u v (lined others ++ (line heading ++ x)) (lined before ++ (line heading ++ y)) one.is_line
    (All-head IsLine v before b)
    (sym (lined-then u others (line heading ++ x)) ∙ e ∙ lined-then v before (line heading ++ y)) in
    one-heading others before x y (All-tail IsOther u others o) (All-tail IsLine v before b)
    (All-tail (λ text. text ≢ heading) v before f) cut.1

-- ---- texts that are lines

record Cutting (text : List ℕ) : Type 0 where
  pub lines : List (List ℕ)
  pub last : List ℕ
  pub are : All IsLine lines
  pub last_is : IsLine last
  pub text_is : text ≡ lined lines ++ last

with-byte : (byte : ℕ) (text last : List ℕ) (lines : List (List ℕ)) → not (byte == 10) ≡ true → All IsLine lines
    → IsLine last → text ≡ lined lines ++ last → Cutting (byte ∷ text)
with-byte byte text last [] other are last_is e = record {
  lines = [];
  last = byte ∷ last;
  are = are;
  last_is = and_from (not (byte == 10)) (lacks 10 last) other last_is;
  text_is = ap (λ (l : List ℕ). byte ∷ l) e;
}
with-byte byte text last (first ∷ lines) other are last_is e = record {
  lines = (byte ∷ first) ∷ lines;
  last = last;
  are = All-cons IsLine (byte ∷ first) lines
      (and_from (not (byte == 10)) (lacks 10 first) other (All-head IsLine first lines are))
      (All-tail IsLine first lines are);
  last_is = last_is;
  text_is = ap (λ (l : List ℕ). byte ∷ l) e;
}

cutting : (text : List ℕ) → Cutting text
cutting [] = record { lines = []; last = []; are = All-nil IsLine; last_is = refl; text_is = refl }
cutting (byte ∷ text) = by (byte == 10) (Decides-eqb byte 10).0 refl (cutting text)
  where
    by : (b : Bool) → (b ≡ true → byte ≡ 10) → (byte == 10) ≡ b → Cutting text → Cutting (byte ∷ text)
    by true same is rest = record {
      lines = [] ∷ rest.lines;
      last = rest.last;
      are = All-cons IsLine [] rest.lines refl rest.are;
      last_is = rest.last_is;
      text_is = ap (λ (b : ℕ). b ∷ text) (same refl) ∙ ap (λ (l : List ℕ). 10 ∷ l) rest.text_is;
    }
    by false same is rest =
        with-byte byte text rest.last rest.lines (ap not is) rest.are rest.last_is rest.text_is

last-of-append : (x y : List ℕ) → 0 < length y
    → get_or (x ++ y) (length (x ++ y) - 1) 0 ≡ get_or y (length y - 1) 0
last-of-append x y some =
    let sum = length-append x y in
    get_or-append_right x y (length x) (length (x ++ y) - 1) 0 refl (omega (arith, sum, some))
    ∙ ap (λ (i : ℕ). get_or y i 0) (omega (arith, sum, some))

no-last : (last : List ℕ) → IsLine last → 0 < length last → get_or last (length last - 1) 0 ≡ 10 → ⊥
no-last last is some e =
    let all = lacks-all 10 last is in
    let differs : (get_or last (length last - 1) 0 == 10) ≡ false = all (length last - 1) 0 (omega (arith, some)) in
    grind (arith, nat_tests)

empty-or : (text : List ℕ) → (0 < length text → ⊥) → text ≡ []
empty-or [] none = refl
empty-or (byte ∷ text) none = absurd (none (omega arith))

pub ends-in-line : (text : List ℕ) → get_or text (length text - 1) 0 ≡ 10 → AreLines text
ends-in-line text e =
    let cut = cutting text in
    let none : cut.last ≡ [] = empty-or cut.last (λ some. no-last cut.last cut.last_is some
    (sym (last-of-append (lined cut.lines) cut.last some)
    ∙ ap (λ (l : List ℕ). get_or l (length l - 1) 0) (sym cut.text_is) ∙ e)) in
    record {
      lines = cut.lines;
      are = cut.are;
      text_is = cut.text_is ∙ ap (λ (l : List ℕ). lined cut.lines ++ l) none ∙ append-nil (lined cut.lines);
    }

lined-last : (first : List ℕ) (lines : List (List ℕ))
    → get_or (lined (first ∷ lines)) (length (lined (first ∷ lines)) - 1) 0 ≡ 10
lined-last first [] =
    ap (λ (l : List ℕ). get_or l (length l - 1) 0) (append-nil (line first))
    ∙ last-of-append first (codes "\n") (omega arith)
lined-last first (next ∷ lines) =
    last-of-append (line first) (lined (next ∷ lines))
    (omega (arith, length-append (line next) (lined lines), length-append next (codes "\n")))
    ∙ lined-last next lines

pub lines-end : (text : List ℕ) → AreLines text → 0 < length text → get_or text (length text - 1) 0 ≡ 10
lines-end text is some = by is.lines is.text_is
  where
    by : (lines : List (List ℕ)) → text ≡ lined lines → get_or text (length text - 1) 0 ≡ 10
    by [] e = absurd (omega (arith, some, ap length e))
    by (first ∷ lines) e = ap (λ (l : List ℕ). get_or l (length l - 1) 0) e ∙ lined-last first lines

-- lines are read to their end
pub read-all : (read lines : List (List ℕ)) (rest : List ℕ) → All IsLine read → All IsLine lines → IsLine rest
    → lined read ++ rest ≡ lined lines → rest ≡ []
read-all [] [] rest r l lr e = e
read-all [] (y ∷ lines) rest r l lr e = absurd (no-line rest y (lined lines) lr e)
read-all (x ∷ read) [] rest r l lr e = absurd (filled x (lined read ++ rest) (sym (lined-then x read rest) ∙ e))
  where
    filled : (text rest : List ℕ) → line text ++ rest ≡ [] → ⊥
    filled [] rest e = cc
    filled (byte ∷ text) rest e = cc
read-all (x ∷ read) (y ∷ lines) rest r l lr e =
    read-all read lines rest (All-tail IsLine x read r) (All-tail IsLine y lines l) lr
    (one-line x y (lined read ++ rest) (lined lines) (All-head IsLine x read r) (All-head IsLine y lines l)
    (sym (lined-then x read rest) ∙ e)).1

-- the lines that were read, and the next, are the first of all lines
pub record Begin (read lines : List (List ℕ)) (next : List ℕ) : Type 0 where
  pub front : take (length read) lines ≡ read
  pub next_is : slice_get lines (length read) ≡ Some next

pub begins : (read lines : List (List ℕ)) (next rest : List ℕ) → All IsLine read → All IsLine lines → IsLine next
    → lined read ++ (line next ++ rest) ≡ lined lines → Begin read lines next
begins [] [] next rest r l n e = absurd (filled next rest e)
  where
    filled : (text rest : List ℕ) → line text ++ rest ≡ [] → ⊥
    filled [] rest e = cc
    filled (byte ∷ text) rest e = cc
begins [] (y ∷ lines) next rest r l n e = record {
  front = refl;
  next_is = ap Some (sym (one-line next y rest (lined lines) n (All-head IsLine y lines l) e).0);
}
begins (x ∷ read) [] next rest r l n e = absurd
    (filled x (lined read ++ (line next ++ rest)) (sym (lined-then x read (line next ++ rest)) ∙ e))
  where
    filled : (text rest : List ℕ) → line text ++ rest ≡ [] → ⊥
    filled [] rest e = cc
    filled (byte ∷ text) rest e = cc
begins (x ∷ read) (y ∷ lines) next rest r l n e =
    let cut = one-line x y (lined read ++ (line next ++ rest)) (lined lines) (All-head IsLine x read r)
    (All-head IsLine y lines l) (sym (lined-then x read (line next ++ rest)) ∙ e) in
    let more = begins read lines next rest (All-tail IsLine x read r) (All-tail IsLine y lines l) n cut.1 in
    record {
      front = ap (λ (w : List ℕ). w ∷ take (length read) lines) (sym cut.0)
          ∙ ap (λ (ls : List (List ℕ)). x ∷ ls) more.front;
      next_is = more.next_is;
    }

pub last-lines : (text : List ℕ) → (length text == 0) ≡ false
    → MatchBool (get_or text (length text - 1) 0 == 10) (AreLines text) (¬ (AreLines text))
last-lines text some = by (get_or text (length text - 1) 0 == 10)
    (Decides-eqb (get_or text (length text - 1) 0) 10) refl
  where
    filled : (n : ℕ) → (n == 0) ≡ false → 0 < n
    filled n e = grind (arith, nat_tests)

    by : (b : Bool) → ((get_or text (length text - 1) 0 == 10) ≡ true → get_or text (length text - 1) 0 ≡ 10)
        × (get_or text (length text - 1) 0 ≡ 10 → (get_or text (length text - 1) 0 == 10) ≡ true)
        → (get_or text (length text - 1) 0 == 10) ≡ b → MatchBool b (AreLines text) (¬ (AreLines text))
    by true decides is = ends-in-line text (decides.0 is)
    by false decides is = λ are.
        let yes = decides.1 (lines-end text are (filled (length text) some)) in
        let no : true ≡ false = sym yes ∙ is in cc

-- ---- entries

lines-of-more : (lines : List (List ℕ)) (history : List Entry) (text : List ℕ) (entry : Entry)
    → AreLinesOf lines history → IsLineOf text entry → AreLinesOf (lines ++ text ∷ []) (history ++ entry ∷ [])
lines-of-more [] [] text entry are is = (is, tt)
lines-of-more [] (e ∷ history) text entry are is = absurd are
lines-of-more (l ∷ lines) [] text entry are is = absurd are
lines-of-more (l ∷ lines) (e ∷ history) text entry are is = (are.0, lines-of-more lines history text entry are.1 is)

pub read-more : (text rest first after : List ℕ) (history more : List Entry) (entry : Entry) (count : ℕ)
    → HasRead text rest history count → IsCut rest first after → IsLineOf first entry → more ≡ history ++ entry ∷ []
    → HasRead text after more (count + 1)
read-more text rest first after history more entry count has cut is added = record {
  read = has.read ++ first ∷ [];
  are = All-append IsLine has.read (first ∷ []) has.are (All-cons IsLine first [] cut.first_is (All-nil IsLine));
  entries = subst (AreLinesOf (has.read ++ first ∷ [])) (sym added)
      (lines-of-more has.read history first entry has.entries is);
  text_is = has.text_is ∙ ap (λ (l : List ℕ). lined has.read ++ l) cut.text_is
      ∙ sym (lined-more has.read first after);
  count_is = omega (arith, has.count_is, length-append has.read (first ∷ []));
  few = omega (arith, has.few, cut-shorter rest first after cut);
}

pub read-done : (text rest : List ℕ) (history : List Entry) (count : ℕ) → HasRead text rest history count
    → IsLine rest → AreLines text → HoldsLines text history
read-done text rest history count has end are =
    let none : rest ≡ [] =
    read-all has.read are.lines rest has.are are.are end (sym has.text_is ∙ are.text_is) in
    record {
      lines = has.read;
      are = has.are;
      entries = has.entries;
      text_is = has.text_is ∙ ap (λ (l : List ℕ). lined has.read ++ l) none ∙ append-nil (lined has.read);
    }

-- ---- whole texts

pub no-done : (play rest : List ℕ) → Passes play (line heading ++ rest)
    → ((front : List ℕ) → IsDone rest front → ⊥) → (before lines : List (List ℕ)) → HasLines play before lines → ⊥
no-done play rest passed none before lines has =
    none (lined lines) (record {
      are_lines = record { lines = lines; are = has.lines_are; text_is = refl };
      text_is = one-heading passed.before before rest (lined lines ++ line (codes "done")) passed.others
          has.before_are has.first (sym passed.text_is ∙ has.text_is);
    })

-- the lines of such a text
has-lines : (play rest text : List ℕ) (lines : List (List ℕ)) → (passed : Passes play (line heading ++ rest))
    → rest ≡ text ++ line (codes "done") → text ≡ lined lines → All IsLine lines
    → HasLines play passed.before lines
has-lines play rest text lines passed done is are = record {
  before_are = All-weaker IsOther IsLine (λ text is. is.is_line) passed.before passed.others;
  first = All-weaker IsOther (λ text. text ≢ heading) (λ text is. is.other) passed.before passed.others;
  lines_are = are;
  text_is = passed.text_is
      ∙ ap (λ (l : List ℕ). lined passed.before ++ (line heading ++ l))
      (done ∙ ap (λ (l : List ℕ). l ++ line (codes "done")) is);
}

fails-at : (play : List ℕ) (number count : ℕ) → number ≡ count + 1 → FailsAfter play count → HasFault play number
fails-at play number count is fails =
    subst (HasFault play) (sym (is ∙ add-one count)) fails

pub read-is : (read : Result Reading OutOfMemory) (play rest text : List ℕ) → Passes play (line heading ++ rest)
    → IsDone rest text → IfOk read (IsReadLines text) → IfOk read (IsRead play)
read-is (Err refused) play rest text passed done is = tt
read-is (Ok (Entries history)) play rest text passed done is = record {
  before = passed.before;
  lines = is.lines;
  has = has-lines play rest text is.lines passed done.text_is is.text_is is.are;
  entries = is.entries;
}
read-is (Ok (Fault number)) play rest text passed done is =
    let are = done.are_lines in
    let begin = begins is.read are.lines is.bad is.rest is.are are.are is.cut (sym is.text_is ∙ are.text_is) in
    fails-at play number (length is.read) is.count_is (record {
      before = passed.before;
      lines = are.lines;
      has = has-lines play rest text are.lines passed done.text_is are.text_is are.are;
      good = is.good;
      entries = subst (λ (l : List (List ℕ)). AreLinesOf l is.good) (sym begin.front) is.entries;
      text = is.bad;
      next = begin.next_is;
      bad = is.none;
    })
