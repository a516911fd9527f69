-- Blanks round a text.
use Rattle.std.proofs.Common.{◌≡◌, ◌==◌, ◌&&◌, not, ℕ, Bool, true, false, List, [], ◌∷◌, ◌++◌, length, reverse, refl}
use Rattle.std.proofs.Common.{ap, sym, subst, ◌∙◌, if◌then◌else◌}
use Rattle.std.proofs.lemmas.Bool.{eqb-true}
use Rattle.std.proofs.lemmas.List.{reverse-append, reverse-reverse}
use Rattle.std.proofs.lemmas.List.Folds.{list_all-append}
use Rattle.std.specs.Cmp.{first_so, second_so}
use Rattle.std.specs.List.{list_all}
use Rattle.value_text.specs.Tokens.{is_tchar, is_token}
use Rattle.value_text.specs.Trims.{tab_or_space, trimmed, trimmed_end, trimmed_start}
use Rattle.book_hosts.specs.Grammar.{IsBlank, IsPadded, IsQuoted, is_blank}

-- a byte that a test takes is another than one that it refuses
apart-by : (p : ℕ → Bool) (k byte : ℕ) (same : Bool) → (k == byte) ≡ same → p k ≡ false → p byte ≡ true → same ≡ false
apart-by p k byte false e refused taken = refl
apart-by p k byte true e refused taken =
    let none : p byte ≡ false = subst (λ n. p n ≡ false) (eqb-true k byte e) refused in
    sym taken ∙ none

pub apart : (p : ℕ → Bool) (k byte : ℕ) → p k ≡ false → p byte ≡ true → (k == byte) ≡ false
apart p k byte refused taken = apart-by p k byte (k == byte) refl refused taken

-- a tchar is no blank
pub tchar-solid : (byte : ℕ) → is_tchar byte ≡ true → is_blank byte ≡ false
tchar-solid byte taken = rw (apart is_tchar 9 byte refl taken, apart is_tchar 32 byte refl taken) refl

-- blanks at the front go
start-blank : (front text : List ℕ) → IsBlank front → trimmed_start tab_or_space (front ++ text)
    ≡ trimmed_start tab_or_space text
start-blank [] text blank = refl
start-blank (byte ∷ front) text blank =
    rw (first_so (is_blank byte) (list_all is_blank front) blank)
    (start-blank front text (second_so (is_blank byte) (list_all is_blank front) blank))

-- a text that begins with another byte stays
start-solid : (byte : ℕ) (text : List ℕ) → is_blank byte ≡ false → trimmed_start tab_or_space (byte ∷ text) ≡ byte
    ∷ text
start-solid byte text solid = rw solid refl

-- what goes at the front is blank
record IsFront (text rest : List ℕ) : Type 0 where
  front : List ℕ
  blank : IsBlank front
  text_is : text ≡ front ++ rest

front-step : (byte : ℕ) (text : List ℕ) (here : Bool) → is_blank byte ≡ here
    → IsFront text (trimmed_start tab_or_space text)
    → IsFront (byte ∷ text) (if here then trimmed_start tab_or_space text else byte ∷ text)
front-step byte text true e f =
    record { front = byte ∷ f.front; blank = rw e f.blank; text_is = ap (λ l. byte ∷ l) f.text_is }
front-step byte text false e f = record { front = []; blank = refl; text_is = refl }

start-front : (text : List ℕ) → IsFront text (trimmed_start tab_or_space text)
start-front [] = record { front = []; blank = refl; text_is = refl }
start-front (byte ∷ text) = front-step byte text (is_blank byte) refl (start-front text)

turned : (a b : Bool) → (b && (a && true)) ≡ (a && b)
turned true true = refl
turned true false = refl
turned false true = refl
turned false false = refl

reverse-cons : (byte : ℕ) (text : List ℕ) → reverse (byte ∷ text) ≡ reverse text ++ byte ∷ []
reverse-cons byte text = reverse-append (byte ∷ []) text

blank-reverse : (text : List ℕ) → list_all is_blank (reverse text) ≡ list_all is_blank text
blank-reverse [] = refl
blank-reverse (byte ∷ text) =
    ap (λ l. list_all is_blank l) (reverse-cons byte text) ∙ list_all-append is_blank (reverse text) (byte ∷ [])
    ∙ ap (λ b. b && (is_blank byte && true)) (blank-reverse text) ∙ turned (is_blank byte) (list_all is_blank text)

-- a text is between the blanks that trimming takes off
pub trimmed-padded : (text : List ℕ) → IsPadded (trimmed tab_or_space text) text
trimmed-padded text =
    let start = trimmed_start tab_or_space text in
    let f = start-front text in
    let g = start-front (reverse start) in
    let back : start ≡ trimmed tab_or_space text ++ reverse g.front =
    sym (reverse-reverse start) ∙ ap (λ l. reverse l) g.text_is
    ∙ reverse-append g.front (trimmed_start tab_or_space (reverse start)) in
    record {
      before = f.front;
      behind = reverse g.front;
      blank_before = f.blank;
      blank_behind = blank-reverse g.front ∙ g.blank;
      text_is = f.text_is ∙ ap (λ l. f.front ++ l) back;
    }

-- a text that neither begins nor ends with a blank
pub record IsSolid (text : List ℕ) : Type 0 where
  pub first : ℕ
  pub rest : List ℕ
  pub first_is : text ≡ first ∷ rest
  pub first_solid : is_blank first ≡ false
  pub last : ℕ
  pub front : List ℕ
  pub last_is : text ≡ front ++ last ∷ []
  pub last_solid : is_blank last ≡ false

-- is what trimming leaves of it between blanks
pub padded-trimmed : (inner text : List ℕ) → IsPadded inner text → IsSolid inner → trimmed tab_or_space text ≡ inner
padded-trimmed inner text p s =
    let start : trimmed_start tab_or_space text ≡ inner ++ p.behind =
    ap (λ l. trimmed_start tab_or_space l) p.text_is ∙ start-blank p.before (inner ++ p.behind) p.blank_before
    ∙ ap (λ l. trimmed_start tab_or_space (l ++ p.behind)) s.first_is
    ∙ start-solid s.first (s.rest ++ p.behind) s.first_solid ∙ ap (λ l. l ++ p.behind) (sym s.first_is) in
    let turn : reverse inner ≡ s.last ∷ reverse s.front =
    ap (λ l. reverse l) s.last_is ∙ reverse-append s.front (s.last ∷ []) in
    let back : trimmed_start tab_or_space (reverse (inner ++ p.behind)) ≡ reverse inner =
    ap (λ l. trimmed_start tab_or_space l) (reverse-append inner p.behind)
    ∙ start-blank (reverse p.behind) (reverse inner) (blank-reverse p.behind ∙ p.blank_behind)
    ∙ ap (λ l. trimmed_start tab_or_space l) turn ∙ start-solid s.last (reverse s.front) s.last_solid ∙ sym turn in
    ap (λ l. trimmed_end tab_or_space l) start ∙ ap (λ l. reverse l) back ∙ reverse-reverse inner

record Ends (text : List ℕ) : Type 0 where
  front : List ℕ
  last : ℕ
  text_is : text ≡ front ++ last ∷ []

ends : (byte : ℕ) (text : List ℕ) → Ends (byte ∷ text)
ends byte [] = record { front = []; last = byte; text_is = refl }
ends byte (next ∷ text) =
    let e = ends next text in
    record { front = byte ∷ e.front; last = e.last; text_is = ap (λ l. byte ∷ l) e.text_is }

all-last : (p : ℕ → Bool) (front : List ℕ) (last : ℕ) → list_all p (front ++ last ∷ []) ≡ true → p last ≡ true
all-last p front last h =
    first_so (p last) true (second_so (list_all p front) (p last && true) (sym (list_all-append p front (last ∷ []))
    ∙ h))

-- a token is such a text
pub token-solid : (text : List ℕ) → is_token text ≡ true → IsSolid text
token-solid [] token = cc
token-solid (byte ∷ text) token =
    let all : list_all is_tchar (byte ∷ text) ≡ true =
    second_so (not (length (byte ∷ text) == 0)) (list_all is_tchar (byte ∷ text)) token in
    let e = ends byte text in
    record {
      first = byte;
      rest = text;
      first_is = refl;
      first_solid = tchar-solid byte (first_so (is_tchar byte) (list_all is_tchar text) all);
      last = e.last;
      front = e.front;
      last_is = e.text_is;
      last_solid =
          tchar-solid e.last (all-last is_tchar e.front e.last (ap (λ l. list_all is_tchar l) (sym e.text_is) ∙ all));
    }

record ClosedBy (written : List ℕ) : Type 0 where
  front : List ℕ
  written_is : written ≡ front ++ 34 ∷ []

quoted-closed : (written value : List ℕ) → IsQuoted written value → ClosedBy written
quoted-closed _ _ IsQuoted.closed = record { front = []; written_is = refl }
quoted-closed _ _ (IsQuoted.plain byte written value other same q) =
    let e = quoted-closed written value q in
    record { front = byte ∷ e.front; written_is = ap (λ l. byte ∷ l) e.written_is }
quoted-closed _ _ (IsQuoted.escaped byte written value q) =
    let e = quoted-closed written value q in
    record { front = 92 ∷ byte ∷ e.front; written_is = ap (λ l. 92 ∷ byte ∷ l) e.written_is }

-- and a quoted string
pub quoted-solid : (written value : List ℕ) → IsQuoted written value → IsSolid (34 ∷ written)
quoted-solid written value q =
    let e = quoted-closed written value q in
    record {
      first = 34;
      rest = written;
      first_is = refl;
      first_solid = refl;
      last = 34;
      front = 34 ∷ e.front;
      last_is = ap (λ l. 34 ∷ l) e.written_is;
      last_solid = refl;
    }
