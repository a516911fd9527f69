-- A field: the grammar and its reading agree.
use Rattle.std.proofs.Common.{◌≡◌, ◌==◌, ◌&&◌, not, ℕ, Bool, true, false, List, [], ◌∷◌, ◌++◌, length, Option, Some}
use Rattle.std.proofs.Common.{None, cond, option_map, refl, ap, sym, subst, ◌∙◌, if◌then◌else◌}
use Rattle.std.proofs.Common.{append_assoc, append-nil}
use mathlib.Core.Bool.{and-false}
use Rattle.std.proofs.lemmas.Bool.{eqb-true, ne_eqb}
use Rattle.std.proofs.lemmas.List.Folds.{list_all-append}
use Rattle.std.specs.Cmp.{first_so, second_so}
use Rattle.std.specs.List.{before_first, list_all}
use Rattle.value_text.specs.Tokens.{is_tchar, is_token}
use Rattle.value_text.specs.Trims.{tab_or_space, trimmed}
use Rattle.book_hosts.specs.Grammar.{IsBlank, IsDirective, IsField, IsPadded, IsPiece, IsQuoted, IsValue, is_blank}
use Rattle.book_hosts.specs.Reading.{behind_equals, directive, directive_from, directive_in, directive_with}
use Rattle.book_hosts.specs.Reading.{cuts, directives_in, directives_of, next_place, piece_in, pieces, value_in}
use Rattle.value_text.specs.Pieces.{with_front}
use Rattle.book_hosts.specs.Reading.{with_more}
use Rattle.book_hosts.specs.declared.directives.Directive.{Directive}
use Rattle.book_hosts.specs.declared.pieces.Place.{Place}
use Rattle.book_hosts.specs.declared.pieces.Place.TheVariants.{Escaped, Outside, Quoted}
use Rattle.book_hosts.proofs.BlankLemmas.{IsSolid, padded-trimmed, quoted-solid, token-solid, trimmed-padded}
use Rattle.book_hosts.proofs.CuttingLemmas.{pieces-cut, with_more-nothing}
use Rattle.book_hosts.proofs.EqualsLemmas.{after_equals, after_equals-is, until_equals, until_equals-is}
use Rattle.book_hosts.proofs.QuotedLemmas.{read-value, value-read}

-- neither a quote nor a semicolon nor an equals sign
abbrev is_plain : ℕ → Bool
is_plain byte = not (byte == 34) && (not (byte == 59) && not (byte == 61))

-- what a test takes that takes none of the three
plain-by : (p : ℕ → Bool) → p 34 ≡ false → p 59 ≡ false → p 61 ≡ false → (byte : ℕ) → p byte ≡ true → is_plain byte
    ≡ true
plain-by p a b c byte taken =
    let apart-from : (k : ℕ) → p k ≡ false → (byte == k) ≡ false =
    λ k refused. ne_eqb byte k (λ same.
    let there : p k ≡ true = subst (λ n. p n ≡ true) same taken in
    cc) in
    rw (apart-from 34 a, apart-from 59 b, apart-from 61 c) refl

all-plain : (p : ℕ → Bool) → ((byte : ℕ) → p byte ≡ true → is_plain byte ≡ true) → (text : List ℕ) → list_all p text
    ≡ true → list_all is_plain text ≡ true
all-plain p each [] all = refl
all-plain p each (byte ∷ text) all =
    rw (
      each byte (first_so (p byte) (list_all p text) all),
      all-plain p each text (second_so (p byte) (list_all p text) all),
    ) refl

blank-plain : (text : List ℕ) → IsBlank text → list_all is_plain text ≡ true
blank-plain text blank = all-plain is_blank (plain-by is_blank refl refl refl) text blank

token-plain : (text : List ℕ) → is_token text ≡ true → list_all is_plain text ≡ true
token-plain text token =
    all-plain is_tchar (plain-by is_tchar refl refl refl) text
    (second_so (not (length text == 0)) (list_all is_tchar text) token)

both-plain : (a b : List ℕ) → list_all is_plain a ≡ true → list_all is_plain b ≡ true → list_all is_plain (a ++ b)
    ≡ true
both-plain a b e f = rw (list_all-append is_plain a b, e, f) refl

-- a name between blanks
padded-plain : (name text : List ℕ) → is_token name ≡ true → IsPadded name text → list_all is_plain text ≡ true
padded-plain name text token p =
    subst (λ l. list_all is_plain l ≡ true) (sym p.text_is)
    (both-plain p.before (name ++ p.behind) (blank-plain p.before p.blank_before)
    (both-plain name p.behind (token-plain name token) (blank-plain p.behind p.blank_behind)))

-- is no equals sign
not-equals : (byte : ℕ) → is_plain byte ≡ true → (byte == 61) ≡ false
not-equals byte plain = ne_eqb byte 61 (λ same.
    let there : is_plain 61 ≡ true = subst (λ b. is_plain b ≡ true) same plain in
    cc)

until-plain : (left right : List ℕ) → list_all is_plain left ≡ true → until_equals (left ++ 61 ∷ right) ≡ left
until-plain [] right plain = refl
until-plain (byte ∷ left) right plain =
    rw (not-equals byte (first_so (is_plain byte) (list_all is_plain left) plain))
    (ap (λ l. byte ∷ l) (until-plain left right (second_so (is_plain byte) (list_all is_plain left) plain)))

after-plain : (left right : List ℕ) → list_all is_plain left ≡ true → after_equals (left ++ 61 ∷ right) ≡ Some right
after-plain [] right plain = refl
after-plain (byte ∷ left) right plain =
    rw (not-equals byte (first_so (is_plain byte) (list_all is_plain left) plain))
    (after-plain left right (second_so (is_plain byte) (list_all is_plain left) plain))

until-whole : (text : List ℕ) → list_all is_plain text ≡ true → until_equals text ≡ text
until-whole [] plain = refl
until-whole (byte ∷ text) plain =
    rw (not-equals byte (first_so (is_plain byte) (list_all is_plain text) plain))
    (ap (λ l. byte ∷ l) (until-whole text (second_so (is_plain byte) (list_all is_plain text) plain)))

after-none : (text : List ℕ) → list_all is_plain text ≡ true → after_equals text ≡ None
after-none [] plain = refl
after-none (byte ∷ text) plain =
    rw (not-equals byte (first_so (is_plain byte) (list_all is_plain text) plain))
    (after-none text (second_so (is_plain byte) (list_all is_plain text) plain))

-- ---- a directive is read as it is

value-solid : (written value : List ℕ) → IsValue written value → IsSolid written
value-solid _ _ (IsValue.token text token) = token-solid text token
value-solid _ _ (IsValue.quoted written value q) = quoted-solid written value q

from-token : (name : List ℕ) (written : Option (List ℕ)) → is_token name ≡ true → directive_from name written
    ≡ directive_with name written
from-token name written token = rw token refl

read-parts : (text name : List ℕ) (written : Option (List ℕ)) → is_token name ≡ true
    → trimmed tab_or_space (until_equals text) ≡ name → after_equals text ≡ written → directive_in text
    ≡ directive_with name written
read-parts text name written token e f =
    let front : trimmed tab_or_space (before_first (λ byte. byte == 61) text) ≡ name =
    ap (λ l. trimmed tab_or_space l) (until_equals-is text) ∙ e in
    ap (λ l. directive_from l (behind_equals text)) front ∙ ap (λ w. directive_from name w) (after_equals-is text ∙ f)
    ∙ from-token name written token

directive-read : (text : List ℕ) (found : Directive) → IsDirective text found → directive_in text ≡ Some found
directive-read _ _ (IsDirective.bare name text token padded) =
    let plain = padded-plain name text token padded in
    read-parts text name None token (ap (λ l. trimmed tab_or_space l) (until-whole text plain)
    ∙ padded-trimmed name text padded (token-solid name token)) (after-none text plain)
directive-read _ _ (IsDirective.valued name left written right value token padded is_value padded_value) =
    let plain = padded-plain name left token padded in
    let read : value_in (trimmed tab_or_space right) ≡ Some value =
    ap (λ l. value_in l) (padded-trimmed written right padded_value (value-solid written value is_value))
    ∙ value-read written value is_value in
    read-parts (left ++ 61 ∷ right) name (Some right) token
    (ap (λ l. trimmed tab_or_space l) (until-plain left right plain)
    ∙ padded-trimmed name left padded (token-solid name token)) (after-plain left right plain)
    ∙ ap (λ found. option_map (λ v. directive name (Some v)) found) read

-- ---- a piece is cut off as it is

-- the pieces, the first of them with a text more at its front
abbrev onto : List ℕ → List (List ℕ) → List (List ℕ)
onto [] ps = ps
onto (byte ∷ text) ps = with_front byte (onto text ps)

onto-append : (a b : List ℕ) (ps : List (List ℕ)) → onto (a ++ b) ps ≡ onto a (onto b ps)
onto-append [] b ps = refl
onto-append (byte ∷ a) b ps = ap (with_front byte) (onto-append a b ps)

onto-empty : (text : List ℕ) (ps : List (List ℕ)) → onto text ([] ∷ ps) ≡ text ∷ ps
onto-empty [] ps = refl
onto-empty (byte ∷ text) ps = ap (with_front byte) (onto-empty text ps)

-- cutting goes over the text without a cut
record Passes (text : List ℕ) : Type 0 where
  over : (rest : List ℕ) → pieces Outside (text ++ rest) ≡ onto text (pieces Outside rest)

passes-both : (a b : List ℕ) → Passes a → Passes b → Passes (a ++ b)
passes-both a b p q = record {
  over = λ rest. ap (λ l. pieces Outside l) (append_assoc a b rest) ∙ p.over (b ++ rest) ∙ ap (onto a) (q.over rest)
      ∙ sym (onto-append a b (pieces Outside rest));
}

plain-next : (byte : ℕ) → is_plain byte ≡ true → (cuts Outside byte ≡ false) × (next_place Outside byte ≡ Outside)
plain-next byte plain =
    let quote : (byte == 34) ≡ false = ne_eqb byte 34 (λ same.
    let there : is_plain 34 ≡ true = subst (λ b. is_plain b ≡ true) same plain in
    cc) in
    let semicolon : (byte == 59) ≡ false = ne_eqb byte 59 (λ same.
    let there : is_plain 59 ≡ true = subst (λ b. is_plain b ≡ true) same plain in
    cc) in
    (semicolon, rw quote refl)

-- a byte that cuts nothing is the next one of the first piece
goes-on : (place next : Place) (byte : ℕ) (text : List ℕ) → cuts place byte ≡ false → next_place place byte ≡ next
    → pieces place (byte ∷ text) ≡ with_front byte (pieces next text)
goes-on place next byte text cut behind =
    ap (λ (c : Bool). cond c ([] ∷ pieces Outside text) (with_front byte (pieces (next_place place byte) text))) cut
    ∙ ap (λ (p : Place). with_front byte (pieces p text)) behind

plain-over : (text rest : List ℕ) → list_all is_plain text ≡ true → pieces Outside (text ++ rest)
    ≡ onto text (pieces Outside rest)
plain-over [] rest plain = refl
plain-over (byte ∷ text) rest plain =
    let next = plain-next byte (first_so (is_plain byte) (list_all is_plain text) plain) in
    goes-on Outside Outside byte (text ++ rest) next.0 next.1
    ∙ ap (with_front byte) (plain-over text rest (second_so (is_plain byte) (list_all is_plain text) plain))

plain-passes : (text : List ℕ) → list_all is_plain text ≡ true → Passes text
plain-passes text plain = record { over = λ rest. plain-over text rest plain }

equals-passes : Passes (61 ∷ [])
equals-passes = record { over = λ rest. refl }

quoted-over : (written value : List ℕ) → IsQuoted written value → (rest : List ℕ) → pieces Quoted (written ++ rest)
    ≡ onto written (pieces Outside rest)
quoted-over _ _ IsQuoted.closed rest = refl
quoted-over _ _ (IsQuoted.plain byte written value quote backslash q) rest =
    goes-on Quoted Quoted byte (written ++ rest) refl (rw (ne_eqb byte 34 quote, ne_eqb byte 92 backslash) refl)
    ∙ ap (with_front byte) (quoted-over written value q rest)
quoted-over _ _ (IsQuoted.escaped byte written value q) rest =
    ap (λ ps. with_front 92 (with_front byte ps)) (quoted-over written value q rest)

value-passes : (written value : List ℕ) → IsValue written value → Passes written
value-passes _ _ (IsValue.token text token) = plain-passes text (token-plain text token)
value-passes _ _ (IsValue.quoted written value q) =
    record { over = λ rest. ap (with_front 34) (quoted-over written value q rest) }

padded-passes : (inner text : List ℕ) → IsPadded inner text → Passes inner → Passes text
padded-passes inner text p over =
    subst Passes (sym p.text_is)
    (passes-both p.before (inner ++ p.behind) (plain-passes p.before (blank-plain p.before p.blank_before))
    (passes-both inner p.behind over (plain-passes p.behind (blank-plain p.behind p.blank_behind))))

directive-passes : (text : List ℕ) (found : Directive) → IsDirective text found → Passes text
directive-passes _ _ (IsDirective.bare name text token padded) = plain-passes text (padded-plain name text token padded)
directive-passes _ _ (IsDirective.valued name left written right value token padded is_value padded_value) =
    passes-both left (61 ∷ right) (plain-passes left (padded-plain name left token padded))
    (passes-both (61 ∷ []) right equals-passes
    (padded-passes written right padded_value (value-passes written value is_value)))

piece-passes : (text : List ℕ) (found : List Directive) → IsPiece text found → Passes text
piece-passes _ _ (IsPiece.blank text blank) = plain-passes text (blank-plain text blank)
piece-passes _ _ (IsPiece.written text found d) = directive-passes text found d

-- ---- a directive is not blank

solid-byte : (a : List ℕ) (byte : ℕ) (b : List ℕ) → is_blank byte ≡ false → list_all is_blank (a ++ byte ∷ b) ≡ false
solid-byte [] byte b solid = rw solid refl
solid-byte (other ∷ a) byte b solid = rw (solid-byte a byte b solid) (and-false (is_blank other))

directive-solid : (text : List ℕ) (found : Directive) → IsDirective text found → list_all is_blank text ≡ false
directive-solid _ _ (IsDirective.bare name text token padded) =
    let s = token-solid name token in
    let is : text ≡ padded.before ++ s.first ∷ (s.rest ++ padded.behind) = padded.text_is
    ∙ ap (λ l. padded.before ++ (l ++ padded.behind)) s.first_is in
    ap (λ l. list_all is_blank l) is ∙ solid-byte padded.before s.first (s.rest ++ padded.behind) s.first_solid
directive-solid _ _ (IsDirective.valued name left written right value token padded is_value padded_value) =
    solid-byte left 61 right refl

-- ---- so a field is read as its directives

piece-read : (text : List ℕ) (found : List Directive) → IsPiece text found → piece_in text ≡ Some found
piece-read _ _ (IsPiece.blank text blank) = rw blank refl
piece-read _ _ (IsPiece.written text found d) =
    rw (directive-solid text found d) (ap (λ o. option_map (λ f. f ∷ []) o) (directive-read text found d))

pub field-read : (value : List ℕ) (found : List Directive) → IsField value found → directives_of value ≡ Some found
field-read _ _ (IsField.last text found piece) =
    let over = piece-passes text found piece in
    let one : pieces Outside text ≡ text ∷ [] = ap (λ l. pieces Outside l) (sym (append-nil text)) ∙ over.over []
    ∙ onto-empty text [] in
    ap directives_in one ∙ with_more-nothing (piece_in text) ∙ piece-read text found piece
field-read _ _ (IsField.more piece rest found others is_piece is_field) =
    let over = piece-passes piece found is_piece in
    let cut : pieces Outside (piece ++ 59 ∷ rest) ≡ piece ∷ pieces Outside rest = over.over (59 ∷ rest)
    ∙ onto-empty piece (pieces Outside rest) in
    ap directives_in cut ∙ ap (λ o. with_more o (directives_of rest)) (piece-read piece found is_piece)
    ∙ ap (λ o. with_more (Some found) o) (field-read rest others is_field)

-- ---- and what is read is one

until-none : (text : List ℕ) → after_equals text ≡ None → until_equals text ≡ text
until-none [] e = refl
until-none (byte ∷ text) e = until-none-by byte text (byte == 61) (until-none text) e
  where
    until-none-by : (byte : ℕ) (text : List ℕ) (here : Bool) → (after_equals text ≡ None → until_equals text ≡ text)
        → (if here then Some text else after_equals text) ≡ None → (if here then [] else byte ∷ until_equals text)
        ≡ byte ∷ text
    until-none-by byte text true h e = cc
    until-none-by byte text false h e = ap (λ l. byte ∷ l) (h e)

until-by : (byte : ℕ) (text right : List ℕ) (here : Bool) → (byte == 61) ≡ here
    → (after_equals text ≡ Some right → text ≡ until_equals text ++ 61 ∷ right)
    → (if here then Some text else after_equals text) ≡ Some right → byte ∷ text
    ≡ (if here then [] else byte ∷ until_equals text) ++ 61 ∷ right
until-by byte text right true same h e =
    let equals : byte ≡ 61 = eqb-true byte 61 same in
    cc
until-by byte text right false same h e = ap (λ l. byte ∷ l) (h e)

until-some : (text right : List ℕ) → after_equals text ≡ Some right → text ≡ until_equals text ++ 61 ∷ right
until-some [] right e = cc
until-some (byte ∷ text) right e = until-by byte text right (byte == 61) refl (until-some text right) e

trimmed-as : (text name : List ℕ) → trimmed tab_or_space text ≡ name → IsPadded name text
trimmed-as text name e = subst (λ l. IsPadded l text) e (trimmed-padded text)

record ValueRead (name : List ℕ) (read : Option (List ℕ)) (found : Directive) : Type 0 where
  value : List ℕ
  value_is : read ≡ Some value
  found_is : directive name (Some value) ≡ found

value-of : (name : List ℕ) (read : Option (List ℕ)) (found : Directive)
    → option_map (λ v. directive name (Some v)) read ≡ Some found → ValueRead name read found
value-of name None found e = absurd (cc)
value-of name (Some value) found e = record { value = value; value_is = refl; found_is = cc }

read-with : (text name : List ℕ) (written : Option (List ℕ)) (found : Directive) → is_token name ≡ true
    → IsPadded name (until_equals text) → after_equals text ≡ written → directive_with name written ≡ Some found
    → IsDirective text found
read-with text name None found token padded e f =
    let same : directive name None ≡ found = cc in
    subst (λ d. IsDirective text d) same
    (IsDirective.bare name text token (subst (λ l. IsPadded name l) (until-none text e) padded))
read-with text name (Some right) found token padded e f =
    let v = value-of name (value_in (trimmed tab_or_space right)) found f in
    subst (λ d. IsDirective text d) v.found_is
    (subst (λ l. IsDirective l (directive name (Some v.value))) (sym (until-some text right e))
    (IsDirective.valued name (until_equals text) (trimmed tab_or_space right) right v.value token padded
    (read-value (trimmed tab_or_space right) v.value v.value_is) (trimmed-padded right)))

read-from : (text name : List ℕ) (written : Option (List ℕ)) (found : Directive) (token : Bool) → is_token name
    ≡ token → IsPadded name (until_equals text) → after_equals text ≡ written
    → (if token then directive_with name written else None) ≡ Some found → IsDirective text found
read-from text name written found true token padded e f = read-with text name written found token padded e f
read-from text name written found false token padded e f = absurd (cc)

read-directive : (text : List ℕ) (found : Directive) → directive_in text ≡ Some found → IsDirective text found
read-directive text found e =
    let name = trimmed tab_or_space (before_first (λ byte. byte == 61) text) in
    read-from text name (behind_equals text) found (is_token name) refl
    (trimmed-as (until_equals text) name (ap (λ l. trimmed tab_or_space l) (sym (until_equals-is text))))
    (sym (after_equals-is text)) e

record OneRead (read : Option Directive) (found : List Directive) : Type 0 where
  one : Directive
  one_is : read ≡ Some one
  found_is : one ∷ [] ≡ found

one-of : (read : Option Directive) (found : List Directive) → option_map (λ f. f ∷ []) read ≡ Some found
    → OneRead read found
one-of None found e = absurd (cc)
one-of (Some one) found e = record { one = one; one_is = refl; found_is = cc }

piece-by : (text : List ℕ) (found : List Directive) (blank : Bool) → list_all is_blank text ≡ blank
    → (if blank then Some [] else option_map (λ f. f ∷ []) (directive_in text)) ≡ Some found → IsPiece text found
piece-by text found true blank e =
    let same : [] ≡ found = cc in
    subst (λ f. IsPiece text f) same (IsPiece.blank text blank)
piece-by text found false blank e =
    let o = one-of (directive_in text) found e in
    subst (λ f. IsPiece text f) o.found_is (IsPiece.written text o.one (read-directive text o.one o.one_is))

read-piece : (text : List ℕ) (found : List Directive) → piece_in text ≡ Some found → IsPiece text found
read-piece text found e = piece-by text found (list_all is_blank text) refl e

-- the pieces with semicolons between them
abbrev joined : List (List ℕ) → List ℕ
joined [] = []
joined (piece ∷ []) = piece
joined (piece ∷ next ∷ pieces) = piece ++ 59 ∷ joined (next ∷ pieces)

joined-front : (byte : ℕ) (ps : List (List ℕ)) → joined (with_front byte ps) ≡ byte ∷ joined ps
joined-front byte [] = refl
joined-front byte (piece ∷ []) = refl
joined-front byte (piece ∷ next ∷ ps) = refl

cut-semicolon : (place : Place) (byte : ℕ) → cuts place byte ≡ true → byte ≡ 59
cut-semicolon Outside byte e = eqb-true byte 59 e
cut-semicolon Quoted byte e = absurd (cc)
cut-semicolon Escaped byte e = absurd (cc)

joined-next : (ps : List (List ℕ)) (piece : List ℕ) (others : List (List ℕ)) → ps ≡ piece ∷ others → joined ([] ∷ ps)
    ≡ 59 ∷ joined ps
joined-next ps piece others e = rw e refl

joined-by : (place : Place) (byte : ℕ) (text : List ℕ) (cut : Bool) → cuts place byte ≡ cut
    → ((p : Place) → joined (pieces p text) ≡ text)
    → joined (if cut then [] ∷ pieces Outside text else with_front byte (pieces (next_place place byte) text))
    ≡ byte ∷ text
joined-by place byte text true e h =
    joined-next (pieces Outside text) _ _ (pieces-cut Outside text) ∙ ap (λ l. 59 ∷ l) (h Outside)
    ∙ ap (λ b. b ∷ text) (sym (cut-semicolon place byte e))
joined-by place byte text false e h =
    joined-front byte (pieces (next_place place byte) text) ∙ ap (λ l. byte ∷ l) (h (next_place place byte))

pieces-joined : (place : Place) (text : List ℕ) → joined (pieces place text) ≡ text
pieces-joined place [] = refl
pieces-joined place (byte ∷ text) = joined-by place byte text (cuts place byte) refl (λ p. pieces-joined p text)

record BothRead (first others : Option (List Directive)) (found : List Directive) : Type 0 where
  a : List Directive
  b : List Directive
  first_is : first ≡ Some a
  others_is : others ≡ Some b
  found_is : a ++ b ≡ found

both-of : (first others : Option (List Directive)) (found : List Directive) → with_more first others ≡ Some found
    → BothRead first others found
both-of None others found e = absurd (cc)
both-of (Some a) None found e = absurd (cc)
both-of (Some a) (Some b) found e = record { a = a; b = b; first_is = refl; others_is = refl; found_is = cc }

read-pieces : (piece : List ℕ) (others : List (List ℕ)) (found : List Directive) → directives_in (piece ∷ others)
    ≡ Some found → IsField (joined (piece ∷ others)) found
read-pieces piece [] found e =
    IsField.last piece found (read-piece piece found (sym (with_more-nothing (piece_in piece)) ∙ e))
read-pieces piece (next ∷ others) found e =
    let r = both-of (piece_in piece) (directives_in (next ∷ others)) found e in
    subst (λ f. IsField (piece ++ 59 ∷ joined (next ∷ others)) f) r.found_is
    (IsField.more piece (joined (next ∷ others)) r.a r.b (read-piece piece r.a r.first_is)
    (read-pieces next others r.b r.others_is))

read-cut : (value : List ℕ) (ps : List (List ℕ)) (piece : List ℕ) (others : List (List ℕ)) (found : List Directive)
    → ps ≡ piece ∷ others → joined ps ≡ value → directives_in ps ≡ Some found → IsField value found
read-cut value ps piece others found e whole read =
    let first : directives_in (piece ∷ others) ≡ Some found = ap directives_in (sym e) ∙ read in
    subst (λ l. IsField l found) (ap joined (sym e) ∙ whole) (read-pieces piece others found first)

pub read-field : (value : List ℕ) (found : List Directive) → directives_of value ≡ Some found → IsField value found
read-field value found e = read-cut value (pieces Outside value) _ _ found (pieces-cut Outside value)
    (pieces-joined Outside value) e
