-- The rows of a table that is read.
use Rattle.std.proofs.Common.{◌≡◌, ◌==◌, ℕ, suc, ◌+◌, ◌≤◌, Bool, true, false, not, List, [], ◌∷◌, ◌++◌, length}
use Rattle.std.proofs.Common.{map, Option, Some, None, Result, Ok, Err, codes, bytes_eq, nat_le, refl, ap, sym, subst}
use Rattle.std.proofs.Common.{◌∙◌, arith, length-append, leb-true, if◌then◌else◌, true≢false}
use Rattle.std.proofs.lemmas.Bool.{and_from}
use Rattle.std.proofs.lemmas.Grind.{common_steps}
use Rattle.std.proofs.lemmas.List.{length-map}
use Rattle.std.proofs.lemmas.List.Elements.{All-from_recursion}
use Rattle.std.proofs.lemmas.List.Splits.{join_with_byte-slice_split}
use Rattle.std.proofs.lemmas.Slice.Eq.{bytes_eq-Decides}
use Rattle.std.specs.Char.{to_ascii_lowercase}
use Rattle.std.specs.Cmp.{first_so, second_so}
use Rattle.std.specs.List.{AllByRecursion, join_with_byte, list_all, slice_split}
use Rattle.std.specs.Str.{str_to_ascii_lowercase}
use Rattle.value_text.specs.Ascii.{comma, line_feed, space}
use Rattle.value_text.specs.Tokens.{is_token}
use Rattle.value_text.specs.Wildcards.{is_wildcard}
use Rattle.value_requests.specs.OriginTexts.{is_origin_text}
use Rattle.server_tables.specs.Reading.{credentials_in, listed, may_be_listed, most_in_line, most_rows, numbered_row}
use Rattle.server_tables.specs.Reading.{row_in, row_of_parts, row_with, rows_from, where_listed, with_row}
use Rattle.server_tables.specs.declared.read.BadLine.{BadLine}
use Rattle.server_tables.specs.declared.table.Row.{Row}
use Rattle.server_access.specs.Access.{IsRow, RowsAreRead}
use Rattle.server_access.proofs.NameLemmas.{lower-twice, token-lower}

-- ---- lower case

-- the wildcard alone is it in lower case
star-lower : (byte : ℕ) → to_ascii_lowercase byte ≡ 42 → byte ≡ 42
star-lower byte same = grind (arith, common_steps)

wildcard-lower : (text : List ℕ) → str_to_ascii_lowercase text ≡ codes "*" → text ≡ codes "*"
wildcard-lower [] same = absurd (cc)
wildcard-lower (byte ∷ []) same =
    let here : to_ascii_lowercase byte ≡ 42 = cc same in ap (λ (b : ℕ). b ∷ []) (star-lower byte here)
wildcard-lower (byte ∷ other ∷ text) same = absurd (cc)

no-wildcard : (text : List ℕ) → not (is_wildcard text) ≡ true → not (is_wildcard (str_to_ascii_lowercase text)) ≡ true
no-wildcard text is = by-test (is_wildcard (str_to_ascii_lowercase text)) refl
  where
    by-test : (b : Bool) → is_wildcard (str_to_ascii_lowercase text) ≡ b → not b ≡ true
    by-test true same =
        let whole : text ≡ codes "*" =
        wildcard-lower text ((bytes_eq-Decides (str_to_ascii_lowercase text) (codes "*")).0 same) in
        absurd (true≢false (sym is ∙ ap (λ (t : List ℕ). not (is_wildcard t)) whole))
    by-test false same = refl

names-lower : (texts : List (List ℕ)) → list_all may_be_listed texts ≡ true
    → list_all may_be_listed (map str_to_ascii_lowercase texts) ≡ true
names-lower [] all = refl
names-lower (text ∷ texts) all =
    let is : may_be_listed text ≡ true = first_so (may_be_listed text) (list_all may_be_listed texts) all in
    and_from (may_be_listed (str_to_ascii_lowercase text)) (list_all may_be_listed (map str_to_ascii_lowercase texts))
    (and_from (is_token (str_to_ascii_lowercase text)) (not (is_wildcard (str_to_ascii_lowercase text)))
    (token-lower text (first_so (is_token text) (not (is_wildcard text)) is))
    (no-wildcard text (second_so (is_token text) (not (is_wildcard text)) is)))
    (names-lower texts (second_so (may_be_listed text) (list_all may_be_listed texts) all))

all-lowered : (texts : List (List ℕ))
    → map str_to_ascii_lowercase (map str_to_ascii_lowercase texts) ≡ map str_to_ascii_lowercase texts
all-lowered [] = refl
all-lowered (text ∷ texts) =
    ap (λ (t : List ℕ). t ∷ map str_to_ascii_lowercase (map str_to_ascii_lowercase texts)) (lower-twice text)
    ∙ ap (λ (l : List (List ℕ)). str_to_ascii_lowercase text ∷ l) (all-lowered texts)

joined-lower : (texts : List (List ℕ))
    → length (join_with_byte comma (map str_to_ascii_lowercase texts)) ≡ length (join_with_byte comma texts)
joined-lower [] = refl
joined-lower (text ∷ []) = length-map text to_ascii_lowercase
joined-lower (text ∷ other ∷ texts) =
    omega (
      arith,
      length-append (str_to_ascii_lowercase text) (comma ∷ join_with_byte comma (map str_to_ascii_lowercase (other
          ∷ texts))),
      length-append text (comma ∷ join_with_byte comma (other ∷ texts)),
      length-map text to_ascii_lowercase,
      joined-lower (other ∷ texts),
    )

-- ---- the parts of a line

-- The texts may be listed, and with commas between they have so many bytes at most.
record AreOf (text : List ℕ) (texts : List (List ℕ)) : Type 0 where
  all : list_all may_be_listed texts ≡ true
  few : length (join_with_byte comma texts) ≤ length text

where-of : (text : List ℕ) (parts texts : List (List ℕ)) → join_with_byte comma parts ≡ text
    → where_listed parts ≡ Some texts → AreOf text texts
where-of text parts texts whole same = by-test (list_all may_be_listed parts) refl same
  where
    by-test : (b : Bool) → list_all may_be_listed parts ≡ b → (if b then Some parts else None) ≡ Some texts
        → AreOf text texts
    by-test true is here =
        let one : parts ≡ texts = cc here in
        subst (AreOf text) one (record { all = is; few = omega (arith, ap length whole) })
    by-test false is here = absurd (cc)

list-of : (text : List ℕ) (texts : List (List ℕ)) → listed text ≡ Some texts → AreOf text texts
list-of text texts same = by-test (bytes_eq text (codes "()")) same
  where
    by-test : (b : Bool) → (if b then Some [] else where_listed (slice_split (λ byte. byte == comma) text)) ≡ Some texts
        → AreOf text texts
    by-test true here =
        let none : [] ≡ texts = cc here in
        subst (AreOf text) none (record { all = refl; few = omega arith })
    by-test false here =
        where-of text (slice_split (λ byte. byte == comma) text) texts (join_with_byte-slice_split comma text) here

with-of : (origin methods_text names_text : List ℕ) (methods names : Option (List (List ℕ))) (credentials : Option Bool)
    (row : Row) → listed methods_text ≡ methods → listed names_text ≡ names
    → length origin + length methods_text + length names_text ≤ most_in_line
    → row_with origin methods names credentials ≡ Some row → IsRow row
with-of origin methods_text names_text (Some methods) (Some names) (Some credentials) row m n fits same =
    let asks = list-of methods_text methods m in
    let named = list-of names_text names n in
    let made : Row = record {
      origin = origin;
      methods = methods;
      names = map str_to_ascii_lowercase names;
      credentials = credentials;
    } in
    let is : IsRow made = record {
      methods = asks.all;
      names = names-lower names named.all;
      lowered = all-lowered names;
      fits = omega (arith, asks.few, named.few, joined-lower names, fits);
    } in
    let one : made ≡ row = cc same in subst IsRow one is
with-of origin methods_text names_text methods names credentials row m n fits same = absurd (cc)

parts-of : (parts : List (List ℕ)) (row : Row) → length (join_with_byte space parts) ≤ most_in_line
    → row_of_parts parts ≡ Some row → IsRow row
parts-of (origin ∷ methods ∷ names ∷ credentials ∷ []) row few same = by-test (is_origin_text origin) same
  where
    by-test : (b : Bool)
        → (if b then row_with origin (listed methods) (listed names) (credentials_in credentials) else None) ≡ Some row
        → IsRow row
    by-test true here =
        with-of origin methods names (listed methods) (listed names) (credentials_in credentials) row refl refl
        (omega (
          arith,
          few,
          length-append origin (space ∷ (methods ++ space ∷ (names ++ space ∷ credentials))),
          length-append methods (space ∷ (names ++ space ∷ credentials)),
          length-append names (space ∷ credentials),
        )) here
    by-test false here = absurd (cc)
parts-of parts row few same = absurd (cc)

line-of : (line : List ℕ) (row : Row) → row_in line ≡ Some row → IsRow row
line-of line row same = by-test (nat_le (length line) most_in_line) refl same
  where
    by-test : (b : Bool) → nat_le (length line) most_in_line ≡ b
        → (if b then row_of_parts (slice_split (λ byte. byte == space) line) else None) ≡ Some row → IsRow row
    by-test true is here =
        parts-of (slice_split (λ byte. byte == space) line) row
        (omega (
          arith,
          leb-true (length line) most_in_line is,
          ap length (join_with_byte-slice_split space line),
        )) here
    by-test false is here = absurd (cc)

numbered-of : (number : ℕ) (line : List ℕ) (row : Row) → numbered_row number line ≡ Some row → IsRow row
numbered-of number line row same = by-test (nat_le number most_rows) same
  where
    by-test : (b : Bool) → (if b then row_in line else None) ≡ Some row → IsRow row
    by-test true here = line-of line row here
    by-test false here = absurd (cc)

-- ---- the lines

before-of : (number : ℕ) (found : Option Row) (rest : Result (List Row) BadLine) (rows : List Row)
    → ((row : Row) → found ≡ Some row → IsRow row)
    → ((more : List Row) → rest ≡ Ok more → AllByRecursion IsRow more)
    → with_row number found rest ≡ Ok rows → AllByRecursion IsRow rows
before-of number None rest rows first later same = absurd (cc)
before-of number (Some row) (Ok more) rows first later same =
    let whole : row ∷ more ≡ rows = cc same in
    subst (AllByRecursion IsRow) whole (first row refl, later more refl)
before-of number (Some row) (Err bad) rows first later same = absurd (cc)

lines-of : (number : ℕ) (parts : List (List ℕ)) (rows : List Row) → rows_from number parts ≡ Ok rows
    → AllByRecursion IsRow rows
lines-of number [] rows same =
    let none : [] ≡ rows = cc same in subst (AllByRecursion IsRow) none tt
lines-of number ([] ∷ []) rows same =
    let none : [] ≡ rows = cc same in subst (AllByRecursion IsRow) none tt
lines-of number ((byte ∷ line) ∷ []) rows same = absurd (cc)
lines-of number ([] ∷ part ∷ parts) rows same =
    before-of number (numbered_row number []) (rows_from (suc number) (part ∷ parts)) rows (numbered-of number [])
    (lines-of (suc number) (part ∷ parts)) same
lines-of number ((byte ∷ line) ∷ part ∷ parts) rows same =
    before-of number (numbered_row number (byte ∷ line)) (rows_from (suc number) (part ∷ parts)) rows
    (numbered-of number (byte ∷ line)) (lines-of (suc number) (part ∷ parts)) same

pub rows-read : RowsAreRead
rows-read text rows same =
    All-from_recursion IsRow rows (lines-of 1 (slice_split (λ byte. byte == line_feed) text) rows same)
