-- What is read of headers: by the server of a hop's, and by the engine of a reply's.
use Rattle.std.proofs.Common.{◌≡◌, ◌==◌, ℕ, suc, Bool, true, false, not, ◌||◌, cond, List, [], ◌∷◌, ◌++◌, map}
use Rattle.std.proofs.Common.{All, Some, filter, reverse, refl, ap, sym, subst, ◌∙◌, arith, IsTrue}
use Rattle.std.proofs.Common.{append_assoc, true≢false, if◌then◌else◌, eqb-true}
use Rattle.std.proofs.lemmas.Bool.{and_from}
use Rattle.std.proofs.lemmas.List.{append-nil}
use Rattle.std.proofs.lemmas.List.Folds.{list_all-append}
use Rattle.std.proofs.lemmas.Slice.Eq.{bytes_eq-Decides}
use Rattle.std.specs.Cmp.{first_so, second_so}
use Rattle.std.specs.List.{AllByRecursion, list_all, list_any}
use Rattle.std.specs.Str.{bytes_eq}
use Rattle.value_lemmas.proofs.Lists.{list_all-reverse}
use Rattle.httparse.specs.Grammar.{Field, IsField, is_value_byte}
use Rattle.value_text.proofs.TrimLemmas.{trimmed_end-rest, trimmed_start-rest}
use Rattle.value_text.specs.Ascii.{carriage_return, line_feed, space, tab}
use Rattle.value_text.specs.Tokens.{is_token}
use Rattle.value_text.specs.Trims.{http_whitespace, tab_or_space, trimmed, trimmed_end, trimmed_start}
use Rattle.value_text.specs.Values.{is_header_value, is_nul_or_newline}
use Rattle.value_headers.specs.declared.headers.Header.{Header}
use Rattle.value_headers.specs.Headers.{appended, is_named, spelling, values_of}
use Rattle.link_http1.specs.Heads.{with_lines}
use Rattle.link_http1.specs.RequestHeads.{IsRead}
use Rattle.link_http1.specs.declared.request_head.Asked.{Asked}
use Rattle.server_heard.specs.Heard.{as_read}
use Rattle.server_access.proofs.ListLemmas.{all-each, each-more}
use Rattle.server_access.proofs.TokenLemmas.{all-joined, is_solid, list_value, solid-trimmed}
use Rattle.server_access.proofs.TokenLemmas.{tchar-solid}
use Rattle.server_access.proofs.ValueLemmas.{value_if, values, values-appended}

-- ---- values as they are read

-- a value without white space around it
abbrev pub read_value : List ℕ → List ℕ
read_value = trimmed http_whitespace

trimmed-first : (b : Bool) (one : Header) (rest : List Header)
    → value_if b (read_value one.value) ++ map read_value (values rest)
    ≡ map read_value (values (cond b (one ∷ rest) rest))
trimmed-first true one rest = refl
trimmed-first false one rest = refl

values-as_read : (name : List ℕ) (before more : List Header)
    → values_of name (as_read before more) ≡ values_of name before ++ map read_value (values_of name more)
values-as_read name before [] = sym (append-nil (values_of name before))
values-as_read name before (one ∷ more) =
    values-as_read name (appended one.name (read_value one.value) before) more
    ∙ ap (λ (l : List (List ℕ)). l ++ map read_value (values_of name more))
    (values-appended name one.name (read_value one.value) before)
    ∙ append_assoc (values_of name before) (value_if (is_named name one) (read_value one.value))
    (map read_value (values_of name more))
    ∙ ap (λ (l : List (List ℕ)). values_of name before ++ l)
    (trimmed-first (is_named name one) one (filter (is_named name) more))

-- the values of a name, as they are read
pub values-read : (name : List ℕ) (headers : List Header)
    → values_of name (as_read [] headers) ≡ map read_value (values_of name headers)
values-read name headers = values-as_read name [] headers

-- a list of tokens has nothing to trim
pub list-read : (texts : List (List ℕ)) → list_all is_token texts ≡ true
    → map read_value (list_value texts) ≡ list_value texts
list-read [] all = refl
list-read (text ∷ texts) all =
    ap (λ (t : List ℕ). t ∷ []) (solid-trimmed http_whitespace _
    (all-joined (is_solid http_whitespace) refl (tchar-solid http_whitespace refl) text texts all))

-- ---- a header value has nothing to trim

-- the byte is neither LF nor CR
abbrev is_inner : ℕ → Bool
is_inner byte = not (is_nul_or_newline byte)

blank-same : (byte : ℕ) → is_inner byte ≡ true
    → list_any (λ blank. blank == byte) http_whitespace ≡ list_any (λ blank. blank == byte) tab_or_space
blank-same byte is = by-tests (line_feed == byte) (carriage_return == byte) refl refl
  where
    -- the test the other way round
    turned : (mark : ℕ) → is_inner mark ≡ false → (mark == byte) ≡ true → ⊥
    turned mark none same = true≢false (sym is ∙ sym (ap is_inner (eqb-true mark byte same)) ∙ none)

    by-tests : (a b : Bool) → (line_feed == byte) ≡ a → (carriage_return == byte) ≡ b
        → (tab == byte || (line_feed == byte || (carriage_return == byte || (space == byte || false))))
        ≡ (tab == byte || (space == byte || false))
    by-tests true b p q = absurd (turned line_feed refl p)
    by-tests false true p q = absurd (turned carriage_return refl q)
    by-tests false false p q =
        ap (λ (c : Bool). tab == byte || (c || (carriage_return == byte || (space == byte || false)))) p
        ∙ ap (λ (c : Bool). tab == byte || (c || (space == byte || false))) q

start-same : (text : List ℕ) → list_all is_inner text ≡ true
    → trimmed_start http_whitespace text ≡ trimmed_start tab_or_space text
start-same [] all = refl
start-same (byte ∷ text) all =
    ap (λ (b : Bool). if b then trimmed_start http_whitespace text else byte ∷ text)
    (blank-same byte (first_so (is_inner byte) (list_all is_inner text) all))
    ∙ ap (λ (l : List ℕ). if list_any (λ blank. blank == byte) tab_or_space then l else byte ∷ text)
    (start-same text (second_so (is_inner byte) (list_all is_inner text) all))

-- a test of all bytes holds of what is left
start-all : (test : ℕ → Bool) (blanks text : List ℕ) → list_all test text ≡ true
    → list_all test (trimmed_start blanks text) ≡ true
start-all test blanks text all =
    let rest = trimmed_start-rest blanks text in
    second_so (list_all test rest.0) (list_all test (trimmed_start blanks text))
    (sym (list_all-append test rest.0 (trimmed_start blanks text)) ∙ sym (ap (list_all test) rest.1) ∙ all)

end-all : (test : ℕ → Bool) (blanks text : List ℕ) → list_all test text ≡ true
    → list_all test (trimmed_end blanks text) ≡ true
end-all test blanks text all =
    let rest = trimmed_end-rest blanks text in
    first_so (list_all test (trimmed_end blanks text)) (list_all test rest.0)
    (sym (list_all-append test (trimmed_end blanks text) rest.0) ∙ sym (ap (list_all test) rest.1) ∙ all)

trimmed-all : (test : ℕ → Bool) (blanks text : List ℕ) → list_all test text ≡ true
    → list_all test (trimmed blanks text) ≡ true
trimmed-all test blanks text all =
    end-all test blanks (trimmed_start blanks text) (start-all test blanks text all)

pub header-read : (text : List ℕ) → is_header_value text ≡ true → read_value text ≡ text
header-read text is =
    let inner : list_all is_inner text ≡ true =
    second_so (bytes_eq (trimmed tab_or_space text) text) (list_all is_inner text) is in
    let same : trimmed tab_or_space text ≡ text =
    (bytes_eq-Decides (trimmed tab_or_space text) text).0
    (first_so (bytes_eq (trimmed tab_or_space text) text) (list_all is_inner text) is) in
    ap (trimmed_end http_whitespace) (start-same text inner)
    ∙ ap (λ (l : List ℕ). reverse l) (start-same (reverse (trimmed_start tab_or_space text))
    (list_all-reverse is_inner (trimmed_start tab_or_space text) (start-all is_inner tab_or_space text inner)))
    ∙ same

-- ---- the bytes of what a server reads

-- the value has no control byte but tab
abbrev IsPlainValue : Header → Type 0
IsPlainValue one = list_all is_value_byte one.value ≡ true

all-pass : (text : List ℕ) → All (λ (byte : ℕ). IsTrue (is_value_byte byte)) text → list_all is_value_byte text ≡ true
all-pass [] all = refl
all-pass (byte ∷ text) all =
    and_from (is_value_byte byte) (list_all is_value_byte text) (all 0 byte (omega arith))
    (all-pass text (λ k d lt. all (suc k) d (omega (arith, lt))))

lines-plain : (before : List Header) (fields : List Field) → AllByRecursion IsPlainValue before
    → AllByRecursion IsField fields → AllByRecursion IsPlainValue (with_lines before fields)
lines-plain before [] all each = all
lines-plain before (field ∷ fields) all each =
    let value : list_all is_value_byte (trimmed http_whitespace field.raw) ≡ true =
    trimmed-all is_value_byte http_whitespace field.raw (all-pass field.raw each.0.raw) in
    let new : Header = record {
      name = spelling field.name before;
      value = trimmed http_whitespace field.raw;
    } in
    lines-plain (before ++ new ∷ []) fields (each-more IsPlainValue before new all value) each.1

first-plain : (name value : List ℕ) (rest : List (List ℕ)) (headers : List Header)
    → AllByRecursion IsPlainValue headers → values_of name headers ≡ value ∷ rest → list_all is_value_byte value ≡ true
first-plain name value rest [] all some = absurd (cc)
first-plain name value rest (one ∷ more) all some =
    by-test (first-plain name value rest more all.1) (is_named name one) some
  where
    by-test : (values_of name more ≡ value ∷ rest → list_all is_value_byte value ≡ true) → (b : Bool)
        → values (cond b (one ∷ filter (is_named name) more) (filter (is_named name) more)) ≡ value ∷ rest
        → list_all is_value_byte value ≡ true
    by-test later true is =
        let same : one.value ≡ value = cc is in subst (λ (v : List ℕ). list_all is_value_byte v ≡ true) same all.0
    by-test later false is = later is

-- a value that a server reads has no control byte but tab
pub read-plain : (bytes name value : List ℕ) (rest : List (List ℕ)) (asked : Asked) → IsRead bytes (Some asked)
    → values_of name asked.headers ≡ value ∷ rest → list_all is_value_byte value ≡ true
read-plain bytes name value rest asked read some =
    let printed = read.0 in
    let plain : AllByRecursion IsPlainValue (with_lines [] printed.fields) =
    lines-plain [] printed.fields tt (all-each IsField printed.fields read.1.valid.head.fields) in
    first-plain name value rest (with_lines [] printed.fields) plain
    (sym (ap (λ (a : Asked). values_of name a.headers) read.2) ∙ some)
