-- The values of a name in header lists that are made by appending, and in the lists of a hop.
use Rattle.std.proofs.Common.{◌≡◌, ℕ, Bool, true, false, cond, List, [], ◌∷◌, ◌++◌, length}
use Rattle.std.proofs.Common.{Option, Some, None, map, filter, refl, ap, sym, ◌∙◌, arith}
use Rattle.std.proofs.Common.{append_assoc, if◌then◌else◌}
use Rattle.std.proofs.lemmas.List.{append-nil, map-append}
use Rattle.std.proofs.lemmas.List.Elements.{filter-append}
use Rattle.std.specs.List.{AllByRecursion, list_all}
use Rattle.std.specs.Prelude.{IfSome}
use Rattle.std.specs.Str.{str_eq_ignore_ascii_case}
use Rattle.value_headers.proofs.ValueLemmas.{no-values}
use Rattle.value_lemmas.proofs.Bytes.{eq_ignore_case-alike}
use Rattle.value_text.specs.Tokens.{is_token}
use Rattle.value_lists.proofs.ExtractLemmas.{named-some}
use Rattle.value_headers.proofs.SpellingLemmas.{spelling-folds}
use Rattle.value_headers.specs.declared.headers.Header.{Header}
use Rattle.value_headers.specs.Headers.{all_appended, appended, contains, is_named, spelling, values_of}
use Rattle.value_requests.specs.Lines.{Line, all_appended_where, appended_where}
use Rattle.link_http1.specs.Blocks.{is_line_byte}
use Rattle.server_heard.specs.Heard.{IsLine}
use Rattle.server_access.proofs.ListLemmas.{each-more}

-- the values of some headers
abbrev pub values : List Header → List (List ℕ)
values headers = map (λ (h : Header). h.value) headers

-- the value, where the name is asked for
abbrev pub value_if : Bool → List ℕ → List (List ℕ)
value_if false value = []
value_if true value = value ∷ []

single-value : (b : Bool) (one : Header) → values (cond b (one ∷ []) []) ≡ value_if b one.value
single-value true one = refl
single-value false one = refl

-- the values of a name, once a header was appended
pub values-appended : (name other value : List ℕ) (headers : List Header)
    → values_of name (appended other value headers)
    ≡ values_of name headers ++ value_if (str_eq_ignore_ascii_case other name) value
values-appended name other value headers =
    let new : Header = record { name = spelling other headers; value = value } in
    ap values (filter-append (is_named name) headers (new ∷ []))
    ∙ map-append (λ (h : Header). h.value) (filter (is_named name) headers) (filter (is_named name) (new ∷ []))
    ∙ ap (λ (more : List (List ℕ)). values_of name headers ++ more)
    (single-value (is_named name new) new
    ∙ ap (λ (b : Bool). value_if b value)
    (eq_ignore_case-alike (spelling other headers) other name (spelling-folds other headers)))

-- the value of a line, where the name is asked for and there is one
abbrev pub line_value : Bool → Option (List ℕ) → List (List ℕ)
line_value false value = []
line_value true None = []
line_value true (Some value) = value ∷ []

-- the values of a name in lines
abbrev pub line_values : List ℕ → List Line → List (List ℕ)
line_values name [] = []
line_values name (one ∷ more) =
    line_value (str_eq_ignore_ascii_case one.name name) one.value ++ line_values name more

none-line : (b : Bool) → line_value b None ≡ []
none-line true = refl
none-line false = refl

some-line : (b : Bool) (value : List ℕ) → value_if b value ≡ line_value b (Some value)
some-line true value = refl
some-line false value = refl

line-appended : (name other : List ℕ) (value : Option (List ℕ)) (headers : List Header)
    → values_of name (appended_where other value headers)
    ≡ values_of name headers ++ line_value (str_eq_ignore_ascii_case other name) value
unfolding appended_where
line-appended name other None headers =
    sym (append-nil (values_of name headers))
    ∙ ap (λ (l : List (List ℕ)). values_of name headers ++ l) (sym (none-line (str_eq_ignore_ascii_case other name)))
line-appended name other (Some value) headers =
    values-appended name other value headers
    ∙ ap (λ (l : List (List ℕ)). values_of name headers ++ l) (some-line (str_eq_ignore_ascii_case other name) value)

-- once lines were appended
pub values-lines : (name : List ℕ) (lines : List Line) (headers : List Header)
    → values_of name (all_appended_where lines headers) ≡ values_of name headers ++ line_values name lines
values-lines name [] headers = sym (append-nil (values_of name headers))
values-lines name (one ∷ more) headers =
    values-lines name more (appended_where one.name one.value headers)
    ∙ ap (λ (l : List (List ℕ)). l ++ line_values name more) (line-appended name one.name one.value headers)
    ∙ append_assoc (values_of name headers) (line_value (str_eq_ignore_ascii_case one.name name) one.value)
    (line_values name more)

-- ---- a name that is there

-- a name without values is not there
pub not-there : (name : List ℕ) (headers : List Header) → values_of name headers ≡ [] → contains name headers ≡ false
not-there name headers none = by-test (contains name headers) refl
  where
    by-test : (b : Bool) → contains name headers ≡ b → contains name headers ≡ false
    by-test true is =
        absurd (omega (arith, named-some name headers is, ap (λ (l : List (List ℕ)). length l) none))
    by-test false is = is

-- and one with a value is
pub there : (name value : List ℕ) (rest : List (List ℕ)) (headers : List Header)
    → values_of name headers ≡ value ∷ rest → contains name headers ≡ true
there name value rest headers some = by-test (contains name headers) refl
  where
    by-test : (b : Bool) → contains name headers ≡ b → contains name headers ≡ true
    by-test true is = is
    by-test false is =
        let same : [] ≡ value ∷ rest = sym (no-values name headers is) ∙ some in absurd (cc)

-- ---- lines

-- the text has no line end
abbrev pub IsLineText : List ℕ → Type 0
IsLineText text = list_all is_line_byte text ≡ true

-- each header is on one line
abbrev pub AreLines : List Header → Type 0
AreLines headers = AllByRecursion IsLine headers

spelling-token : (name : List ℕ) (headers : List Header) → is_token name ≡ true → AreLines headers
    → is_token (spelling name headers) ≡ true
spelling-token name [] token lines = token
spelling-token name (one ∷ more) token lines =
    by-test (is_named name one) (spelling-token name more token lines.1)
  where
    by-test : (b : Bool) → is_token (spelling name more) ≡ true
        → is_token (if b then one.name else spelling name more) ≡ true
    by-test true rest = lines.0.name
    by-test false rest = rest

pub lines-appended : (name value : List ℕ) (headers : List Header) → is_token name ≡ true → IsLineText value
    → AreLines headers → AreLines (appended name value headers)
lines-appended name value headers token on_line lines =
    each-more IsLine headers (record { name = spelling name headers; value = value }) lines
    (record { name = spelling-token name headers token lines; value = on_line })

pub lines-all_appended : (more before : List Header) → AreLines more → AreLines before
    → AreLines (all_appended more before)
lines-all_appended [] before lines first = first
lines-all_appended (one ∷ more) before lines first =
    lines-all_appended more (appended one.name one.value before) lines.1
    (lines-appended one.name one.value before lines.0.name lines.0.value first)

-- a line with a token as its name, and a value on one line where there is one
abbrev pub IsGoodLine : Line → Type 0
IsGoodLine one = (is_token one.name ≡ true) × IfSome one.value IsLineText

lines-where : (name : List ℕ) (value : Option (List ℕ)) (headers : List Header) → is_token name ≡ true
    → IfSome value IsLineText → AreLines headers → AreLines (appended_where name value headers)
unfolding appended_where
lines-where name None headers token on_line lines = lines
lines-where name (Some value) headers token on_line lines = lines-appended name value headers token on_line lines

pub lines-lines : (more : List Line) (headers : List Header) → AllByRecursion IsGoodLine more → AreLines headers
    → AreLines (all_appended_where more headers)
lines-lines [] headers good lines = lines
lines-lines (one ∷ more) headers good lines =
    lines-lines more (appended_where one.name one.value headers) good.1
    (lines-where one.name one.value headers good.0.0 good.0.1 lines)
