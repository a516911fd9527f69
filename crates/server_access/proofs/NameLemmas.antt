-- The CORS-unsafe request-header names of a header list: they are in lower case, and Authorization is one of them.
use Rattle.std.proofs.Common.{◌≡◌, ◌==◌, ℕ, Bool, true, false, not, ◌&&◌, ◌||◌, cond, List, [], ◌∷◌, length, map}
use Rattle.std.proofs.Common.{refl, ap, sym, ◌∙◌, true≢false, if◌then◌else◌, nat_le, nat_lt, codes, arith}
use Rattle.std.proofs.lemmas.Bool.{and_from, and_right, or_right}
use Rattle.std.proofs.lemmas.Grind.{common_steps}
use Rattle.std.proofs.lemmas.List.{length-map}
use Rattle.std.proofs.lemmas.Slice.Eq.{bytes_eq-Decides}
use Rattle.std.proofs.lemmas.Str.Ascii.{lowercase-lowercase}
use Rattle.std.specs.BTreeSet.{insert_key}
use Rattle.std.specs.Char.{to_ascii_lowercase}
use Rattle.std.specs.Cmp.{first_so, second_so}
use Rattle.std.specs.List.{AllByRecursion, list_all, list_any}
use Rattle.std.specs.Ordering.{match_ordering}
use Rattle.std.specs.Str.{bytes_eq, str_eq_ignore_ascii_case, str_to_ascii_lowercase}
use Rattle.std.specs.declared.cmp.Ordering.TheVariants.{Less, Equal, Greater}
use Rattle.value_text.specs.Orders.{text_cmp}
use Rattle.value_text.specs.Tokens.{is_tchar, is_token}
use Rattle.value_text.specs.Wildcards.{authorization}
use Rattle.value_headers.specs.declared.headers.Header.{Header}
use Rattle.value_headers.specs.Headers.{contains, is_named}
use Rattle.policy_safelist.proofs.SetLemmas.{sorted_lowercase_set-is}
use Rattle.policy_safelist.specs.Ranges.{is_simple_range}
use Rattle.policy_safelist.specs.Safelisted.{has_no_unsafe_byte, is_form_type, is_language_byte, is_safelisted}
use Rattle.policy_safelist.specs.Sets.{sorted_lowercase_set}
use Rattle.policy_safelist.specs.UnsafeNames.{is_safelisted_header, names_of_unsafe, safelisted_size, unsafe_headers}
use Rattle.policy_safelist.specs.UnsafeNames.{unsafe_names}

-- the text is in lower case
abbrev pub IsLowered : List ℕ → Type 0
IsLowered text = str_to_ascii_lowercase text ≡ text

-- lower case stays
pub lower-twice : (text : List ℕ) → IsLowered (str_to_ascii_lowercase text)
lower-twice [] = refl
lower-twice (byte ∷ text) =
    ap (λ (b : ℕ). b ∷ str_to_ascii_lowercase (str_to_ascii_lowercase text)) (lowercase-lowercase byte)
    ∙ ap (λ (l : List ℕ). to_ascii_lowercase byte ∷ l) (lower-twice text)

inserted : (P : List ℕ → Type 0) (text : List ℕ) (texts : List (List ℕ)) → AllByRecursion P texts → P text
    → AllByRecursion P (insert_key text_cmp texts text)
inserted P text [] all here = (here, tt)
inserted P text (other ∷ texts) all here =
    elim (text_cmp text other) as (λ o. AllByRecursion P
    (match_ordering o (text ∷ other ∷ texts) (other ∷ texts) (other ∷ insert_key text_cmp texts text))) [
      | Less ↦ (here, all)
      | Equal ↦ all
      | Greater ↦ (all.0, inserted P text texts all.1 here)
    ]

set-lowered : (names : List (List ℕ)) → AllByRecursion IsLowered (sorted_lowercase_set names)
set-lowered [] = tt
set-lowered (name ∷ names) =
    inserted IsLowered (str_to_ascii_lowercase name) (sorted_lowercase_set names) (set-lowered names) (lower-twice name)

pub unsafe-lowered : (headers : List Header) → AllByRecursion IsLowered (unsafe_names headers)
unsafe-lowered headers = set-lowered (names_of_unsafe headers)

-- ---- tokens

tchar-lower : (byte : ℕ) → is_tchar byte ≡ true → is_tchar (to_ascii_lowercase byte) ≡ true
tchar-lower byte is = grind (arith, common_steps)

tchars-lower : (text : List ℕ) → list_all is_tchar text ≡ true → list_all is_tchar (str_to_ascii_lowercase text) ≡ true
tchars-lower [] all = refl
tchars-lower (byte ∷ text) all =
    and_from (is_tchar (to_ascii_lowercase byte)) (list_all is_tchar (str_to_ascii_lowercase text))
    (tchar-lower byte (first_so (is_tchar byte) (list_all is_tchar text) all))
    (tchars-lower text (second_so (is_tchar byte) (list_all is_tchar text) all))

pub token-lower : (text : List ℕ) → is_token text ≡ true → is_token (str_to_ascii_lowercase text) ≡ true
token-lower text is =
    and_from (not (length (str_to_ascii_lowercase text) == 0)) (list_all is_tchar (str_to_ascii_lowercase text))
    (ap (λ (n : ℕ). not (n == 0)) (length-map text to_ascii_lowercase)
    ∙ first_so (not (length text == 0)) (list_all is_tchar text) is)
    (tchars-lower text (second_so (not (length text == 0)) (list_all is_tchar text) is))

-- the text is a token
abbrev IsToken : List ℕ → Type 0
IsToken text = is_token text ≡ true

set-tokens : (names : List (List ℕ)) → AllByRecursion IsToken names
    → AllByRecursion IsToken (sorted_lowercase_set names)
set-tokens [] all = tt
set-tokens (name ∷ names) all =
    inserted IsToken (str_to_ascii_lowercase name) (sorted_lowercase_set names) (set-tokens names all.1)
    (token-lower name all.0)

unsafe-names : (too_long : Bool) (headers : List Header)
    → AllByRecursion (λ (one : Header). is_token one.name ≡ true) headers
    → AllByRecursion IsToken (map (λ (h : Header). h.name) (unsafe_headers too_long headers))
unsafe-names too_long [] all = tt
unsafe-names too_long (one ∷ more) all =
    by-test (too_long || not (is_safelisted_header one)) (unsafe-names too_long more all.1)
  where
    by-test : (b : Bool) → AllByRecursion IsToken (map (λ (h : Header). h.name) (unsafe_headers too_long more))
        → AllByRecursion IsToken (map (λ (h : Header). h.name)
        (cond b (one ∷ unsafe_headers too_long more) (unsafe_headers too_long more)))
    by-test true rest = (all.0, rest)
    by-test false rest = rest

tokens-all : (texts : List (List ℕ)) → AllByRecursion IsToken texts → list_all is_token texts ≡ true
tokens-all [] all = refl
tokens-all (text ∷ texts) all = and_from (is_token text) (list_all is_token texts) all.0 (tokens-all texts all.1)

-- the unsafe names of headers whose names are tokens are tokens
pub unsafe-tokens : (headers : List Header) → AllByRecursion (λ (one : Header). is_token one.name ≡ true) headers
    → list_all is_token (unsafe_names headers) ≡ true
unsafe-tokens headers all =
    tokens-all (unsafe_names headers) (set-tokens (names_of_unsafe headers)
    (unsafe-names (nat_lt 1024 (safelisted_size headers)) headers all))

-- ---- Authorization

-- the name that is this text in lower case is among these
abbrev is_one : List (List ℕ) → List ℕ → Bool
is_one names lowered = list_any (λ listed. bytes_eq (str_to_ascii_lowercase listed) lowered) names

-- it is not safelisted, whatever its value
authorization-unsafe : (name value : List ℕ) → str_eq_ignore_ascii_case name authorization ≡ true
    → is_safelisted name value ≡ false
authorization-unsafe name value same =
    ap (λ (lowered : List ℕ). nat_le (length value) 128
    && (if is_one (codes "Accept" ∷ []) lowered then has_no_unsafe_byte value
    else if is_one (codes "Accept-Language" ∷ codes "Content-Language" ∷ []) lowered
    then list_all is_language_byte value
    else if is_one (codes "Content-Type" ∷ []) lowered then has_no_unsafe_byte value && is_form_type value
    else if is_one (codes "Range" ∷ []) lowered then is_simple_range value
    else false))
    ((bytes_eq-Decides (str_to_ascii_lowercase name) authorization).0 same)
    ∙ and_right (nat_le (length value) 128) false refl

-- the names that are kept
abbrev kept : Bool → List Header → List (List ℕ)
kept too_long headers = map str_to_ascii_lowercase (map (λ (h : Header). h.name) (unsafe_headers too_long headers))

authorization-kept : (too_long : Bool) (headers : List Header) → contains authorization headers ≡ true
    → list_any (bytes_eq authorization) (kept too_long headers) ≡ true
authorization-kept too_long [] has = has
authorization-kept too_long (one ∷ more) has =
    by-name (authorization-kept too_long more) (is_named authorization one) refl has
  where
    -- one that is kept, or not
    behind : (b : Bool) → list_any (bytes_eq authorization) (kept too_long more) ≡ true
        → list_any (bytes_eq authorization) (map str_to_ascii_lowercase (map (λ (h : Header). h.name)
        (cond b (one ∷ unsafe_headers too_long more) (unsafe_headers too_long more)))) ≡ true
    behind true rest = or_right (bytes_eq authorization (str_to_ascii_lowercase one.name)) _ rest
    behind false rest = rest

    by-name : (contains authorization more ≡ true → list_any (bytes_eq authorization) (kept too_long more) ≡ true)
        → (b : Bool) → is_named authorization one ≡ b → (b || contains authorization more) ≡ true
        → list_any (bytes_eq authorization) (kept too_long (one ∷ more)) ≡ true
    by-name rest true is some =
        let lowered : authorization ≡ str_to_ascii_lowercase one.name =
        sym ((bytes_eq-Decides (str_to_ascii_lowercase one.name) authorization).0 is) in
        ap (λ (b : Bool). list_any (bytes_eq authorization) (map str_to_ascii_lowercase (map (λ (h : Header). h.name)
        (cond (too_long || not b) (one ∷ unsafe_headers too_long more) (unsafe_headers too_long more)))))
        (authorization-unsafe one.name one.value is)
        ∙ ap (λ (b : Bool). list_any (bytes_eq authorization) (map str_to_ascii_lowercase (map (λ (h : Header). h.name)
        (cond b (one ∷ unsafe_headers too_long more) (unsafe_headers too_long more)))))
        (or_right too_long true refl)
        ∙ ap (λ (b : Bool). b || list_any (bytes_eq authorization) (kept too_long more))
        ((bytes_eq-Decides authorization (str_to_ascii_lowercase one.name)).1 lowered)
    by-name rest false is some = behind (too_long || not (is_safelisted_header one)) (rest some)

-- a header list with Authorization has it among its unsafe names
pub authorization-among : (headers : List Header) → contains authorization headers ≡ true
    → list_any (bytes_eq authorization) (unsafe_names headers) ≡ true
authorization-among headers has =
    (sorted_lowercase_set-is (names_of_unsafe headers)).members authorization
    ∙ authorization-kept (nat_lt 1024 (safelisted_size headers)) headers has

-- ---- lists of names

-- a text of the list that does not pass
pub all-but : (test : List ℕ → Bool) (text : List ℕ) (texts : List (List ℕ))
    → list_any (bytes_eq text) texts ≡ true → test text ≡ false → list_all test texts ≡ false
all-but test text [] some fails = absurd (true≢false (sym some))
all-but test text (other ∷ texts) some fails =
    by-test (λ more. all-but test text texts more fails) (bytes_eq text other) refl some
  where
    by-test : (list_any (bytes_eq text) texts ≡ true → list_all test texts ≡ false) → (b : Bool)
        → bytes_eq text other ≡ b → (b || list_any (bytes_eq text) texts) ≡ true
        → (test other && list_all test texts) ≡ false
    by-test rest true is more =
        ap (λ (b : Bool). b && list_all test texts) (ap test (sym ((bytes_eq-Decides text other).0 is)) ∙ fails)
    by-test rest false is more = and_right (test other) (list_all test texts) (rest more)

-- a name in lower case is in a list of such names where it is there byte for byte
pub names-lowered : (name : List ℕ) (names : List (List ℕ)) → IsLowered name → map str_to_ascii_lowercase names ≡ names
    → list_any (λ item. str_eq_ignore_ascii_case item name) names ≡ list_any (λ item. bytes_eq item name) names
names-lowered name [] low all = refl
names-lowered name (item ∷ names) low all =
    let here : str_to_ascii_lowercase item ≡ item = cc all in
    let later : map str_to_ascii_lowercase names ≡ names = cc all in
    ap (λ (b : Bool). b || list_any (λ other. str_eq_ignore_ascii_case other name) names)
    (ap (λ (l : List ℕ). bytes_eq l (str_to_ascii_lowercase name)) here ∙ ap (bytes_eq item) low)
    ∙ ap (λ (b : Bool). bytes_eq item name || b) (names-lowered name names low later)
