-- The CORS-unsafe request-header names of headers whose names are tokens, and what is extracted as tokens.
use Rattle.std.proofs.Common.{◌≡◌, ◌==◌, ℕ, Bool, true, false, not, ◌||◌, cond, List, [], ◌∷◌, length, map}
use Rattle.std.proofs.Common.{refl, ap, ◌∙◌, nat_lt, arith, Some}
use Rattle.std.specs.Prelude.{IfSome, IsTrue}
use Rattle.std.proofs.lemmas.Bool.{and_from, and_parts, cond_both}
use Rattle.std.proofs.lemmas.Grind.{common_steps}
use Rattle.std.proofs.lemmas.List.{length-map}
use Rattle.std.specs.BTreeSet.{insert_key}
use Rattle.std.specs.Char.{to_ascii_lowercase}
use Rattle.std.specs.List.{AllByRecursion, find, flat_map, list_all}
use Rattle.std.specs.Ordering.{match_ordering}
use Rattle.std.specs.Str.{str_to_ascii_lowercase}
use Rattle.std.specs.declared.cmp.Ordering.TheVariants.{Less, Equal, Greater}
use Rattle.value_text.specs.Orders.{text_cmp}
use Rattle.value_text.specs.Tokens.{is_tchar, is_token}
use Rattle.value_headers.specs.declared.headers.Header.{Header}
use Rattle.value_lists.specs.declared.extract.Extracted.{Extracted}
use Rattle.value_lists.specs.declared.extract.Extracted.TheVariants.{Failure, Items}
use Rattle.value_lists.specs.declared.extract.Rule.TheVariants.{Tokens}
use Rattle.value_lists.specs.Extract.{extracted_of, items}
use Rattle.policy_safelist.specs.Sets.{sorted_lowercase_set}
use Rattle.policy_safelist.specs.UnsafeNames.{is_safelisted_header, names_of_unsafe, safelisted_size, unsafe_headers}
use Rattle.policy_safelist.specs.UnsafeNames.{unsafe_names}

-- each of them is a token
abbrev pub AreTokens : List (List ℕ) → Type 0
AreTokens texts = IsTrue (list_all is_token texts)

-- the name of each header is one
abbrev pub AreNamed : List Header → Type 0
AreNamed headers = AllByRecursion (λ (one : Header). IsTrue (is_token one.name)) headers

-- ---- in lower case

tchars-lower : (text : List ℕ) → list_all is_tchar text ≡ true → list_all is_tchar (str_to_ascii_lowercase text) ≡ true
tchars-lower [] all = refl
tchars-lower (byte ∷ text) all =
    let parts = and_parts (is_tchar byte) (list_all is_tchar text) all in
    and_from (is_tchar (to_ascii_lowercase byte)) (list_all is_tchar (str_to_ascii_lowercase text))
    (lower byte parts.0) (tchars-lower text parts.1)
  where
    lower : (byte : ℕ) → is_tchar byte ≡ true → is_tchar (to_ascii_lowercase byte) ≡ true
    lower byte is = grind (arith, common_steps)

token-lower : (text : List ℕ) → IsTrue (is_token text) → IsTrue (is_token (str_to_ascii_lowercase text))
token-lower text is =
    let parts = and_parts (not (length text == 0)) (list_all is_tchar text) is in
    and_from (not (length (str_to_ascii_lowercase text) == 0)) (list_all is_tchar (str_to_ascii_lowercase text))
    (ap (λ (n : ℕ). not (n == 0)) (length-map text to_ascii_lowercase) ∙ parts.0) (tchars-lower text parts.1)

inserted : (text : List ℕ) (texts : List (List ℕ)) → AreTokens texts → IsTrue (is_token text)
    → AreTokens (insert_key text_cmp texts text)
inserted text [] all here = and_from (is_token text) true here refl
inserted text (other ∷ texts) all here =
    let parts = and_parts (is_token other) (list_all is_token texts) all in
    elim (text_cmp text other) as (λ o. AreTokens
    (match_ordering o (text ∷ other ∷ texts) (other ∷ texts) (other ∷ insert_key text_cmp texts text))) [
      | Less ↦ and_from (is_token text) (list_all is_token (other ∷ texts)) here all
      | Equal ↦ all
      | Greater ↦ and_from (is_token other) _ parts.0 (inserted text texts parts.1 here)
    ]

set-tokens : (names : List (List ℕ)) → AreTokens names → AreTokens (sorted_lowercase_set names)
set-tokens [] all = refl
set-tokens (name ∷ names) all =
    let parts = and_parts (is_token name) (list_all is_token names) all in
    inserted (str_to_ascii_lowercase name) (sorted_lowercase_set names) (set-tokens names parts.1)
    (token-lower name parts.0)

unsafe-named : (too_long : Bool) (headers : List Header) → AreNamed headers
    → AreTokens (map (λ (h : Header). h.name) (unsafe_headers too_long headers))
unsafe-named too_long [] all = refl
unsafe-named too_long (one ∷ more) all =
    by-test (too_long || not (is_safelisted_header one)) (unsafe-named too_long more all.1)
  where
    by-test : (b : Bool) → AreTokens (map (λ (h : Header). h.name) (unsafe_headers too_long more))
        → AreTokens (map (λ (h : Header). h.name)
        (cond b (one ∷ unsafe_headers too_long more) (unsafe_headers too_long more)))
    by-test true rest = and_from (is_token one.name) _ all.0 rest
    by-test false rest = rest

pub unsafe-tokens : (headers : List Header) → AreNamed headers → AreTokens (unsafe_names headers)
unsafe-tokens headers all =
    set-tokens (names_of_unsafe headers) (unsafe-named (nat_lt 1024 (safelisted_size headers)) headers all)

-- one that is found is a token
pub found-token : (test : List ℕ → Bool) (names : List (List ℕ)) → AreTokens names
    → IfSome (find test names) (λ name. IsTrue (is_token name))
found-token test [] all = tt
found-token test (name ∷ names) all =
    let parts = and_parts (is_token name) (list_all is_token names) all in
    cond_both (test name) (Some name) (find test names) (λ o. IfSome o (λ found. IsTrue (is_token found)))
    (λ _. parts.0) (λ _. found-token test names parts.1)

-- ---- what is extracted

-- items that are there are tokens
abbrev pub HasTokens : Extracted → Type 0
HasTokens (Items texts) = AreTokens texts
HasTokens _ = Unit {0}

pub extracted-tokens : (values : List (List ℕ)) → HasTokens (extracted_of Tokens values)
extracted-tokens [] = tt
extracted-tokens (value ∷ values) =
    let texts = flat_map items (value ∷ values) in
    cond_both (list_all is_token texts) (Items texts) Failure HasTokens (λ are. are) (λ _. tt)
