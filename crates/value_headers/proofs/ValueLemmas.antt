-- The values of a name: of a list that headers were appended to, and of one that has not the name.
use Rattle.std.proofs.Common.{◌≡◌, ◌++◌, ◌∷◌, [], ℕ, Bool, true, false, cond, List, filter, map, refl, ap, sym, ◌∙◌}
use Rattle.std.proofs.Common.{append_assoc, append-nil, arith}
use Rattle.std.proofs.lemmas.Grind.{common_steps}
use Rattle.std.specs.Str.{str_eq_ignore_ascii_case}
use Rattle.value_lemmas.proofs.Bytes.{eq_ignore_case-alike}
use Rattle.value_headers.specs.Headers.{all_appended, appended, contains, is_named, spelling, values_of}
use Rattle.value_headers.specs.declared.headers.Header.{Header}
use Rattle.value_headers.proofs.SpellingLemmas.{spelling-folds}

-- the header has the name, or has not
by-name : (b : Bool) (header : Header) (texts : List (List ℕ)) (rest : List Header)
    → map (λ h. h.value) rest ≡ texts
    → map (λ h. h.value) (cond b (header ∷ rest) rest) ≡ map (λ h. h.value) (cond b (header ∷ []) []) ++ texts
by-name true header texts rest is = ap (λ ts. header.value ∷ ts) is
by-name false header texts rest is = is

-- the values of a header and of those behind it
pub values-cons : (name : List ℕ) (header : Header) (headers : List Header)
    → values_of name (header ∷ headers) ≡ values_of name (header ∷ []) ++ values_of name headers
values-cons name header headers =
    by-name (is_named name header) header (values_of name headers) (filter (is_named name) headers) refl

-- the values of two lists
values-both : (name : List ℕ) (headers more : List Header)
    → values_of name (headers ++ more) ≡ values_of name headers ++ values_of name more
values-both name [] more = refl
values-both name (header ∷ headers) more =
    values-cons name header (headers ++ more)
    ∙ ap (λ ts. values_of name (header ∷ []) ++ ts) (values-both name headers more)
    ∙ sym (append_assoc (values_of name (header ∷ [])) (values_of name headers) (values_of name more))
    ∙ ap (λ ts. ts ++ values_of name more) (sym (values-cons name header headers))

-- how the name is spelled makes no difference
spelled-by : (b : Bool) (one other : Header) → one.value ≡ other.value
    → map (λ h. h.value) (cond b (one ∷ []) []) ≡ map (λ h. h.value) (cond b (other ∷ []) [])
spelled-by true one other same = ap (λ v. v ∷ []) same
spelled-by false one other same = refl

values-spelled : (name text value : List ℕ) (headers : List Header)
    → values_of name (record { name = spelling text headers; value = value } ∷ [])
    ≡ values_of name (record { name = text; value = value } ∷ [])
values-spelled name text value headers =
    let one : Header = record { name = spelling text headers; value = value } in
    let other : Header = record { name = text; value = value } in
    spelled-by (str_eq_ignore_ascii_case (spelling text headers) name) one other refl
    ∙ ap (λ (b : Bool). map (λ (h : Header). h.value) (cond b (other ∷ []) []))
    (eq_ignore_case-alike (spelling text headers) text name (spelling-folds text headers))

-- a header more
pub values-appended : (name text value : List ℕ) (headers : List Header)
    → values_of name (appended text value headers)
    ≡ values_of name headers ++ values_of name (record { name = text; value = value } ∷ [])
values-appended name text value headers =
    values-both name headers (record { name = spelling text headers; value = value } ∷ [])
    ∙ ap (λ ts. values_of name headers ++ ts) (values-spelled name text value headers)

-- many more
pub values-all_appended : (name : List ℕ) (more headers : List Header)
    → values_of name (all_appended more headers) ≡ values_of name headers ++ values_of name more
values-all_appended name [] headers = sym (append-nil (values_of name headers))
values-all_appended name (one ∷ more) headers =
    values-all_appended name more (appended one.name one.value headers)
    ∙ ap (λ ts. ts ++ values_of name more) (values-appended name one.name one.value headers)
    ∙ append_assoc (values_of name headers) (values_of name (one ∷ [])) (values_of name more)
    ∙ ap (λ ts. values_of name headers ++ ts) (sym (values-cons name one more))

-- a name that is not there has no values
pub no-values : (name : List ℕ) (headers : List Header) → contains name headers ≡ false → values_of name headers ≡ []
no-values name [] none = refl
no-values name (header ∷ headers) none = grind (arith, common_steps, no-values name headers)
