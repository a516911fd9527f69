-- Equal names keep one spelling, and what callers can do with such a list.
use Rattle.std.proofs.Common.{arith, ◌≡◌, ◌<◌, ◌++◌, ◌∷◌, [], ℕ, List, length, get_or, zero, suc, Bool, true, false}
use Rattle.std.proofs.Common.{cond}
use Rattle.std.proofs.Common.{refl, sym, ◌∙◌, ap, subst, filter, All, IsTrue, append_assoc, append-nil, length-append}
use Rattle.std.proofs.Common.{not, true≢false}
use Rattle.std.specs.Str.{str_eq_ignore_ascii_case, str_to_ascii_lowercase}
use Rattle.std.proofs.lemmas.Grind.{common_steps}
use Rattle.std.proofs.lemmas.Slice.Eq.{bytes_eq-Decides}
use Rattle.std.proofs.lemmas.List.Elements.{All-cons, All-filter, All-nil}
use Rattle.std.proofs.lemmas.List.{get_or_append_left}
use Rattle.std.proofs.lemmas.List.Kept.{AllPairs-cons, AllPairs-filter}
use Rattle.std.proofs.lemmas.List.Quantifiers.{all_pairs_push}
use Rattle.std.proofs.Math.Seq.{get_or-append_seam}
use Rattle.value_headers.specs.Headers.{all_appended, appended, is_named, spelling, with_only, without}
use Rattle.value_headers.specs.Spelling.{HaveOneSpelling, SpellAlike}
use Rattle.value_headers.specs.declared.headers.Header.{Header}

-- names that are equal, case aside, are equal in lower case, and the other way round
lower-same : (a b : List ℕ) → str_eq_ignore_ascii_case a b ≡ true → str_to_ascii_lowercase a ≡ str_to_ascii_lowercase b
lower-same a b e = (bytes_eq-Decides (str_to_ascii_lowercase a) (str_to_ascii_lowercase b)).0 e

same-lower : (a b : List ℕ) → str_to_ascii_lowercase a ≡ str_to_ascii_lowercase b → str_eq_ignore_ascii_case a b ≡ true
same-lower a b e = (bytes_eq-Decides (str_to_ascii_lowercase a) (str_to_ascii_lowercase b)).1 e

pub fold-sym : (a b : List ℕ) → str_eq_ignore_ascii_case a b ≡ true → str_eq_ignore_ascii_case b a ≡ true
fold-sym a b e = same-lower b a (sym (lower-same a b e))

pub fold-trans : (a b c : List ℕ) → str_eq_ignore_ascii_case a b ≡ true → str_eq_ignore_ascii_case b c ≡ true
    → str_eq_ignore_ascii_case a c ≡ true
fold-trans a b c e f = same-lower a c (lower-same a b e ∙ lower-same b c f)

-- the headers after the first one
later : (header : Header) (headers : List Header) → HaveOneSpelling (header ∷ headers) → HaveOneSpelling headers
later header headers one i j d lt inside = one (suc i) (suc j) d (omega (arith, lt)) (omega (arith, inside))

-- the headers of a list spell alike with one more header
abbrev pub AlikeWith : List Header → Header → Type 0
AlikeWith headers header = All (λ one. SpellAlike one header) headers

-- a name that the list does not spell yet, and one that it spells
pub spelling-folds : (name : List ℕ) (headers : List Header)
    → str_eq_ignore_ascii_case (spelling name headers) name ≡ true
spelling-folds name [] = same-lower name name refl
spelling-folds name (header ∷ headers) = grind (arith, common_steps, spelling-folds name headers)

-- a new header is spelled as the first of its name
alike-first : (b : Bool) (name value spelled : List ℕ) (header : Header) → is_named name header ≡ b
    → str_eq_ignore_ascii_case spelled name ≡ true
    → SpellAlike header (record { name = cond b header.name spelled; value = value })
alike-first true name value spelled header e folds same = refl
alike-first false name value spelled header e folds same =
    absurd
    (true≢false
    (sym (fold-sym name header.name (fold-trans name spelled header.name (fold-sym spelled name folds) same)) ∙ e))

-- and so as all of its name
alike-later : (b : Bool) (name value spelled : List ℕ) (header other : Header) → SpellAlike header other
    → SpellAlike other (record { name = spelled; value = value })
    → SpellAlike other (record { name = cond b header.name spelled; value = value })
alike-later true name value spelled header other alike left same = sym (alike (fold-sym header.name other.name same))
alike-later false name value spelled header other alike left same = left same

pub appended-alike : (name value : List ℕ) (headers : List Header) → HaveOneSpelling headers
    → AlikeWith headers (record { name = spelling name headers; value = value })
appended-alike name value [] one k d lt = absurd (omega (arith, lt))
appended-alike name value (header ∷ headers) one zero d lt =
    alike-first (is_named name header) name value (spelling name headers) header refl (spelling-folds name headers)
appended-alike name value (header ∷ headers) one (suc k) d lt =
    alike-later (is_named name header) name value (spelling name headers) header (get_or headers k d)
    (one 0 (suc k) d (omega arith) lt)
    (appended-alike name value headers (later header headers one) k d (omega (arith, lt)))

-- a list keeps one spelling by "append", "delete" and "set"
pub one_spelling-appended : (name value : List ℕ) (headers : List Header) → HaveOneSpelling headers
    → HaveOneSpelling (appended name value headers)
one_spelling-appended name value headers one =
    all_pairs_push SpellAlike headers _ one (appended-alike name value headers one)

pub one_spelling-filter : (keeps : Header → Bool) (headers : List Header) → HaveOneSpelling headers
    → HaveOneSpelling (filter keeps headers)
one_spelling-filter keeps headers one = AllPairs-filter SpellAlike keeps headers one

-- the two ways of "set", at a later header
All-with_only-pick : (b : Bool) (header : Header) (name value : List ℕ) (other : Header) (headers : List Header)
    → SpellAlike header other → All (SpellAlike header) headers
    → All (SpellAlike header) (with_only name value headers)
    → All (SpellAlike header)
    (cond b (record { name = other.name; value = value } ∷ without name headers) (other ∷ with_only name value headers))
All-with_only-pick true header name value other headers here all left =
    All-cons (SpellAlike header) (record { name = other.name; value = value }) (without name headers) here
    (All-filter (λ one. not (is_named name one)) (SpellAlike header) headers all)
All-with_only-pick false header name value other headers here all left =
    All-cons (SpellAlike header) other (with_only name value headers) here left

-- what one header and those of its name spell, after "set" of another name
All-with_only : (header : Header) (name value : List ℕ) (headers : List Header) → is_named name header ≡ false
    → All (SpellAlike header) headers → All (SpellAlike header) (with_only name value headers)
All-with_only header name value [] e all =
    All-cons (SpellAlike header) (record { name = name; value = value }) []
    (λ same. absurd (true≢false (sym (fold-sym name header.name same) ∙ e))) (All-nil (SpellAlike header))
All-with_only header name value (other ∷ headers) e all =
    All-with_only-pick (is_named name other) header name value other headers (all 0 other (omega arith))
    (λ k d lt. all (suc k) d (omega (arith, lt)))
    (All-with_only header name value headers e (λ k d lt. all (suc k) d (omega (arith, lt))))

-- the two ways of "set", at the first header
with_only-pick : (b : Bool) (name value : List ℕ) (header : Header) (headers : List Header) → is_named name header ≡ b
    → All (SpellAlike header) headers → HaveOneSpelling headers → HaveOneSpelling (with_only name value headers)
    → HaveOneSpelling
    (cond b (record { name = header.name; value = value } ∷ without name headers) (header
    ∷ with_only name value headers))
with_only-pick true name value header headers e all one left =
    AllPairs-cons SpellAlike (record { name = header.name; value = value }) (without name headers)
    (All-filter (λ other. not (is_named name other)) (SpellAlike header) headers all)
    (one_spelling-filter (λ other. not (is_named name other)) headers one)
with_only-pick false name value header headers e all one left =
    AllPairs-cons SpellAlike header (with_only name value headers) (All-with_only header name value headers e all) left

pub one_spelling-with_only : (name value : List ℕ) (headers : List Header) → HaveOneSpelling headers
    → HaveOneSpelling (with_only name value headers)
one_spelling-with_only name value [] one = λ i j d lt inside. absurd (omega (arith, lt, inside))
one_spelling-with_only name value (header ∷ headers) one =
    let left = later header headers one in
    with_only-pick (is_named name header) name value header headers refl
    (λ k d lt. one 0 (suc k) d (omega arith) (omega (arith, lt))) left (one_spelling-with_only name value headers left)

-- the two ways of a spelling, at the first header
spelling-pick : (b : Bool) (name : List ℕ) (header : Header) (before : List Header) → is_named name header ≡ b
    → (IsTrue (is_named name header) → header.name ≡ name) → spelling name before ≡ name
    → cond b header.name (spelling name before) ≡ name
spelling-pick true name header before e same left = same e
spelling-pick false name header before e same left = left

-- a list whose headers all spell a name in one way gives the name that spelling
spelling-there : (name : List ℕ) (before : List Header)
    → ((k : ℕ) (d : Header) → k < length before → IsTrue (is_named name (get_or before k d))
    → (get_or before k d).name ≡ name)
    → spelling name before ≡ name
spelling-there name [] same = refl
spelling-there name (header ∷ before) same =
    spelling-pick (is_named name header) name header before refl (same 0 header (omega arith))
    (spelling-there name before (λ k d lt. same (suc k) d (omega (arith, lt))))

-- those before a header spell its name alike
before-alike : (before : List Header) (header : Header) (headers : List Header)
    → HaveOneSpelling (before ++ header ∷ headers) → (k : ℕ) (d : Header) → k < length before
    → IsTrue (is_named header.name (get_or before k d)) → (get_or before k d).name ≡ header.name
before-alike before header headers one k d lt same =
    let all = before ++ header ∷ headers in
    let here : get_or all k d ≡ get_or before k d = get_or_append_left before (header ∷ headers) d k lt in
    let there : get_or all (length before) d ≡ header = get_or-append_seam before header headers d in
    let inside : length before < length all = omega (arith, length-append before (header ∷ headers)) in
    let alike : SpellAlike (get_or before k d) header =
    subst (λ (other : Header). SpellAlike (get_or before k d) other) there
    (subst (λ (other : Header). SpellAlike other (get_or all (length before) d)) here
    (one k (length before) d lt inside)) in
    sym (alike (fold-sym (get_or before k d).name header.name same))

-- the headers of a list with one spelling, appended one by one, are the list
pub all_appended-one_spelling : (before headers : List Header) → HaveOneSpelling (before ++ headers)
    → all_appended headers before ≡ before ++ headers
all_appended-one_spelling before [] one = sym (append-nil before)
all_appended-one_spelling before (header ∷ headers) one =
    let there = spelling-there header.name before (before-alike before header headers one) in
    let added : appended header.name header.value before ≡ before ++ header ∷ [] =
    ap (λ (name : List ℕ). before ++ record { name = name; value = header.value } ∷ []) there in
    let whole : (before ++ header ∷ []) ++ headers ≡ before ++ header ∷ headers =
    append_assoc before (header ∷ []) headers in
    ap (all_appended headers) added
    ∙ all_appended-one_spelling (before ++ header ∷ []) headers (subst HaveOneSpelling (sym whole) one) ∙ whole
