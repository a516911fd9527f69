-- Two ops are one exactly where their parts are.
use Rattle.std.proofs.Common.{◌≡◌, ℕ, Bool, true, false, List, [], ◌∷◌, length, suc, refl, ap, sym, ◌∙◌, Option, Some}
use Rattle.std.proofs.Common.{None, ◌+◌, drop, slice_get}
use Rattle.std.proofs.lemmas.Bool.{and_from, and_parts, eqb-true}
use Rattle.std.specs.Prelude.{◌==◌, ◌&&◌, bytes_eq, not}
use Rattle.value_lemmas.proofs.Lists.{drop-slice_get}
use Rattle.value_lemmas.proofs.Tests.{eqb-self}
use Rattle.value_lemmas.proofs.Bytes.{bytes_eq-self, bytes_eq-true}
use Rattle.book_calls.specs.declared.op.Op.{Op}
use Rattle.book_calls.specs.declared.op.Op.TheVariants.{Match, Note, Covers, Learn, Clear}
use Rattle.book_hosts.specs.declared.sts.Sts.{Sts}
use Rattle.book_preflights.specs.declared.question.Lesson.{Lesson}
use Rattle.book_preflights.specs.declared.question.Question.{Question}
use Rattle.audit_replay.specs.Private.Ops.{bool_eq, lesson_eq, method_eq, op_eq, question_eq, sts_eq, texts_eq}

bool-same : (a b : Bool) → bool_eq a b ≡ true → a ≡ b
bool-same true true e = refl
bool-same false false e = refl
bool-same true false e = cc
bool-same false true e = cc

bool-itself : (a : Bool) → bool_eq a a ≡ true
bool-itself true = refl
bool-itself false = refl

texts-same : (a b : List (List ℕ)) → texts_eq a b ≡ true → a ≡ b
texts-same [] [] e = refl
texts-same [] (y ∷ b) e = cc
texts-same (x ∷ a) [] e = cc
texts-same (x ∷ a) (y ∷ b) e =
    let one = bytes_eq-true x y (and_parts (bytes_eq x y) (texts_eq a b) e).0 in
    let more = texts-same a b (and_parts (bytes_eq x y) (texts_eq a b) e).1 in cc (one, more)

texts-itself : (a : List (List ℕ)) → texts_eq a a ≡ true
texts-itself [] = refl
texts-itself (x ∷ a) = and_from (bytes_eq x x) (texts_eq a a) (bytes_eq-self x) (texts-itself a)

method-same : (a b : Option (List ℕ)) → method_eq a b ≡ true → a ≡ b
method-same None None e = refl
method-same (Some x) (Some y) e = ap Some (bytes_eq-true x y e)
method-same None (Some y) e = cc
method-same (Some x) None e = cc

method-itself : (a : Option (List ℕ)) → method_eq a a ≡ true
method-itself None = refl
method-itself (Some x) = bytes_eq-self x

sts-same : (a b : Sts) → sts_eq a b ≡ true → a ≡ b
sts-same a b e =
    let age = eqb-true a.age b.age (and_parts (a.age == b.age) (bool_eq a.subdomains b.subdomains) e).0 in
    let under = bool-same a.subdomains b.subdomains
    (and_parts (a.age == b.age) (bool_eq a.subdomains b.subdomains) e).1 in
    λ i. record { age = age i; subdomains = under i }

question-same : (a b : Question) → question_eq a b ≡ true → a ≡ b
question-same a b e =
    let key = bytes_eq a.key b.key in
    let origin = bytes_eq a.origin b.origin in
    let url = bytes_eq a.url b.url in
    let include = bool_eq a.include b.include in
    let method = method_eq a.method b.method in
    let names = texts_eq a.names b.names in
    let e5 = (and_parts (key && origin && url && include && method) names e).0 in
    let e4 = (and_parts (key && origin && url && include) method e5).0 in
    let e3 = (and_parts (key && origin && url) include e4).0 in
    let e2 = (and_parts (key && origin) url e3).0 in
    let k = bytes_eq-true a.key b.key (and_parts key origin e2).0 in
    let o = bytes_eq-true a.origin b.origin (and_parts key origin e2).1 in
    let u = bytes_eq-true a.url b.url (and_parts (key && origin) url e3).1 in
    let c = bool-same a.include b.include (and_parts (key && origin && url) include e4).1 in
    let m = method-same a.method b.method (and_parts (key && origin && url && include) method e5).1 in
    let n = texts-same a.names b.names (and_parts (key && origin && url && include && method) names e).1 in
    λ i. record { key = k i; origin = o i; url = u i; include = c i; method = m i; names = n i }

question-itself : (a : Question) → question_eq a a ≡ true
question-itself a =
    let key = bytes_eq a.key a.key in
    let origin = bytes_eq a.origin a.origin in
    let url = bytes_eq a.url a.url in
    let include = bool_eq a.include a.include in
    let method = method_eq a.method a.method in
    and_from (key && origin && url && include && method) (texts_eq a.names a.names)
    (and_from (key && origin && url && include) method
    (and_from (key && origin && url) include
    (and_from (key && origin) url (and_from key origin (bytes_eq-self a.key) (bytes_eq-self a.origin))
    (bytes_eq-self a.url))
    (bool-itself a.include)) (method-itself a.method)) (texts-itself a.names)

lesson-same : (a b : Lesson) → lesson_eq a b ≡ true → a ≡ b
lesson-same a b e =
    let key = bytes_eq a.key b.key in
    let origin = bytes_eq a.origin b.origin in
    let url = bytes_eq a.url b.url in
    let include = bool_eq a.include b.include in
    let age = a.age == b.age in
    let methods = texts_eq a.methods b.methods in
    let names = texts_eq a.names b.names in
    let e6 = (and_parts (key && origin && url && include && age && methods) names e).0 in
    let e5 = (and_parts (key && origin && url && include && age) methods e6).0 in
    let e4 = (and_parts (key && origin && url && include) age e5).0 in
    let e3 = (and_parts (key && origin && url) include e4).0 in
    let e2 = (and_parts (key && origin) url e3).0 in
    let k = bytes_eq-true a.key b.key (and_parts key origin e2).0 in
    let o = bytes_eq-true a.origin b.origin (and_parts key origin e2).1 in
    let u = bytes_eq-true a.url b.url (and_parts (key && origin) url e3).1 in
    let c = bool-same a.include b.include (and_parts (key && origin && url) include e4).1 in
    let g = eqb-true a.age b.age (and_parts (key && origin && url && include) age e5).1 in
    let m = texts-same a.methods b.methods (and_parts (key && origin && url && include && age) methods e6).1 in
    let n = texts-same a.names b.names (and_parts (key && origin && url && include && age && methods) names e).1 in
    λ i. record { key = k i; origin = o i; url = u i; include = c i; age = g i; methods = m i; names = n i }

lesson-itself : (a : Lesson) → lesson_eq a a ≡ true
lesson-itself a =
    let key = bytes_eq a.key a.key in
    let origin = bytes_eq a.origin a.origin in
    let url = bytes_eq a.url a.url in
    let include = bool_eq a.include a.include in
    let age = a.age == a.age in
    let methods = texts_eq a.methods a.methods in
    and_from (key && origin && url && include && age && methods) (texts_eq a.names a.names)
    (and_from (key && origin && url && include && age) methods
    (and_from (key && origin && url && include) age
    (and_from (key && origin && url) include
    (and_from (key && origin) url (and_from key origin (bytes_eq-self a.key) (bytes_eq-self a.origin))
    (bytes_eq-self a.url))
    (bool-itself a.include)) (eqb-self a.age)) (texts-itself a.methods)) (texts-itself a.names)

pub op-same : (a b : Op) → op_eq a b ≡ true → a ≡ b
op-same (Match host now) (Match other then) e =
    let h = bytes_eq-true host other (and_parts (bytes_eq host other) (now == then) e).0 in
    let n = eqb-true now then (and_parts (bytes_eq host other) (now == then) e).1 in cc (h, n)
op-same (Note host sts now) (Note other field then) e =
    let front = (and_parts (bytes_eq host other && sts_eq sts field) (now == then) e).0 in
    let h = bytes_eq-true host other (and_parts (bytes_eq host other) (sts_eq sts field) front).0 in
    let s = sts-same sts field (and_parts (bytes_eq host other) (sts_eq sts field) front).1 in
    let n = eqb-true now then (and_parts (bytes_eq host other && sts_eq sts field) (now == then) e).1 in cc (h, s, n)
op-same (Covers question now) (Covers other then) e =
    let q = question-same question other (and_parts (question_eq question other) (now == then) e).0 in
    let n = eqb-true now then (and_parts (question_eq question other) (now == then) e).1 in cc (q, n)
op-same (Learn lesson now) (Learn other then) e =
    let l = lesson-same lesson other (and_parts (lesson_eq lesson other) (now == then) e).0 in
    let n = eqb-true now then (and_parts (lesson_eq lesson other) (now == then) e).1 in cc (l, n)
op-same (Clear key origin url now) (Clear key' origin' url' then) e =
    let front = (and_parts (bytes_eq key key' && bytes_eq origin origin' && bytes_eq url url') (now == then) e).0 in
    let two = (and_parts (bytes_eq key key' && bytes_eq origin origin') (bytes_eq url url') front).0 in
    let k = bytes_eq-true key key' (and_parts (bytes_eq key key') (bytes_eq origin origin') two).0 in
    let o = bytes_eq-true origin origin' (and_parts (bytes_eq key key') (bytes_eq origin origin') two).1 in
    let u = bytes_eq-true url url' (and_parts (bytes_eq key key' && bytes_eq origin origin')
    (bytes_eq url url') front).1 in
    let n = eqb-true now then (and_parts (bytes_eq key key' && bytes_eq origin origin' && bytes_eq url url')
    (now == then) e).1 in
    cc (k, o, u, n)
op-same a b e = cc

pub op-itself : (a : Op) → op_eq a a ≡ true
op-itself (Match host now) = and_from (bytes_eq host host) (now == now) (bytes_eq-self host) (eqb-self now)
op-itself (Note host sts now) =
    and_from (bytes_eq host host && sts_eq sts sts) (now == now)
    (and_from (bytes_eq host host) (sts_eq sts sts) (bytes_eq-self host)
    (and_from (sts.age == sts.age) (bool_eq sts.subdomains sts.subdomains) (eqb-self sts.age)
    (bool-itself sts.subdomains))) (eqb-self now)
op-itself (Covers question now) =
    and_from (question_eq question question) (now == now) (question-itself question) (eqb-self now)
op-itself (Learn lesson now) =
    and_from (lesson_eq lesson lesson) (now == now) (lesson-itself lesson) (eqb-self now)
op-itself (Clear key origin url now) =
    and_from (bytes_eq key key && bytes_eq origin origin && bytes_eq url url) (now == now)
    (and_from (bytes_eq key key && bytes_eq origin origin) (bytes_eq url url)
    (and_from (bytes_eq key key) (bytes_eq origin origin) (bytes_eq-self key) (bytes_eq-self origin))
    (bytes_eq-self url))
    (eqb-self now)

and-no : (a b : Bool) → false ≡ b → false ≡ (a && b)
and-no true b e = e
and-no false b e = refl

pub lengths-differ : (a b : List (List ℕ)) → (length a ≡ length b → ⊥) → false ≡ texts_eq a b
lengths-differ [] [] ne = absurd (ne refl)
lengths-differ [] (y ∷ b) ne = refl
lengths-differ (x ∷ a) [] ne = refl
lengths-differ (x ∷ a) (y ∷ b) ne =
    and-no (bytes_eq x y) (texts_eq a b) (lengths-differ a b (λ same. ne (ap suc same)))

-- two lists from an index on
texts-from : (a b : List (List ℕ)) (index : ℕ) (x y : List ℕ) → slice_get a index ≡ Some x
    → slice_get b index ≡ Some y
    → texts_eq (drop index a) (drop index b) ≡ (bytes_eq x y && texts_eq (drop (index + 1) a) (drop (index + 1) b))
texts-from a b index x y one other = rw (drop-slice_get a index x one, drop-slice_get b index y other) refl

and-unequal : (a b : Bool) → true ≡ not a → (a && b) ≡ false
and-unequal true b is = cc
and-unequal false b is = refl

and-equal : (a b : Bool) → false ≡ not a → (a && b) ≡ b
and-equal true b is = refl
and-equal false b is = cc

-- lists that are one up to an index differ where their texts there do
pub texts-other : (a b : List (List ℕ)) (index : ℕ) (x y : List ℕ) → slice_get a index ≡ Some x
    → slice_get b index ≡ Some y → texts_eq a b ≡ texts_eq (drop index a) (drop index b) → true ≡ not (bytes_eq x y)
    → false ≡ texts_eq a b
texts-other a b index x y one other so differ =
    sym (so ∙ texts-from a b index x y one other
    ∙ and-unequal (bytes_eq x y) (texts_eq (drop (index + 1) a) (drop (index + 1) b)) differ)

-- and are one up to the next where those are equal
pub texts-so-far : (a b : List (List ℕ)) (index : ℕ) (x y : List ℕ) → slice_get a index ≡ Some x
    → slice_get b index ≡ Some y → texts_eq a b ≡ texts_eq (drop index a) (drop index b) → false ≡ not (bytes_eq x y)
    → texts_eq a b ≡ texts_eq (drop (index + 1) a) (drop (index + 1) b)
texts-so-far a b index x y one other so same =
    so ∙ texts-from a b index x y one other
    ∙ and-equal (bytes_eq x y) (texts_eq (drop (index + 1) a) (drop (index + 1) b)) same

pub op-equal : (a b : Op) (same : Bool) → same ≡ op_eq a b → same ≡ true → a ≡ b
op-equal a b same tells equal = op-same a b (sym tells ∙ equal)

pub op-other : (a b : Op) (same : Bool) → same ≡ op_eq a b → same ≡ false → a ≡ b → ⊥
op-other a b same tells unequal is =
    let both : false ≡ true = sym unequal ∙ tells ∙ ap (op_eq a) (sym is) ∙ op-itself a in cc
