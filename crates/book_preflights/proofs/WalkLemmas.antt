-- Entries in order: which may stand last.
use Rattle.std.proofs.Common.{◌≡◌, ◌<◌, ◌≤◌, not, ℕ, zero, suc, Bool, true, false, cond, List, [], ◌∷◌, ◌++◌}
use Rattle.std.proofs.Common.{length, filter, map, arith, refl, ap, sym, subst, ◌∙◌, Some, length-append}
use Rattle.std.proofs.Common.{Option, None, IfSome, IfNone}
use Rattle.std.proofs.Common.{◌-◌, ◌==◌}
use Rattle.std.proofs.Common.{if◌then◌else◌}
use mathlib.Core.Bool.{and-false}
use Rattle.std.proofs.lemmas.Bool.{and_from, and_parts, lt-ltb, ltb-true}
use Rattle.std.proofs.lemmas.List.Elements.{recursion_from_All}
use Rattle.std.specs.Cmp.Lexicographic.{bytes_decides, nat_list_cmp_total, slice_cmp}
use Rattle.std.specs.List.{All, AllByRecursion, list_all, slice_get}
use Rattle.std.specs.Map.{keys_of, lookup, set_value}
use Rattle.std.proofs.lemmas.Map.Steps.{set_value_same}
use Rattle.std.specs.Ordering.{is_le, is_lt, nat_cmp, ordering_reverse}
use Rattle.std.specs.Prelude.{nat_lt}
use Rattle.std.specs.Str.{bytes_eq}
use Rattle.std.specs.declared.cmp.Ordering.{Ordering}
use Rattle.std.specs.declared.cmp.Ordering.TheVariants.{Less, Equal, Greater}
use Rattle.book_preflights.specs.declared.entry.CacheEntry.{CacheEntry}
use Rattle.book_preflights.specs.Keys.{AreSorted, ExtendsExactly, IsCache, Keyed, before, behind, entries_of, extended}
use Rattle.book_preflights.specs.Keys.{keyed, may_stand_last, stands_before, with_entries}
use Rattle.book_preflights.specs.Private.Partitions.{listed}
use Rattle.book_preflights.proofs.CacheLaws.{either, with-sorted}
use Rattle.book_preflights.proofs.ListLemmas.{empty}
use Rattle.book_preflights.proofs.KeyLaws.{entries_of-with}
use Rattle.book_preflights.proofs.KeyLemmas.{equal-keys, high-by, low-by, same-by}

-- ---- no key comes after one where the last does not

abbrev pub is_not_after : List ℕ → Keyed → Bool
is_not_after key k = not (stands_before key k.key)

-- a is not after b, which is not before c: c is not after a... then a does not come before c
through : (last key other : List ℕ) (o p : Ordering) → slice_cmp nat_cmp last key ≡ o → slice_cmp nat_cmp key other ≡ p
    → is_le o ≡ true → is_lt (slice_cmp nat_cmp last other) ≡ false → is_lt p ≡ false
through last key other o Equal e f le none = refl
through last key other o Greater e f le none = refl
through last key other Less Less e f le none =
    let later : is_lt (slice_cmp nat_cmp last other) ≡ true = ap is_lt (nat_list_cmp_total.trans last key other e f) in
    absurd (cc)
through last key other Equal Less e f le none =
    let later : is_lt (slice_cmp nat_cmp last other) ≡ true =
    ap is_lt (nat_list_cmp_total.congr last key other e ∙ f) in
    absurd (cc)
through last key other Greater Less e f le none = absurd (cc)

module _ {K : Type 0} (bytes : K → List ℕ) where
  own-none : (key other : List ℕ) (entries : List CacheEntry) → stands_before key other ≡ false
      → list_all (is_not_after key) (map (keyed other) entries) ≡ true
  own-none key other [] none = refl
  own-none key other (e ∷ es) none = rw none (own-none key other es none)

  all-append : (test : Keyed → Bool) (xs ys : List Keyed) → list_all test xs ≡ true → list_all test ys ≡ true
      → list_all test (xs ++ ys) ≡ true
  all-append test [] ys e f = f
  all-append test (x ∷ xs) ys e f =
      rw (and_parts (test x) (list_all test xs) e).0
      (all-append test xs ys (and_parts (test x) (list_all test xs) e).1 f)

  none-at-all : (last key : List ℕ) (ps : List (K × List CacheEntry))
      → AllByRecursion (λ q. is_lt (slice_cmp nat_cmp last (bytes q)) ≡ false) (keys_of ps)
      → is_le (slice_cmp nat_cmp last key) ≡ true → list_all (is_not_after key) (listed bytes ps) ≡ true
  none-at-all last key [] all le = refl
  none-at-all last key (p ∷ ps) all le =
      all-append (is_not_after key) (map (keyed (bytes p.0)) p.1) (listed bytes ps)
      (own-none key (bytes p.0) p.1 (through last key (bytes p.0) _ _ refl refl le all.0))
      (none-at-all last key ps all.1 le)

  any-append : (test : Keyed → Bool) (xs ys : List Keyed) → list_all test ys ≡ false → list_all test (xs ++ ys) ≡ false
  any-append test [] ys e = e
  any-append test (x ∷ xs) ys e = rw (any-append test xs ys e) (and-false (test x))

  first-fails : (key other : List ℕ) (entries : List CacheEntry) (rest : List Keyed) → 0 < length entries
      → stands_before key other ≡ true → list_all (is_not_after key) (map (keyed other) entries ++ rest) ≡ false
  first-fails key other [] rest some after = absurd (omega (arith, some))
  first-fails key other (e ∷ es) rest some after = rw after refl

  one-after : (key : List ℕ) (k : K) (entries : List CacheEntry) (ps : List (K × List CacheEntry)) (at : ℕ)
      → slice_get ps at ≡ Some (k, entries) → 0 < length entries → stands_before key (bytes k) ≡ true
      → list_all (is_not_after key) (listed bytes ps) ≡ false
  one-after key k entries [] at is some after = absurd (cc)
  one-after key k entries (p ∷ ps) zero is some after =
      let here : p ≡ (k, entries) = cc in
      subst (λ (q : K × List CacheEntry). list_all (is_not_after key) (listed bytes (q ∷ ps)) ≡ false) (sym here)
      (first-fails key (bytes k) entries (listed bytes ps) some after)
  one-after key k entries (p ∷ ps) (suc at) is some after =
      any-append (is_not_after key) (map (keyed (bytes p.0)) p.1) (listed bytes ps)
      (one-after key k entries ps at is some after)

  decided : (key : List ℕ) (k : K) (entries : List CacheEntry) (ps : List (K × List CacheEntry)) (at : ℕ) (o : Ordering)
      → slice_cmp nat_cmp (bytes k) key ≡ o → slice_get ps at ≡ Some (k, entries) → 0 < length entries
      → AllByRecursion (λ q. is_lt (slice_cmp nat_cmp (bytes k) (bytes q)) ≡ false) (keys_of ps)
      → is_le o ≡ list_all (is_not_after key) (listed bytes ps)
  decided key k entries ps at Less same is some all = sym (none-at-all (bytes k) key ps all (ap is_le same))
  decided key k entries ps at Equal same is some all = sym (none-at-all (bytes k) key ps all (ap is_le same))
  decided key k entries ps at Greater same is some all =
      let after : stands_before key (bytes k) ≡ true =
      ap is_lt (nat_list_cmp_total.antisymm key (bytes k) ∙ ap ordering_reverse same) in
      sym (one-after key k entries ps at is some after)

  -- no key comes after one exactly where the last that has entries does not
  pub last-decides : (key : List ℕ) (k : K) (entries : List CacheEntry) (ps : List (K × List CacheEntry)) (at : ℕ)
      → slice_get ps at ≡ Some (k, entries) → 0 < length entries
      → All (λ q. is_lt (slice_cmp nat_cmp (bytes k) (bytes q)) ≡ false) (keys_of ps)
      → is_le (slice_cmp nat_cmp (bytes k) key) ≡ list_all (is_not_after key) (listed bytes ps)
  last-decides key k entries ps at is some all =
      decided key k entries ps at _ refl is some (recursion_from_All _ (keys_of ps) all)

  -- a key without entries at the end shows nothing
  pub empty-last : (k : K) (ps : List (K × List CacheEntry)) → listed bytes (ps ++ (k, []) ∷ []) ≡ listed bytes ps
  empty-last k [] = refl
  empty-last k (p ∷ ps) = ap (λ ks. map (keyed (bytes p.0)) p.1 ++ ks) (empty-last k ps)

-- what is not empty
pub filled : {X : Type 0} (xs ys : List X) → ys ≡ xs → false ≡ (length ys == 0) → 0 < length xs
filled [] ys is some =
    let none : false ≡ true = subst (λ (l : List _). false ≡ (length l == 0)) is some in absurd (cc)
filled (x ∷ xs) ys is some = omega arith

at-end : {X : Type 0} (xs : List X) (x : X) → slice_get (xs ++ x ∷ []) (length xs) ≡ Some x
at-end [] x = refl
at-end (y ∷ xs) x = at-end xs x

-- the last, which has no entries, goes
pub popped : {K : Type 0} (bytes : K → List ℕ) (old new : List (K × List CacheEntry))
    (result : Option (K × List CacheEntry)) (last : K) (partition entries : List CacheEntry)
    → slice_get old (length old - 1) ≡ Some (last, partition) → entries ≡ partition → true ≡ (length entries == 0)
    → IfSome result (λ p. old ≡ new ++ p ∷ []) → IfNone result (new ≡ old) → listed bytes new ≡ listed bytes old
popped bytes old new None last partition entries is same none gone kept = ap (listed bytes) kept
popped bytes old new (Some p) last partition entries is same none gone kept =
    let at : length old - 1 ≡ length new =
    omega (arith, ap length gone, length-append new (p ∷ [])) in
    let found : Some p ≡ Some (last, partition) =
    sym (at-end new p) ∙ (λ i. slice_get (sym gone i) (sym at i)) ∙ is in
    let nothing : p.1 ≡ [] = ap (λ q. q.1) (last-is p (last, partition) found) ∙ empty partition entries same none in
    sym (ap (listed bytes) gone ∙ ap (λ (es : List CacheEntry). listed bytes (new ++ (p.0, es) ∷ [])) nothing
    ∙ empty-last bytes p.0 new)
  where
    last-is : {X : Type 0} (a b : X) → Some a ≡ Some b → a ≡ b
    last-is a b e = cc

-- a value that is found and put back as it was changes nothing
pub unchanged : {K X : Type 0} (test : K → Bool) (ps new : List (K × X)) (old after : X)
    → new ≡ set_value test ps after → after ≡ old → lookup test ps ≡ Some old → new ≡ ps
unchanged test ps new old after is same there = is ∙ ap (set_value test ps) same ∙ set_value_same test ps old there

-- ---- an entry behind all

module _ (new : Keyed) where
  none-before : (key : List ℕ) (ks : List Keyed) → AllByRecursion (λ other. stands_before other.key key ≡ false) ks
      → before key ks ≡ []
  none-before key [] all = refl
  none-before key (k ∷ ks) all = rw all.0 (none-before key ks all.1)

  abbrev later : List Keyed → List Keyed
  later ks = map (keyed new.key) (entries_of new.key ks ++ new.entry ∷ []) ++ behind new.key ks

  -- the list with the entry, by how its key compares with the first
  abbrev shape : Keyed → List Keyed → Bool → Bool → Bool → List Keyed
  shape k ks low same high =
      cond low (k ∷ before new.key ks) (before new.key ks)
      ++ (map (keyed new.key) (map (λ k. k.entry) (cond same (k ∷ filter (λ k. bytes_eq k.key new.key) ks)
      (filter (λ k. bytes_eq k.key new.key) ks)) ++ new.entry ∷ [])
      ++ cond high (k ∷ behind new.key ks) (behind new.key ks))

  with-last-by : (k : Keyed) (ks : List Keyed) (o : Ordering) → slice_cmp nat_cmp new.key k.key ≡ o
      → AreSorted (k ∷ ks) → list_all (is_not_after new.key) (k ∷ ks) ≡ true
      → with_entries new.key (entries_of new.key ks ++ new.entry ∷ []) ks ≡ ks ++ new ∷ []
      → with_entries new.key (entries_of new.key (k ∷ ks) ++ new.entry ∷ []) (k ∷ ks) ≡ k ∷ (ks ++ new ∷ [])
  with-last-by k ks Less is sorted none rest =
      let after : stands_before new.key k.key ≡ true = high-by new.key k.key Less is in
      let not_after : not (stands_before new.key k.key) ≡ true =
      (and_parts (is_not_after new.key k) (list_all (is_not_after new.key) ks) none).0 in
      absurd (cc (ap not after))
  with-last-by k ks Equal is sorted none rest =
      let same : k.key ≡ new.key = equal-keys new.key k.key is in
      let front : before new.key ks ≡ [] =
      none-before new.key ks (subst (λ text. AllByRecursion (λ (other : Keyed). stands_before other.key text ≡ false) ks)
      same sorted.0) in
      (λ i. shape k ks (low-by new.key k.key Equal is i) (same-by new.key k.key Equal is i)
      (high-by new.key k.key Equal is i))
      ∙ (ap (λ (l : List Keyed). l ++ (keyed new.key k.entry ∷ later ks)) front
      ∙ ((λ i. keyed (sym same i) k.entry ∷ later ks)
      ∙ ap (λ (l : List Keyed). k ∷ l) (sym (ap (λ (l : List Keyed). l ++ later ks) front) ∙ rest)))
  with-last-by k ks Greater is sorted none rest =
      (λ i. shape k ks (low-by new.key k.key Greater is i) (same-by new.key k.key Greater is i)
      (high-by new.key k.key Greater is i))
      ∙ ap (λ (l : List Keyed). k ∷ l) rest

  pub with-last : (cache : List Keyed) → AreSorted cache → list_all (is_not_after new.key) cache ≡ true
      → with_entries new.key (entries_of new.key cache ++ new.entry ∷ []) cache ≡ cache ++ new ∷ []
  with-last [] sorted none = refl
  with-last (k ∷ ks) sorted none =
      with-last-by k ks (slice_cmp nat_cmp new.key k.key) refl sorted none
      (with-last ks sorted.1 (and_parts (is_not_after new.key k) (list_all (is_not_after new.key) ks) none).1)

  -- ---- and what the list is then

  own-by : (k : Keyed) (ks : List Keyed) (b : Bool)
      → entries_of new.key (ks ++ new ∷ []) ≡ entries_of new.key ks ++ new.entry ∷ []
      → map (λ k. k.entry) (cond b (k ∷ filter (λ k. bytes_eq k.key new.key) (ks ++ new ∷ []))
      (filter (λ k. bytes_eq k.key new.key) (ks ++ new ∷ [])))
      ≡ map (λ k. k.entry) (cond b (k ∷ filter (λ k. bytes_eq k.key new.key) ks)
      (filter (λ k. bytes_eq k.key new.key) ks)) ++ new.entry ∷ []
  own-by k ks true rest = ap (λ (l : List CacheEntry). k.entry ∷ l) rest
  own-by k ks false rest = rest

  own-more : (cache : List Keyed) → entries_of new.key (cache ++ new ∷ []) ≡ entries_of new.key cache ++ new.entry ∷ []
  own-more [] =
      let none : List Keyed = [] in
      ap (λ (b : Bool). map (λ (k : Keyed). k.entry) (cond b (new ∷ none) none)) ((bytes_decides new.key new.key).1 refl)
  own-more (k ∷ ks) = own-by k ks (bytes_eq k.key new.key) (own-more ks)

  abbrev with-more : List Keyed → List CacheEntry
  with-more cache = entries_of new.key cache ++ new.entry ∷ []

  more-few : (cache : List Keyed) → length (entries_of new.key cache) < 64 → length (with-more cache) ≤ 64
  more-few cache room = omega (arith, room, length-append (entries_of new.key cache) (new.entry ∷ []))

  room-there : (cache : List Keyed) → may_stand_last new cache ≡ true → length (entries_of new.key cache) < 64
  room-there cache may = ltb-true (length (entries_of new.key cache)) 64
      (and_parts (nat_lt (length (entries_of new.key cache)) 64) (list_all (is_not_after new.key) cache) may).0

  pub stands-last : (cache : List Keyed) → AreSorted cache → may_stand_last new cache ≡ true
      → with_entries new.key (with-more cache) cache ≡ cache ++ new ∷ []
  stands-last cache sorted may = with-last cache sorted
      (and_parts (nat_lt (length (entries_of new.key cache)) 64) (list_all (is_not_after new.key) cache) may).1

  with-bounded : (cache : List Keyed) → IsCache cache → length (entries_of new.key cache) < 64 → (other : List ℕ)
      → length (entries_of other (with_entries new.key (with-more cache) cache)) ≤ 64
  with-bounded cache is room other =
      let is_with = entries_of-with other cache new.key (with-more cache) in
      rw is_with (either (bytes_eq new.key other) (with-more cache) (entries_of other cache) (more-few cache room)
      (is.bounded other))

  cache-more : (cache : List Keyed) → IsCache cache → may_stand_last new cache ≡ true → IsCache (cache ++ new ∷ [])
  cache-more cache is may = subst IsCache (stands-last cache is.sorted may) (record {
    sorted = with-sorted new.key (with-more cache) cache is.sorted;
    bounded = with-bounded cache is (room-there cache may);
  })

  back-none : (cache : List Keyed) → AreSorted (cache ++ new ∷ []) → list_all (is_not_after new.key) cache ≡ true
  back-none [] sorted = refl
  back-none (k ∷ ks) sorted = rw (found ks sorted.0) (back-none ks sorted.1)
    where
      found : (others : List Keyed)
          → AllByRecursion (λ other. stands_before other.key k.key ≡ false) (others ++ new ∷ [])
          → stands_before new.key k.key ≡ false
      found [] all = all.0
      found (other ∷ others) all = found others all.1

  cache-back : (cache : List Keyed) → IsCache (cache ++ new ∷ []) → may_stand_last new cache ≡ true
  cache-back cache is =
      let most : length (entries_of new.key (cache ++ new ∷ [])) ≤ 64 = is.bounded new.key in
      let most_with : length (with-more cache) ≤ 64 = subst (λ (l : List CacheEntry). length l ≤ 64) (own-more cache) most in
      and_from (nat_lt (length (entries_of new.key cache)) 64) (list_all (is_not_after new.key) cache)
      (lt-ltb (length (entries_of new.key cache)) 64
      (omega (arith, most_with, length-append (entries_of new.key cache) (new.entry ∷ []))))
      (back-none cache is.sorted)

  -- ---- what a list becomes

  by-may : (b : Bool) (cache : List Keyed) → IsCache cache → (b ≡ true → IsCache (cache ++ new ∷ []))
      → IsCache (if b then cache ++ new ∷ [] else cache)
  by-may true cache is more = more refl
  by-may false cache is more = is

  pub extended-cache : (cache : List Keyed) → IsCache cache → IsCache (extended new cache)
  extended-cache cache is = by-may (may_stand_last new cache) cache is (cache-more cache is)

  pub extended-last : (cache : List Keyed) → AreSorted cache → true ≡ may_stand_last new cache
      → with_entries new.key (with-more cache) cache ≡ extended new cache
  extended-last cache sorted stands =
      stands-last cache sorted (sym stands)
      ∙ ap (λ (b : Bool). if b then cache ++ new ∷ [] else cache) stands

pub extends-exactly : ExtendsExactly
extends-exactly new cache is = (cache-more new cache is, cache-back new cache)
