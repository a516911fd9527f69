-- Every cache is sorted by its keys, and bounded for each.
use Rattle.std.proofs.Common.{arith, ◌≡◌, ◌≤◌, ◌-◌, ◌++◌, ◌∷◌, [], ℕ, List, Bool, true, false, cond, not, ◌&&◌}
use Rattle.std.proofs.Common.{length, map, filter, refl, ap, ◌∙◌, Result, Ok, Err, OnOk, OnErr}
use Rattle.std.specs.declared.cmp.Ordering.TheVariants.{Less}
use Rattle.std.specs.Ordering.{is_lt, nat_cmp, ordering_reverse}
use Rattle.std.specs.Cmp.Lexicographic.{slice_cmp, nat_list_cmp_total}
use Rattle.std.specs.List.{AllByRecursion, fold, list_any}
use Rattle.std.specs.Str.{bytes_eq}
use Rattle.std.proofs.lemmas.Cmp.{tied_itself}
use Rattle.std.proofs.lemmas.List.{length-drop, length-map}
use Rattle.std.proofs.lemmas.List.Filters.{length-filter_both}
use Rattle.value_lemmas.proofs.Lists.{AllByRecursion-append}
use Rattle.value_lemmas.proofs.Tests.{is_lt-true}
use Rattle.book_preflights.specs.declared.entry.Allowed.{Allowed}
use Rattle.book_preflights.specs.declared.entry.CacheEntry.{CacheEntry}
use Rattle.book_preflights.specs.declared.question.Lesson.{Lesson}
use Rattle.book_preflights.specs.Cache.{cleared, learned}
use Rattle.book_preflights.specs.Entries.{is_alive, is_of}
use Rattle.book_preflights.specs.Keys.{AreSorted, IsCache, Keyed, before, behind, entries_of, keyed}
use Rattle.book_preflights.specs.Private.Partitions.{listed}
use Rattle.book_preflights.specs.Keys.{stands_before, with_entries}
use Rattle.book_preflights.specs.Laws.{ChangesKeepCaches}
use Rattle.book_preflights.specs.Teaching.{created, is_known, methods_of, names_of, newest, renewed, taught, with_item}
use Rattle.book_preflights.proofs.KeyLaws.{entries_of-cleared, entries_of-learned}

-- ---- the bound
kept-most : {X : Type 0} (test : X → Bool) (xs : List X) → length (filter test xs) ≤ length xs
kept-most test xs = omega (arith, length-filter_both test (λ x. not (test x)) (λ _. refl) xs)

newest-most : (entries : List CacheEntry) → length (newest entries) ≤ 64
newest-most entries = omega (arith, length-drop (length entries - 64) entries)

item-most : (lesson : Lesson) (now : ℕ) (entries : List CacheEntry) (item : Allowed) → length entries ≤ 64
    → length (with_item lesson now entries item) ≤ 64
item-most lesson now entries item most = by (list_any (is_known lesson now item) entries)
  where
    by : (known : Bool)
        → length (cond known (map (renewed lesson now item) entries)
        (newest (entries ++ created lesson now item ∷ []))) ≤ 64
    by true = omega (arith, length-map entries (renewed lesson now item), most)
    by false = newest-most (entries ++ created lesson now item ∷ [])

items-most : (lesson : Lesson) (now : ℕ) (items : List Allowed) (entries : List CacheEntry) → length entries ≤ 64
    → length (fold (with_item lesson now) entries items) ≤ 64
items-most lesson now [] entries most = most
items-most lesson now (item ∷ items) entries most =
    items-most lesson now items (with_item lesson now entries item) (item-most lesson now entries item most)

taught-most : (lesson : Lesson) (now : ℕ) (entries : List CacheEntry) → length entries ≤ 64
    → length (taught lesson now entries) ≤ 64
taught-most lesson now entries most =
    items-most lesson now (methods_of lesson ++ names_of lesson) (filter (is_alive now) entries)
    (omega (arith, kept-most (is_alive now) entries, most))

pub either : (b : Bool) (xs ys : List CacheEntry) → length xs ≤ 64 → length ys ≤ 64 → length (cond b xs ys) ≤ 64
either true xs ys x y = x
either false xs ys x y = y

-- ---- the order
all-passing : {X : Type 0} (P : X → Type 0) (test : X → Bool) → ((x : X) → test x ≡ true → P x) → (xs : List X)
    → AllByRecursion P (filter test xs)
all-passing P test step [] = tt
all-passing P test step (x ∷ xs) = by (test x) refl (all-passing P test step xs)
  where
    by : (b : Bool) → test x ≡ b → AllByRecursion P (filter test xs)
        → AllByRecursion P (cond b (x ∷ filter test xs) (filter test xs))
    by true is rest = (step x is, rest)
    by false is rest = rest

all-kept : {X : Type 0} (P : X → Type 0) (test : X → Bool) (xs : List X) → AllByRecursion P xs
    → AllByRecursion P (filter test xs)
all-kept P test [] all = tt
all-kept P test (x ∷ xs) all = by (test x) (all-kept P test xs all.1)
  where
    by : (b : Bool) → AllByRecursion P (filter test xs)
        → AllByRecursion P (cond b (x ∷ filter test xs) (filter test xs))
    by true rest = (all.0, rest)
    by false rest = rest

sorted-kept : (test : Keyed → Bool) (ks : List Keyed) → AreSorted ks → AreSorted (filter test ks)
sorted-kept test [] sorted = tt
sorted-kept test (k ∷ ks) sorted = by (test k) (sorted-kept test ks sorted.1)
  where
    by : (b : Bool) → AreSorted (filter test ks) → AreSorted (cond b (k ∷ filter test ks) (filter test ks))
    by true rest = (all-kept (λ other. stands_before other.key k.key ≡ false) test ks sorted.0, rest)
    by false rest = rest

-- two sorted lists joined are sorted where no key of the second comes before one of the first
sorted-append : (xs ys : List Keyed) → AreSorted xs → AreSorted ys
    → AllByRecursion (λ x. AllByRecursion (λ y. stands_before y.key x.key ≡ false) ys) xs → AreSorted (xs ++ ys)
sorted-append [] ys xs_sorted ys_sorted apart = ys_sorted
sorted-append (x ∷ xs) ys xs_sorted ys_sorted apart = (
  AllByRecursion-append (λ y. stands_before y.key x.key ≡ false) xs ys xs_sorted.0 apart.0,
  sorted-append xs ys xs_sorted.1 ys_sorted apart.1,
)

-- a text that comes after another doesn't come before it
not-back : (a b : List ℕ) → slice_cmp nat_cmp a b ≡ Less → stands_before b a ≡ false
not-back a b less = ap is_lt (nat_list_cmp_total.antisymm b a ∙ ap ordering_reverse less)

pub not-itself : (a : List ℕ) → stands_before a a ≡ false
not-itself a = ap is_lt (tied_itself nat_list_cmp_total a)

own-sorted : (key : List ℕ) (entries : List CacheEntry) → AreSorted (map (keyed key) entries)
own-sorted key [] = tt
own-sorted key (e ∷ es) = (own-at es, own-sorted key es)
  where
    own-at : (es : List CacheEntry)
        → AllByRecursion (λ (other : Keyed). stands_before other.key key ≡ false) (map (keyed key) es)
    own-at [] = tt
    own-at (e ∷ es) = (not-itself key, own-at es)

module _ (key : List ℕ) (entries : List CacheEntry) (cache : List Keyed) where
  -- the key's own entries, and those of the keys after it
  own-apart : (x : List ℕ) → stands_before key x ≡ false → (es : List CacheEntry)
      → AllByRecursion (λ (y : Keyed). stands_before y.key x ≡ false) (map (keyed key) es)
  own-apart x is [] = tt
  own-apart x is (e ∷ es) = (is, own-apart x is es)

  behind-apart : (x : List ℕ) → slice_cmp nat_cmp x key ≡ Less
      → AllByRecursion (λ (y : Keyed). stands_before y.key x ≡ false) (behind key cache)
  behind-apart x less = all-passing (λ (y : Keyed). stands_before y.key x
      ≡ false) (λ k. stands_before key k.key)
      (λ y is. not-back x y.key (nat_list_cmp_total.trans x key y.key less (is_lt-true _ is))) cache

  behind-own : AllByRecursion (λ (y : Keyed). stands_before y.key key ≡ false) (behind key cache)
  behind-own = all-passing (λ (y : Keyed). stands_before y.key key
      ≡ false) (λ k. stands_before key k.key) (λ y is. not-back key y.key (is_lt-true _ is)) cache

  own-behind : (es : List CacheEntry)
      → AllByRecursion (λ (x : Keyed). AllByRecursion (λ (y : Keyed). stands_before y.key x.key
      ≡ false) (behind key cache)) (map (keyed key) es)
  own-behind [] = tt
  own-behind (e ∷ es) = (behind-own, own-behind es)

  pub with-sorted : AreSorted cache → AreSorted (with_entries key entries cache)
  with-sorted sorted =
      sorted-append (before key cache) (map (keyed key) entries
      ++ behind key cache) (sorted-kept (λ k. stands_before k.key key) cache sorted)
      (sorted-append (map (keyed key) entries) (behind key cache) (own-sorted key entries)
      (sorted-kept (λ k. stands_before key k.key) cache sorted) (own-behind entries))
      (all-passing (λ (x : Keyed). AllByRecursion (λ (y : Keyed). stands_before y.key x.key
      ≡ false) (map (keyed key) entries ++ behind key cache)) (λ k. stands_before k.key key)
      (λ x is. let less = is_lt-true _ is in
      AllByRecursion-append (λ (y : Keyed). stands_before y.key x.key ≡ false) (map (keyed key) entries)
      (behind key cache)
      (own-apart x.key (not-back x.key key less) entries) (behind-apart x.key less)) cache)

learned-bounded : (lesson : Lesson) (now : ℕ) (cache : List Keyed)
    → ((key : List ℕ) → length (entries_of key cache) ≤ 64) → (key : List ℕ)
    → length (entries_of key (learned lesson now cache)) ≤ 64
learned-bounded lesson now cache most key =
    let is = entries_of-learned key lesson now cache in
    rw is (either (bytes_eq lesson.key key) (taught lesson now (entries_of lesson.key cache)) (entries_of key cache)
    (taught-most lesson now (entries_of lesson.key cache) (most lesson.key)) (most key))

cleared-bounded : (other origin url : List ℕ) (cache : List Keyed)
    → ((key : List ℕ) → length (entries_of key cache) ≤ 64) → (key : List ℕ)
    → length (entries_of key (cleared other origin url cache)) ≤ 64
cleared-bounded other origin url cache most key =
    let is = entries_of-cleared key origin url other cache in
    let left : List CacheEntry = filter (λ entry. not (is_of origin url entry)) (entries_of key cache) in
    rw is (either (bytes_eq other key) left (entries_of key cache)
    (omega (arith, kept-most (λ entry. not (is_of origin url entry)) (entries_of key cache), most key)) (most key))

pub changes-keep-caches : ChangesKeepCaches
changes-keep-caches = record {
  new = record { sorted = tt; bounded = λ key. omega arith };
  learned_is = λ lesson now cache is. record {
    sorted = with-sorted lesson.key (taught lesson now (entries_of lesson.key cache)) cache is.sorted;
    bounded = learned-bounded lesson now cache is.bounded;
  };
  cleared_is = λ key origin url cache is. record {
    sorted = sorted-kept (λ k. not (bytes_eq k.key key && is_of origin url k.entry)) cache is.sorted;
    bounded = cleared-bounded key origin url cache is.bounded;
  };
}

-- what a lesson leaves in a map of lists, unless memory was wanting
pub learned-cache : {K T E : Type 0} (bytes : K → List ℕ) (r : Result T E) (lesson : Lesson) (now : ℕ)
    (key again : List ℕ) (entries partition : List CacheEntry) (old new : List (K × List CacheEntry))
    → IsCache (listed bytes old) → key ≡ lesson.key → again ≡ lesson.key → entries ≡ entries_of key (listed bytes old)
    → partition ≡ taught lesson now entries
    → OnOk r (listed bytes new ≡ with_entries again partition (listed bytes old)) → OnErr r (new ≡ old)
    → IsCache (listed bytes new)
learned-cache bytes (Err error) lesson now key again entries partition old new is k a e p put refused =
    rw refused is
learned-cache bytes (Ok answer) lesson now key again entries partition old new is k a e p put refused =
    let whole : listed bytes new ≡ learned lesson now (listed bytes old) = rw (put, a, p, e, k) refl in
    rw whole (changes-keep-caches.learned_is lesson now (listed bytes old) is)
