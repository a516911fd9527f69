-- What the entries of a key become by a change of any key: laws that the book's proofs use.
use Rattle.std.proofs.Common.{◌≡◌, ◌++◌, ◌∷◌, [], ℕ, List, Bool, true, false, cond, not, ◌&&◌, map, filter, refl, sym}
use Rattle.std.proofs.Common.{ap, ◌∙◌}
use Rattle.std.specs.declared.cmp.Ordering.{Ordering}
use Rattle.std.specs.declared.cmp.Ordering.TheVariants.{Less, Equal, Greater}
use Rattle.std.specs.Ordering.{is_eq, nat_cmp}
use Rattle.std.specs.Cmp.Lexicographic.{slice_cmp, bytes_decides, nat_list_eq_equiv}
use Rattle.std.specs.Str.{bytes_eq}
use Rattle.std.proofs.lemmas.List.{append-nil}
use Rattle.std.proofs.lemmas.List.Elements.{filter-append}
use Rattle.book_preflights.specs.declared.entry.CacheEntry.{CacheEntry}
use Rattle.book_preflights.specs.declared.question.Lesson.{Lesson}
use Rattle.book_preflights.specs.Cache.{cleared, learned}
use Rattle.book_preflights.specs.Entries.{is_of}
use Rattle.book_preflights.specs.Keys.{Keyed, before, behind, entries_of, keyed, stands_before, with_entries}
use Rattle.book_preflights.specs.Teaching.{taught}
use Rattle.book_preflights.proofs.KeyLemmas.{entries-back, high-by, low-by, part-dropped, part-kept, same-by}

-- a filter of what another keeps, where the other answers alike at all that pass
within-head : {X : Type 0} (p q : X → Bool) (x : X) (xs : List X) (b c : Bool) → p x ≡ c → (c ≡ true → q x ≡ b)
    → filter p (filter q xs) ≡ cond b (filter p xs) [] → filter p (cond (q x) (x ∷ filter q xs) (filter q xs))
    ≡ cond b (cond c (x ∷ filter p xs) (filter p xs)) []
within-head p q x xs true true is at rest =
    ap (λ (d : Bool). filter p (cond d (x ∷ filter q xs) (filter q xs))) (at refl)
    ∙ (ap (λ (d : Bool). cond d (x ∷ filter p (filter q xs)) (filter p (filter q xs))) is
    ∙ ap (λ (ys : List _). x ∷ ys) rest)
within-head p q x xs false true is at rest =
    ap (λ (d : Bool). filter p (cond d (x ∷ filter q xs) (filter q xs))) (at refl) ∙ rest
within-head p q x xs b false is at rest = kept (q x)
  where
    kept : (d : Bool) → filter p (cond d (x ∷ filter q xs) (filter q xs)) ≡ cond b (filter p xs) []
    kept true = ap (λ (d : Bool). cond d (x ∷ filter p (filter q xs)) (filter p (filter q xs))) is ∙ rest
    kept false = rest

nothing : {X : Type 0} (b : Bool) → let none : List X = [] in none ≡ cond b none none
nothing true = refl
nothing false = refl

filter-within : {X : Type 0} (p q : X → Bool) (b : Bool) → ((x : X) → p x ≡ true → q x ≡ b) → (xs : List X)
    → filter p (filter q xs) ≡ cond b (filter p xs) []
filter-within p q b alike [] = nothing b
filter-within p q b alike (x ∷ xs) = within-head p q x xs b (p x) refl (alike x) (filter-within p q b alike xs)

module _ (key : List ℕ) (cache : List Keyed) where
  abbrev own : List Keyed → List Keyed
  own ks = filter (λ k. bytes_eq k.key key) ks

  is-key : (k : Keyed) → bytes_eq k.key key ≡ true → k.key ≡ key
  is-key k same = (bytes_decides k.key key).0 same

  own-before : (other : List ℕ) → own (before other cache) ≡ cond (stands_before key other) (own cache) []
  own-before other = filter-within (λ k. bytes_eq k.key key) (λ k. stands_before k.key other)
      (stands_before key other) (λ k same. ap (λ (l : List ℕ). stands_before l other) (is-key k same)) cache

  own-behind : (other : List ℕ) → own (behind other cache) ≡ cond (stands_before other key) (own cache) []
  own-behind other = filter-within (λ k. bytes_eq k.key key) (λ k. stands_before other k.key)
      (stands_before other key) (λ k same. ap (stands_before other) (is-key k same)) cache

  abbrev shown : List Keyed → List CacheEntry
  shown ks = map (λ k. k.entry) ks

  own-parts : (other : List ℕ) (entries : List CacheEntry) → own (with_entries other entries cache)
      ≡ cond (stands_before key other) (own cache) []
      ++ (own (map (keyed other) entries) ++ cond (stands_before other key) (own cache) [])
  own-parts other entries =
      filter-append (λ k. bytes_eq k.key key) (before other cache) (map (keyed other) entries ++ behind other cache)
      ∙ (λ i. own-before other i
      ++ (filter-append (λ k. bytes_eq k.key key) (map (keyed other) entries) (behind other cache)
      ∙ (λ j. own (map (keyed other) entries) ++ own-behind other j)) i)

  equal-by : (other : List ℕ) (o : Ordering) → slice_cmp nat_cmp other key ≡ o → bytes_eq other key ≡ is_eq o
  equal-by other o is = nat_list_eq_equiv.symm other key ∙ same-by other key o is

  -- other is the key that changes, and o how it compares with this one
  with-by : (other : List ℕ) (entries : List CacheEntry) (o : Ordering) → slice_cmp nat_cmp other key ≡ o
      → entries_of key (with_entries other entries cache) ≡ cond (is_eq o) entries (entries_of key cache)
  with-by other entries Less is =
      ap shown (own-parts other entries)
      ∙ (λ i. shown (cond (low-by other key Less is i) (own cache) []
      ++ (part-dropped (λ l. bytes_eq l key) other entries (equal-by other Less is) i
      ++ cond (high-by other key Less is i) (own cache) [])))
  with-by other entries Equal is =
      ap shown (own-parts other entries)
      ∙ ((λ i. shown (cond (low-by other key Equal is i) (own cache) []
      ++ (part-kept (λ l. bytes_eq l key) other entries (equal-by other Equal is) i
      ++ cond (high-by other key Equal is i) (own cache) [])))
      ∙ entries-back other entries)
  with-by other entries Greater is =
      ap shown (own-parts other entries)
      ∙ ((λ i. shown (cond (low-by other key Greater is i) (own cache) []
      ++ (part-dropped (λ l. bytes_eq l key) other entries (equal-by other Greater is) i
      ++ cond (high-by other key Greater is i) (own cache) [])))
      ∙ ap shown (append-nil (own cache)))

  -- other entries of one key are its entries, and leave those of every other key
  pub entries_of-with : (other : List ℕ) (entries : List CacheEntry)
      → entries_of key (with_entries other entries cache) ≡ cond (bytes_eq other key) entries (entries_of key cache)
  entries_of-with other entries =
      with-by other entries (slice_cmp nat_cmp other key) refl
      ∙ ap (λ (b : Bool). cond b entries (entries_of key cache))
      (sym (equal-by other (slice_cmp nat_cmp other key) refl))

-- clearing one key takes out entries of its own, and leaves those of every other key
module _ (key origin url : List ℕ) where
  abbrev left : List CacheEntry → List CacheEntry
  left entries = filter (λ entry. not (is_of origin url entry)) entries

  abbrev kept : Keyed → List Keyed → Bool → Bool → List CacheEntry
  kept k rest same of = entries_of key (cond (not (same && of)) (k ∷ rest) rest)

  abbrev first : Keyed → List Keyed → Bool → List CacheEntry
  first k rest same =
      map (λ k. k.entry) (cond same (k ∷ filter (λ k. bytes_eq k.key key) rest) (filter (λ k. bytes_eq k.key key) rest))

  abbrev chosen : Keyed → List Keyed → Bool → List CacheEntry
  chosen k rest of = cond (not of) (k.entry ∷ left (entries_of key rest)) (left (entries_of key rest))

  left-head : (k : Keyed) (cache : List Keyed) (same of : Bool) → bytes_eq k.key key ≡ same → is_of origin url k.entry
      ≡ of → entries_of key (cleared key origin url cache) ≡ left (entries_of key cache)
      → entries_of key (cleared key origin url (k ∷ cache)) ≡ left (entries_of key (k ∷ cache))
  left-head k cache false of is at rest =
      (λ i. kept k (cleared key origin url cache) (is i) (at i))
      ∙ (ap (first k (cleared key origin url cache)) is
      ∙ (rest ∙ sym (ap (λ (same : Bool). left (first k cache same)) is)))
  left-head k cache true true is at rest =
      (λ i. kept k (cleared key origin url cache) (is i) (at i))
      ∙ (rest ∙ (sym (ap (chosen k cache) at) ∙ sym (ap (λ (same : Bool). left (first k cache same)) is)))
  left-head k cache true false is at rest =
      (λ i. kept k (cleared key origin url cache) (is i) (at i))
      ∙ (ap (first k (cleared key origin url cache)) is
      ∙ (ap (λ (entries : List CacheEntry). k.entry ∷ entries) rest
      ∙ (sym (ap (chosen k cache) at) ∙ sym (ap (λ (same : Bool). left (first k cache same)) is))))

  left-own : (cache : List Keyed) → entries_of key (cleared key origin url cache) ≡ left (entries_of key cache)
  left-own [] = refl
  left-own (k ∷ cache) = left-head k cache (bytes_eq k.key key) (is_of origin url k.entry) refl refl (left-own cache)

  -- what is cleared of another key is none of this one's
  left-other : (other : List ℕ) (cache : List Keyed) → bytes_eq key other ≡ false
      → entries_of key (cleared other origin url cache) ≡ entries_of key cache
  left-other other cache apart =
      ap (λ (ks : List Keyed). map (λ k. k.entry) ks)
      (filter-within (λ k. bytes_eq k.key key) (λ k. not (bytes_eq k.key other && is_of origin url k.entry)) true
      (λ k same. ap (λ (l : List ℕ). not (bytes_eq l other && is_of origin url k.entry)) (is-key key cache k same)
      ∙ ap (λ (b : Bool). not (b && is_of origin url k.entry)) apart) cache)

  cleared-by : (other : List ℕ) (cache : List Keyed) (b : Bool) → bytes_eq other key ≡ b
      → entries_of key (cleared other origin url cache) ≡ cond b (left (entries_of key cache)) (entries_of key cache)
  cleared-by other cache true is =
      ap (λ (l : List ℕ). entries_of key (cleared l origin url cache)) ((bytes_decides other key).0 is) ∙ left-own cache
  cleared-by other cache false is = left-other other cache (nat_list_eq_equiv.symm key other ∙ is)

  pub entries_of-cleared : (other : List ℕ) (cache : List Keyed) → entries_of key (cleared other origin url cache)
      ≡ cond (bytes_eq other key) (left (entries_of key cache)) (entries_of key cache)
  entries_of-cleared other cache = cleared-by other cache (bytes_eq other key) refl

pub entries_of-learned : (key : List ℕ) (lesson : Lesson) (now : ℕ) (cache : List Keyed)
    → entries_of key (learned lesson now cache)
    ≡ cond (bytes_eq lesson.key key) (taught lesson now (entries_of lesson.key cache)) (entries_of key cache)
entries_of-learned key lesson now cache =
    entries_of-with key cache lesson.key (taught lesson now (entries_of lesson.key cache))
