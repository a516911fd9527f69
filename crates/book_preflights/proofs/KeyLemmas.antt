-- Lists of entries under keys in order: look-ups and changes of one key, as filters of the one list.
use Rattle.std.proofs.Common.{◌<◌, length, subst}
use Rattle.std.proofs.Common.{arith, ◌≡◌, ◌++◌, ◌∷◌, [], ℕ, List, Bool, true, false, cond, not, ◌&&◌, map, filter}
use Rattle.std.proofs.Common.{refl, sym, ap, ◌∙◌, Option, Some, None, append_assoc}
use Rattle.std.specs.declared.cmp.Ordering.{Ordering}
use Rattle.std.specs.declared.cmp.Ordering.TheVariants.{Less, Equal, Greater}
use Rattle.std.specs.Ordering.{is_eq, is_lt, match_ordering, nat_cmp, ordering_reverse}
use Rattle.std.specs.Cmp.Lexicographic.{slice_cmp, bytes_decides, texts_ties, nat_list_cmp_total, nat_list_eq_equiv}
use Rattle.std.specs.BTreeMap.{insert_entry, is_at}
use Rattle.std.specs.Map.{keys_of, lookup, remove_entry, set_value}
use Rattle.std.specs.List.{AllByRecursion}
use Rattle.std.specs.List.Sorted.{IsStrictlySortedBy}
use Rattle.std.specs.Option.{unwrap_or}
use Rattle.std.specs.Str.{bytes_eq}
use Rattle.std.proofs.lemmas.List.Elements.{filter-append}
use Rattle.std.proofs.lemmas.Map.Keys.{sorted_head, sorted_tail}
use Rattle.book_preflights.specs.declared.entry.CacheEntry.{CacheEntry}
use Rattle.book_preflights.specs.Cache.{cleared}
use Rattle.book_preflights.specs.Entries.{is_of}
use Rattle.book_preflights.specs.Keys.{Keyed, entries_of, keyed, stands_before, with_entries}
use Rattle.book_preflights.specs.Private.Partitions.{key_cmp, listed}

-- the entries under one key all pass a test of the key, or none does
pub part-kept : (test : List ℕ → Bool) (key : List ℕ) (entries : List CacheEntry) → test key ≡ true
    → filter (λ (k : Keyed). test k.key) (map (keyed key) entries) ≡ map (keyed key) entries
part-kept test key [] passes = refl
part-kept test key (e ∷ es) passes =
    rw passes (ap (λ (ks : List Keyed). keyed key e ∷ ks) (part-kept test key es passes))

pub part-dropped : (test : List ℕ → Bool) (key : List ℕ) (entries : List CacheEntry) → test key ≡ false
    → filter (λ (k : Keyed). test k.key) (map (keyed key) entries) ≡ []
part-dropped test key [] fails = refl
part-dropped test key (e ∷ es) fails = rw fails (part-dropped test key es fails)

-- how a key compares with another, by the order of their bytes
module _ (key other : List ℕ) (o : Ordering) (is : slice_cmp nat_cmp key other ≡ o) where
  pub same-by : bytes_eq other key ≡ is_eq o
  same-by = nat_list_eq_equiv.symm other key ∙ (texts_ties key other ∙ ap is_eq is)

  pub low-by : stands_before other key ≡ is_lt (ordering_reverse o)
  low-by = ap is_lt (nat_list_cmp_total.antisymm other key ∙ ap ordering_reverse is)

  pub high-by : stands_before key other ≡ is_lt o
  high-by = ap is_lt is

pub equal-keys : (key other : List ℕ) → slice_cmp nat_cmp key other ≡ Equal → other ≡ key
equal-keys key other is = (bytes_decides other key).0 (same-by key other Equal is)

pub entries-back : (key : List ℕ) (entries : List CacheEntry)
    → map (λ (k : Keyed). k.entry) (map (keyed key) entries ++ []) ≡ entries
entries-back key [] = refl
entries-back key (e ∷ es) = ap (λ (xs : List CacheEntry). e ∷ xs) (entries-back key es)

module _ {K : Type 0} (bytes : K → List ℕ) where
  -- a test of the keys, of the one list and of the lists under their keys
  sifted-head : (test : List ℕ → Bool) (p : K × List CacheEntry) (ps : List (K × List CacheEntry)) (b : Bool)
      → test (bytes p.0) ≡ b → filter (λ (k : Keyed). test k.key) (listed bytes ps)
      ≡ listed bytes (filter (λ q. test (bytes q.0)) ps)
      → filter (λ (k : Keyed). test k.key) (map (keyed (bytes p.0)) p.1)
      ++ filter (λ (k : Keyed). test k.key) (listed bytes ps)
      ≡ listed bytes (cond b (p ∷ filter (λ q. test (bytes q.0)) ps) (filter (λ q. test (bytes q.0)) ps))
  sifted-head test p ps true is rest = λ k. part-kept test (bytes p.0) p.1 is k ++ rest k
  sifted-head test p ps false is rest = λ k. part-dropped test (bytes p.0) p.1 is k ++ rest k

  listed-sifted : (test : List ℕ → Bool) (ps : List (K × List CacheEntry))
      → filter (λ (k : Keyed). test k.key) (listed bytes ps) ≡ listed bytes (filter (λ q. test (bytes q.0)) ps)
  listed-sifted test [] = refl
  listed-sifted test (p ∷ ps) =
      filter-append (λ (k : Keyed). test k.key) (map (keyed (bytes p.0)) p.1) (listed bytes ps)
      ∙ sifted-head test p ps (test (bytes p.0)) refl (listed-sifted test ps)

  module _ (key : List ℕ) where
    abbrev compare : K → Ordering
    compare k = slice_cmp nat_cmp key (bytes k)

    abbrev same : List (K × List CacheEntry) → List (K × List CacheEntry)
    same ps = filter (λ p. bytes_eq (bytes p.0) key) ps

    abbrev low : List (K × List CacheEntry) → List (K × List CacheEntry)
    low ps = filter (λ p. stands_before (bytes p.0) key) ps

    abbrev high : List (K × List CacheEntry) → List (K × List CacheEntry)
    high ps = filter (λ p. stands_before key (bytes p.0)) ps

    -- the key comes before all keys of the lists
    abbrev AllHigh : List (K × List CacheEntry) → Type 0
    AllHigh ps = AllByRecursion (λ k. compare k ≡ Less) (keys_of ps)

    low-none : (ps : List (K × List CacheEntry)) → AllHigh ps → low ps ≡ []
    low-none [] all = refl
    low-none (p ∷ ps) all = ap (λ (b : Bool). cond b (p ∷ low ps) (low ps)) (low-by key (bytes p.0) Less all.0)
        ∙ low-none ps all.1

    high-all : (ps : List (K × List CacheEntry)) → AllHigh ps → high ps ≡ ps
    high-all [] all = refl
    high-all (p ∷ ps) all = ap (λ (b : Bool). cond b (p ∷ high ps) (high ps)) (high-by key (bytes p.0) Less all.0)
        ∙ ap (λ (qs : List (K × List CacheEntry)). p ∷ qs) (high-all ps all.1)

    same-none : (ps : List (K × List CacheEntry)) → AllHigh ps → same ps ≡ []
    same-none [] all = refl
    same-none (p ∷ ps) all = ap (λ (b : Bool). cond b (p ∷ same ps) (same ps)) (same-by key (bytes p.0) Less all.0)
        ∙ same-none ps all.1

    removed-none : (ps : List (K × List CacheEntry)) → AllHigh ps → remove_entry (is_at compare) ps ≡ ps
    removed-none [] all = refl
    removed-none (p ∷ ps) all = ap (λ (b : Bool). cond b ps (p ∷ remove_entry (is_at compare) ps)) (ap is_eq all.0)
        ∙ ap (λ (qs : List (K × List CacheEntry)). p ∷ qs) (removed-none ps all.1)

    -- what comes after a key that the key doesn't come after
    high-through : (k : K) → ((other : K) → key_cmp bytes k other ≡ Less → compare other ≡ Less)
        → (ps : List (K × List CacheEntry)) → AllByRecursion (λ other. key_cmp bytes k other ≡ Less) (keys_of ps)
        → AllHigh ps
    high-through k step [] all = tt
    high-through k step (p ∷ ps) all = (step p.0 all.0, high-through k step ps all.1)

    high-less : (p : K × List CacheEntry) (ps : List (K × List CacheEntry))
        → IsStrictlySortedBy (key_cmp bytes) (keys_of (p ∷ ps)) → compare p.0 ≡ Less → AllHigh (p ∷ ps)
    high-less p ps sorted is = (
      is,
      high-through p.0 (λ other less. nat_list_cmp_total.trans key (bytes p.0) (bytes other) is less) ps
          (sorted_head (key_cmp bytes) p.0 (keys_of ps) sorted),
    )

    high-equal : (p : K × List CacheEntry) (ps : List (K × List CacheEntry))
        → IsStrictlySortedBy (key_cmp bytes) (keys_of (p ∷ ps)) → compare p.0 ≡ Equal → AllHigh ps
    high-equal p ps sorted is =
        high-through p.0 (λ other less. nat_list_cmp_total.congr key (bytes p.0) (bytes other) is
        ∙ less) ps (sorted_head (key_cmp bytes) p.0 (keys_of ps) sorted)

    -- the entries of a key are those that a look-up finds
    abbrev found : List (K × List CacheEntry) → Option (List CacheEntry)
    found ps = lookup (is_at compare) ps

    abbrev shown : List (K × List CacheEntry) → List CacheEntry
    shown ps = map (λ k. k.entry) (listed bytes ps)

    other-found : (p : K × List CacheEntry) (ps : List (K × List CacheEntry)) → bytes_eq (bytes p.0) key ≡ false
        → is_eq (compare p.0) ≡ false → shown (same ps) ≡ unwrap_or (found ps) [] → shown (same (p ∷ ps))
        ≡ unwrap_or (found (p ∷ ps)) []
    other-found p ps apart unequal rest = ap (λ (b : Bool). shown (cond b (p ∷ same ps) (same ps))) apart
        ∙ (rest ∙ sym (ap (λ (b : Bool). unwrap_or (cond b (Some p.1) (found ps)) []) unequal))

    same-found : (p : K × List CacheEntry) (ps : List (K × List CacheEntry)) → bytes_eq (bytes p.0) key ≡ true
        → is_eq (compare p.0) ≡ true → AllHigh ps → shown (same (p ∷ ps)) ≡ unwrap_or (found (p ∷ ps)) []
    same-found p ps equal is all =
        ap (λ (b : Bool). shown (cond b (p ∷ same ps) (same ps))) equal
        ∙ (ap (λ (qs : List (K × List CacheEntry)). shown (p ∷ qs)) (same-none ps all)
        ∙ (entries-back (bytes p.0) p.1
        ∙ sym (ap (λ (b : Bool). unwrap_or (cond b (Some p.1) (found ps)) []) is)))

    shown-by : (p : K × List CacheEntry) (ps : List (K × List CacheEntry))
        → IsStrictlySortedBy (key_cmp bytes) (keys_of (p ∷ ps)) → shown (same ps) ≡ unwrap_or (found ps) []
        → (o : Ordering) → compare p.0 ≡ o → shown (same (p ∷ ps)) ≡ unwrap_or (found (p ∷ ps)) []
    shown-by p ps sorted rest Less is = other-found p ps (same-by key (bytes p.0) Less is) (ap is_eq is) rest
    shown-by p ps sorted rest Greater is = other-found p ps (same-by key (bytes p.0) Greater is) (ap is_eq is) rest
    shown-by p ps sorted rest Equal is =
        same-found p ps (same-by key (bytes p.0) Equal is) (ap is_eq is) (high-equal p ps sorted is)

    shown-found : (ps : List (K × List CacheEntry)) → IsStrictlySortedBy (key_cmp bytes) (keys_of ps)
        → shown (same ps) ≡ unwrap_or (found ps) []
    shown-found [] sorted = refl
    shown-found (p ∷ ps) sorted =
        shown-by p ps sorted (shown-found ps (sorted_tail (key_cmp bytes) p.0 (keys_of ps) sorted)) (compare p.0) refl

    pub entries-found : (ps : List (K × List CacheEntry)) → IsStrictlySortedBy (key_cmp bytes) (keys_of ps)
        → entries_of key (listed bytes ps) ≡ unwrap_or (found ps) []
    entries-found ps sorted =
        ap (λ (ks : List Keyed). map (λ k. k.entry) ks) (listed-sifted (λ other. bytes_eq other key) ps)
        ∙ shown-found ps sorted

    -- the one list with these entries of the key
    abbrev among : List Keyed → List (K × List CacheEntry) → List Keyed
    among entries ps = listed bytes (low ps) ++ (entries ++ listed bytes (high ps))

    among-sifted : (entries : List CacheEntry) (ps : List (K × List CacheEntry))
        → with_entries key entries (listed bytes ps) ≡ among (map (keyed key) entries) ps
    among-sifted entries ps = λ k. listed-sifted (λ other. stands_before other key) ps k
        ++ (map (keyed key) entries ++ listed-sifted (stands_before key) ps k)

    -- where the first key comes before the key, is the key, or comes after it
    among-less : (entries : List Keyed) (ps : List (K × List CacheEntry)) → AllHigh ps → among entries ps ≡ entries
        ++ listed bytes ps
    among-less entries ps all = λ k. listed bytes (low-none ps all k) ++ (entries ++ listed bytes (high-all ps all k))

    among-equal : (entries : List Keyed) (p : K × List CacheEntry) (ps : List (K × List CacheEntry)) → compare p.0
        ≡ Equal → AllHigh ps → among entries (p ∷ ps) ≡ entries ++ listed bytes ps
    among-equal entries p ps is all =
        (λ k. listed bytes (cond (low-by key (bytes p.0) Equal is k) (p ∷ low ps) (low ps))
        ++ (entries ++ listed bytes (cond (high-by key (bytes p.0) Equal is k) (p ∷ high ps) (high ps))))
        ∙ among-less entries ps all

    among-greater : (entries : List Keyed) (p : K × List CacheEntry) (ps : List (K × List CacheEntry)) → compare p.0
        ≡ Greater → among entries (p ∷ ps) ≡ map (keyed (bytes p.0)) p.1 ++ among entries ps
    among-greater entries p ps is =
        (λ k. listed bytes (cond (low-by key (bytes p.0) Greater is k) (p ∷ low ps) (low ps))
        ++ (entries ++ listed bytes (cond (high-by key (bytes p.0) Greater is k) (p ∷ high ps) (high ps))))
        ∙ append_assoc (map (keyed (bytes p.0)) p.1) (listed bytes (low ps)) (entries ++ listed bytes (high ps))

    -- without the key
    removed-by : (p : K × List CacheEntry) (ps : List (K × List CacheEntry))
        → IsStrictlySortedBy (key_cmp bytes) (keys_of (p ∷ ps)) → listed bytes (remove_entry (is_at compare) ps)
        ≡ among [] ps → (o : Ordering) → compare p.0 ≡ o → listed bytes (remove_entry (is_at compare) (p ∷ ps))
        ≡ among [] (p ∷ ps)
    removed-by p ps sorted rest Less is = let all = high-less p ps sorted is in
        ap (listed bytes) (removed-none (p ∷ ps) all) ∙ sym (among-less [] (p ∷ ps) all)
    removed-by p ps sorted rest Equal is =
        ap (λ (b : Bool). listed bytes (cond b ps (p ∷ remove_entry (is_at compare) ps))) (ap is_eq is)
        ∙ sym (among-equal [] p ps is (high-equal p ps sorted is))
    removed-by p ps sorted rest Greater is =
        ap (λ (b : Bool). listed bytes (cond b ps (p ∷ remove_entry (is_at compare) ps))) (ap is_eq is)
        ∙ (ap (λ (ks : List Keyed). map (keyed (bytes p.0)) p.1 ++ ks) rest ∙ sym (among-greater [] p ps is))

    removed-among : (ps : List (K × List CacheEntry)) → IsStrictlySortedBy (key_cmp bytes) (keys_of ps)
        → listed bytes (remove_entry (is_at compare) ps) ≡ among [] ps
    removed-among [] sorted = refl
    removed-among (p ∷ ps) sorted =
        removed-by p ps sorted (removed-among ps (sorted_tail (key_cmp bytes) p.0 (keys_of ps) sorted)) (compare p.0)
        refl

    pub entries-removed : (ps : List (K × List CacheEntry)) → IsStrictlySortedBy (key_cmp bytes) (keys_of ps)
        → listed bytes (remove_entry (is_at compare) ps) ≡ with_entries key [] (listed bytes ps)
    entries-removed ps sorted = removed-among ps sorted ∙ sym (among-sifted [] ps)

  -- with other entries of a key
  module _ (k : K) (entries : List CacheEntry) where
    abbrev inserted : List (K × List CacheEntry) → List (K × List CacheEntry)
    inserted ps = insert_entry (key_cmp bytes) ps k entries

    abbrev own : List Keyed
    own = map (keyed (bytes k)) entries

    abbrev placed : K × List CacheEntry → List (K × List CacheEntry) → Ordering → List Keyed
    placed p ps o = listed bytes (match_ordering o ((k, entries) ∷ p ∷ ps) ((p.0, entries) ∷ ps) (p ∷ inserted ps))

    inserted-by : (p : K × List CacheEntry) (ps : List (K × List CacheEntry))
        → IsStrictlySortedBy (key_cmp bytes) (keys_of (p ∷ ps)) → listed bytes (inserted ps) ≡ among (bytes k) own ps
        → (o : Ordering) → compare (bytes k) p.0 ≡ o → listed bytes (inserted (p ∷ ps)) ≡ among (bytes k) own (p ∷ ps)
    inserted-by p ps sorted rest Less is = ap (placed p ps) is
        ∙ sym (among-less (bytes k) own (p ∷ ps) (high-less (bytes k) p ps sorted is))
    inserted-by p ps sorted rest Equal is =
        ap (placed p ps) is
        ∙ (ap (λ (b : List ℕ). map (keyed b) entries ++ listed bytes ps) (equal-keys (bytes k) (bytes p.0) is)
        ∙ sym (among-equal (bytes k) own p ps is (high-equal (bytes k) p ps sorted is)))
    inserted-by p ps sorted rest Greater is =
        ap (placed p ps) is ∙ (ap (λ (ks : List Keyed). map (keyed (bytes p.0)) p.1 ++ ks) rest
        ∙ sym (among-greater (bytes k) own p ps is))

    inserted-among : (ps : List (K × List CacheEntry)) → IsStrictlySortedBy (key_cmp bytes) (keys_of ps)
        → listed bytes (inserted ps) ≡ among (bytes k) own ps
    inserted-among [] sorted = refl
    inserted-among (p ∷ ps) sorted =
        inserted-by p ps sorted (inserted-among ps (sorted_tail (key_cmp bytes) p.0 (keys_of ps) sorted))
        (compare (bytes k) p.0) refl

    pub entries-inserted : (ps : List (K × List CacheEntry)) → IsStrictlySortedBy (key_cmp bytes) (keys_of ps)
        → listed bytes (inserted ps) ≡ with_entries (bytes k) entries (listed bytes ps)
    entries-inserted ps sorted = inserted-among ps sorted ∙ sym (among-sifted (bytes k) entries ps)

  -- without the entries of a key, an origin and a URL
  module _ (key origin url : List ℕ) where
    abbrev is_left : Keyed → Bool
    is_left k = not (bytes_eq k.key key && is_of origin url k.entry)

    abbrev left : List CacheEntry → List CacheEntry
    left entries = filter (λ entry. not (is_of origin url entry)) entries

    cleared-head : (other : List ℕ) (e : CacheEntry) (es : List CacheEntry) → bytes_eq other key ≡ true
        → filter is_left (map (keyed other) es) ≡ map (keyed other) (left es) → (b : Bool) → is_of origin url e ≡ b
        → filter is_left (map (keyed other) (e ∷ es)) ≡ map (keyed other) (left (e ∷ es))
    cleared-head other e es is rest true at =
        (λ k. cond (not (is k && at k)) (keyed other e ∷ filter is_left (map (keyed other) es))
        (filter is_left (map (keyed other) es)))
        ∙ (rest ∙ sym (ap (λ (b : Bool). map (keyed other) (cond (not b) (e ∷ left es) (left es))) at))
    cleared-head other e es is rest false at =
        (λ k. cond (not (is k && at k)) (keyed other e ∷ filter is_left (map (keyed other) es))
        (filter is_left (map (keyed other) es)))
        ∙ (ap (λ (ks : List Keyed). keyed other e ∷ ks) rest
        ∙ sym (ap (λ (b : Bool). map (keyed other) (cond (not b) (e ∷ left es) (left es))) at))

    part-cleared : (other : List ℕ) (entries : List CacheEntry) → bytes_eq other key ≡ true
        → filter is_left (map (keyed other) entries) ≡ map (keyed other) (left entries)
    part-cleared other [] is = refl
    part-cleared other (e ∷ es) is = cleared-head other e es is (part-cleared other es is) (is_of origin url e) refl

    part-left : (other : List ℕ) (entries : List CacheEntry) → bytes_eq other key ≡ false
        → filter is_left (map (keyed other) entries) ≡ map (keyed other) entries
    part-left other [] is = refl
    part-left other (e ∷ es) is =
        ap (λ (b : Bool). cond (not (b && is_of origin url e)) (keyed other e ∷ filter is_left (map (keyed other) es))
        (filter is_left (map (keyed other) es))) is
        ∙ ap (λ (ks : List Keyed). keyed other e ∷ ks) (part-left other es is)

    all-left : (ps : List (K × List CacheEntry)) → AllHigh key ps → filter is_left (listed bytes ps) ≡ listed bytes ps
    all-left [] all = refl
    all-left (p ∷ ps) all =
        filter-append is_left (map (keyed (bytes p.0)) p.1) (listed bytes ps)
        ∙ (λ k. part-left (bytes p.0) p.1 (same-by key (bytes p.0) Less all.0) k ++ all-left ps all.1 k)

    abbrev without : List (K × List CacheEntry) → List CacheEntry → List (K × List CacheEntry)
    without ps entries = set_value (is_at (compare key)) ps (left entries)

    other-cleared : (p : K × List CacheEntry) (ps : List (K × List CacheEntry)) (entries : List CacheEntry)
        → bytes_eq (bytes p.0) key ≡ false → is_eq (compare key p.0) ≡ false → filter is_left (listed bytes ps)
        ≡ listed bytes (without ps entries) → filter is_left (listed bytes (p ∷ ps))
        ≡ listed bytes (without (p ∷ ps) entries)
    other-cleared p ps entries apart unequal rest =
        filter-append is_left (map (keyed (bytes p.0)) p.1) (listed bytes ps)
        ∙ ((λ k. part-left (bytes p.0) p.1 apart k ++ rest k)
        ∙ sym (ap (λ (b : Bool). listed bytes (cond b ((p.0, left entries) ∷ ps) (p ∷ without ps entries))) unequal))

    same-cleared : (p : K × List CacheEntry) (ps : List (K × List CacheEntry)) (entries : List CacheEntry)
        → bytes_eq (bytes p.0) key ≡ true → is_eq (compare key p.0) ≡ true → AllHigh key ps → p.1 ≡ entries
        → filter is_left (listed bytes (p ∷ ps)) ≡ listed bytes (without (p ∷ ps) entries)
    same-cleared p ps entries equal is all at =
        filter-append is_left (map (keyed (bytes p.0)) p.1) (listed bytes ps)
        ∙ ((λ k. part-cleared (bytes p.0) p.1 equal k ++ all-left ps all k)
        ∙ (ap (λ (es : List CacheEntry). map (keyed (bytes p.0)) (left es) ++ listed bytes ps) at
        ∙ sym (ap (λ (b : Bool). listed bytes (cond b ((p.0, left entries) ∷ ps) (p ∷ without ps entries))) is)))

    -- what a look-up finds in the lists, where the first key is another, or this one
    found-behind : (p : K × List CacheEntry) (ps : List (K × List CacheEntry)) (answer : Option (List CacheEntry))
        → is_eq (compare key p.0) ≡ false → found key (p ∷ ps) ≡ answer → found key ps ≡ answer
    found-behind p ps answer unequal at = sym (ap (λ (b : Bool). cond b (Some p.1) (found key ps)) unequal) ∙ at

    found-here : (p : K × List CacheEntry) (ps : List (K × List CacheEntry)) (answer : Option (List CacheEntry))
        → is_eq (compare key p.0) ≡ true → found key (p ∷ ps) ≡ answer → p.1 ≡ unwrap_or answer []
    found-here p ps answer is at =
        ap (λ (o : Option (List CacheEntry)). unwrap_or o [])
        (sym (ap (λ (b : Bool). cond b (Some p.1) (found key ps)) is) ∙ at)

    cleared-by : (p : K × List CacheEntry) (ps : List (K × List CacheEntry)) (entries : List CacheEntry)
        → IsStrictlySortedBy (key_cmp bytes) (keys_of (p ∷ ps)) → found key (p ∷ ps) ≡ Some entries
        → (found key ps ≡ Some entries → filter is_left (listed bytes ps) ≡ listed bytes (without ps entries))
        → (o : Ordering) → compare key p.0 ≡ o → filter is_left (listed bytes (p ∷ ps))
        ≡ listed bytes (without (p ∷ ps) entries)
    cleared-by p ps entries sorted at rest Less is =
        other-cleared p ps entries (same-by key (bytes p.0) Less is) (ap is_eq is)
        (rest (found-behind p ps (Some entries) (ap is_eq is) at))
    cleared-by p ps entries sorted at rest Greater is =
        other-cleared p ps entries (same-by key (bytes p.0) Greater is) (ap is_eq is)
        (rest (found-behind p ps (Some entries) (ap is_eq is) at))
    cleared-by p ps entries sorted at rest Equal is =
        same-cleared p ps entries (same-by key (bytes p.0) Equal is) (ap is_eq is) (high-equal key p ps sorted is)
        (found-here p ps (Some entries) (ap is_eq is) at)

    pub entries-cleared : (ps : List (K × List CacheEntry)) (entries : List CacheEntry)
        → IsStrictlySortedBy (key_cmp bytes) (keys_of ps) → found key ps ≡ Some entries
        → listed bytes (set_value (is_at (compare key)) ps (left entries)) ≡ cleared key origin url (listed bytes ps)
    entries-cleared ps entries sorted at = sym (by ps sorted at)
      where
        by : (ps : List (K × List CacheEntry)) → IsStrictlySortedBy (key_cmp bytes) (keys_of ps) → found key ps
            ≡ Some entries → filter is_left (listed bytes ps) ≡ listed bytes (without ps entries)
        by [] sorted at = refl
        by (p ∷ ps) sorted at =
            cleared-by p ps entries sorted at (by ps (sorted_tail (key_cmp bytes) p.0 (keys_of ps) sorted))
            (compare key p.0) refl

    -- a key that isn't found leaves the list as it is
    left-by : (p : K × List CacheEntry) (ps : List (K × List CacheEntry)) → found key (p ∷ ps) ≡ None
        → (found key ps ≡ None → filter is_left (listed bytes ps) ≡ listed bytes ps) → (o : Ordering)
        → compare key p.0 ≡ o → filter is_left (listed bytes (p ∷ ps)) ≡ listed bytes (p ∷ ps)
    left-by p ps at rest Less is = filter-append is_left (map (keyed (bytes p.0)) p.1) (listed bytes ps)
        ∙ (λ k. part-left (bytes p.0) p.1 (same-by key (bytes p.0) Less is) k
        ++ rest (found-behind p ps None (ap is_eq is) at) k)
    left-by p ps at rest Greater is = filter-append is_left (map (keyed (bytes p.0)) p.1) (listed bytes ps)
        ∙ (λ k. part-left (bytes p.0) p.1 (same-by key (bytes p.0) Greater is) k
        ++ rest (found-behind p ps None (ap is_eq is) at) k)
    left-by p ps at rest Equal is = let here : (let o : Option (List CacheEntry) = Some p.1 in o ≡ None) =
        sym (ap (λ (b : Bool). cond b (Some p.1) (found key ps)) (ap is_eq is)) ∙ at in absurd (grind (arith, here))

    pub entries-left : (ps : List (K × List CacheEntry)) → found key ps ≡ None
        → cleared key origin url (listed bytes ps) ≡ listed bytes ps
    entries-left [] at = refl
    entries-left (p ∷ ps) at = left-by p ps at (entries-left ps) (compare key p.0) refl

  -- a key without entries can go
  emptied-by : (key : List ℕ) (p : K × List CacheEntry) (ps : List (K × List CacheEntry)) (b : Bool)
      → is_eq (compare key p.0) ≡ b → unwrap_or (found key (p ∷ ps)) [] ≡ []
      → (unwrap_or (found key ps) [] ≡ [] → listed bytes (remove_entry (is_at (compare key)) ps) ≡ listed bytes ps)
      → listed bytes (remove_entry (is_at (compare key)) (p ∷ ps)) ≡ listed bytes (p ∷ ps)
  emptied-by key p ps true is none rest =
      let here : p.1 ≡ [] = sym (ap (λ (b : Bool). unwrap_or (cond b (Some p.1) (found key ps)) []) is) ∙ none in
      ap (λ (b : Bool). listed bytes (cond b ps (p ∷ remove_entry (is_at (compare key)) ps))) is
      ∙ sym (ap (λ (es : List CacheEntry). map (keyed (bytes p.0)) es ++ listed bytes ps) here)
  emptied-by key p ps false is none rest =
      let there : unwrap_or (found key ps) [] ≡ [] =
      sym (ap (λ (b : Bool). unwrap_or (cond b (Some p.1) (found key ps)) []) is) ∙ none in
      ap (λ (b : Bool). listed bytes (cond b ps (p ∷ remove_entry (is_at (compare key)) ps))) is
      ∙ ap (λ (ks : List Keyed). map (keyed (bytes p.0)) p.1 ++ ks) (rest there)

  emptied : (key : List ℕ) (ps : List (K × List CacheEntry)) → unwrap_or (found key ps) [] ≡ []
      → listed bytes (remove_entry (is_at (compare key)) ps) ≡ listed bytes ps
  emptied key [] none = refl
  emptied key (p ∷ ps) none = emptied-by key p ps (is_eq (compare key p.0)) refl none (emptied key ps)

  pub entries-emptied : (key : List ℕ) (ps : List (K × List CacheEntry))
      → IsStrictlySortedBy (key_cmp bytes) (keys_of ps) → entries_of key (listed bytes ps) ≡ []
      → listed bytes (remove_entry (is_at (compare key)) ps) ≡ listed bytes ps
  entries-emptied key ps sorted none = emptied key ps (sym (entries-found key ps sorted) ∙ none)

  -- a key that is found, with other entries
  module _ (key : List ℕ) (entries : List CacheEntry) where
    abbrev replaced : List (K × List CacheEntry) → List (K × List CacheEntry)
    replaced ps = set_value (is_at (compare key)) ps entries

    abbrev keyed-here : List Keyed
    keyed-here = map (keyed key) entries

    never-found : (ps : List (K × List CacheEntry)) → AllHigh key ps → found key ps ≡ None
    never-found [] all = refl
    never-found (p ∷ ps) all =
        ap (λ (b : Bool). cond b (Some p.1) (found key ps)) (ap is_eq all.0) ∙ never-found ps all.1

    replaced-by : (p : K × List CacheEntry) (ps : List (K × List CacheEntry)) (old : List CacheEntry)
        → IsStrictlySortedBy (key_cmp bytes) (keys_of (p ∷ ps)) → found key (p ∷ ps) ≡ Some old
        → (found key ps ≡ Some old → listed bytes (replaced ps) ≡ among key keyed-here ps)
        → (o : Ordering) → compare key p.0 ≡ o → listed bytes (replaced (p ∷ ps)) ≡ among key keyed-here (p ∷ ps)
    replaced-by p ps old sorted at rest Less is =
        let none : None ≡ Some old = sym (never-found (p ∷ ps) (high-less key p ps sorted is)) ∙ at in absurd (cc)
    replaced-by p ps old sorted at rest Equal is =
        ap (λ (b : Bool). listed bytes (cond b ((p.0, entries) ∷ ps) (p ∷ replaced ps))) (ap is_eq is)
        ∙ (ap (λ (b : List ℕ). map (keyed b) entries ++ listed bytes ps) (equal-keys key (bytes p.0) is)
        ∙ sym (among-equal key keyed-here p ps is (high-equal key p ps sorted is)))
    replaced-by p ps old sorted at rest Greater is =
        ap (λ (b : Bool). listed bytes (cond b ((p.0, entries) ∷ ps) (p ∷ replaced ps))) (ap is_eq is)
        ∙ (ap (λ (ks : List Keyed). map (keyed (bytes p.0)) p.1 ++ ks)
        (rest (found-behind key [] [] p ps (Some old) (ap is_eq is) at))
        ∙ sym (among-greater key keyed-here p ps is))

    replaced-among : (ps : List (K × List CacheEntry)) (old : List CacheEntry)
        → IsStrictlySortedBy (key_cmp bytes) (keys_of ps) → found key ps ≡ Some old
        → listed bytes (replaced ps) ≡ among key keyed-here ps
    replaced-among [] old sorted at = absurd (cc)
    replaced-among (p ∷ ps) old sorted at =
        replaced-by p ps old sorted at
        (replaced-among ps old (sorted_tail (key_cmp bytes) p.0 (keys_of ps) sorted)) (compare key p.0) refl

    pub entries-replaced : (ps : List (K × List CacheEntry)) (old : List CacheEntry)
        → IsStrictlySortedBy (key_cmp bytes) (keys_of ps) → found key ps ≡ Some old
        → listed bytes (replaced ps) ≡ with_entries key entries (listed bytes ps)
    entries-replaced ps old sorted at = replaced-among ps old sorted at ∙ sym (among-sifted key entries ps)

  -- a key that is found, with one entry more
  pub entries-pushed : (key at : List ℕ) (entry : CacheEntry) (ps new : List (K × List CacheEntry))
      (old after : List CacheEntry) → at ≡ key → IsStrictlySortedBy (key_cmp bytes) (keys_of ps)
      → found at ps ≡ Some old → new ≡ set_value (is_at (compare at)) ps after → after ≡ old ++ entry ∷ []
      → listed bytes new ≡ with_entries key (entries_of key (listed bytes ps) ++ entry ∷ []) (listed bytes ps)
  entries-pushed key at entry ps new old after same sorted there is more =
      let own : entries_of at (listed bytes ps) ≡ old =
      entries-found at ps sorted ∙ ap (λ (o : Option (List CacheEntry)). unwrap_or o []) there in
      ap (listed bytes) is ∙ (entries-replaced at after ps old sorted there
      ∙ (ap (λ (entries : List CacheEntry). with_entries at entries (listed bytes ps))
      (more ∙ ap (λ (entries : List CacheEntry). entries ++ entry ∷ []) (sym own))
      ∙ ap (λ (key : List ℕ). with_entries key (entries_of key (listed bytes ps) ++ entry ∷ []) (listed bytes ps)) same))

  -- a key that is not, with its first entry
  pub entries-begun : (key at : List ℕ) (entry : CacheEntry) (k : K) (ps new : List (K × List CacheEntry))
      (after : List CacheEntry) → at ≡ key → bytes k ≡ key → IsStrictlySortedBy (key_cmp bytes) (keys_of ps)
      → found at ps ≡ None → new ≡ insert_entry (key_cmp bytes) ps k after → after ≡ entry ∷ []
      → listed bytes new ≡ with_entries key (entries_of key (listed bytes ps) ++ entry ∷ []) (listed bytes ps)
  entries-begun key at entry k ps new after same named sorted none is one =
      let own : entries_of key (listed bytes ps) ≡ [] =
      ap (λ (key : List ℕ). entries_of key (listed bytes ps)) (sym same)
      ∙ (entries-found at ps sorted ∙ ap (λ (o : Option (List CacheEntry)). unwrap_or o []) none) in
      ap (listed bytes) is ∙ (entries-inserted k after ps sorted
      ∙ ((λ i. with_entries (named i) (one i) (listed bytes ps))
      ∙ ap (λ (entries : List CacheEntry). with_entries key (entries ++ entry ∷ []) (listed bytes ps)) (sym own)))

  -- there is room where the key has few entries
  pub found-few : (key at : List ℕ) (ps : List (K × List CacheEntry)) (old : List CacheEntry) → at ≡ key
      → IsStrictlySortedBy (key_cmp bytes) (keys_of ps) → found at ps ≡ Some old
      → length (entries_of key (listed bytes ps)) < 64 → length old < 64
  found-few key at ps old same sorted there few =
      let own : entries_of at (listed bytes ps) ≡ old =
      entries-found at ps sorted ∙ ap (λ (o : Option (List CacheEntry)). unwrap_or o []) there in
      subst (λ (l : List CacheEntry). length l < 64) own
      (subst (λ (key : List ℕ). length (entries_of key (listed bytes ps)) < 64) (sym same) few)
