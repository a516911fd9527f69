-- The entries of all keys as one list, in the order of the keys' bytes.
use Rattle.std.specs.Prelude.{◌≡◌, ◌↔◌, ◌≤◌, ◌&&◌, not, Bool, true, false, List, [], ◌∷◌, ◌++◌, length}
use Rattle.std.specs.Prelude.{map, filter, nat_lt, if◌then◌else◌}
use Rattle.std.specs.List.{AllByRecursion, list_all}
use Rattle.std.specs.Str.{bytes_eq}
use Rattle.std.specs.Ordering.{is_lt}
use Rattle.value_text.specs.Texts.{Text}
use Rattle.value_text.specs.Orders.{text_cmp}
use Rattle.book_preflights.specs.declared.entry.CacheEntry.{CacheEntry}
pub use Rattle.book_preflights.specs.declared.entry.Keyed.{Keyed}

abbrev pub keyed : Text → CacheEntry → Keyed
keyed key entry = record { key = key; entry = entry }

-- the first text comes before the second in the order of bytes
abbrev pub stands_before : Text → Text → Bool
stands_before a b = is_lt (text_cmp a b)

-- the entries of one key, in order
abbrev pub entries_of : Text → List Keyed → List CacheEntry
entries_of key cache = map (λ k. k.entry) (filter (λ k. bytes_eq k.key key) cache)

-- no key comes before an earlier one in that order
abbrev pub AreSorted : List Keyed → Type 0
AreSorted [] = Unit {0}
AreSorted (k ∷ ks) = AllByRecursion (λ other. stands_before other.key k.key ≡ false) ks × AreSorted ks

-- what every cache is: sorted by the bytes of the keys, with at most 64 entries of each
pub record IsCache (cache : List Keyed) : Type 0 where
  pub sorted : AreSorted cache
  pub bounded : (key : Text) → length (entries_of key cache) ≤ 64

-- the entries of the keys before this one, and of those after it
abbrev pub before : Text → List Keyed → List Keyed
before key cache = filter (λ k. stands_before k.key key) cache

abbrev pub behind : Text → List Keyed → List Keyed
behind key cache = filter (λ k. stands_before key k.key) cache

-- the list with these as the entries of the key
abbrev pub with_entries : Text → List CacheEntry → List Keyed → List Keyed
with_entries key entries cache = before key cache ++ (map (keyed key) entries ++ behind key cache)

-- an entry may stand last: no key comes after its own, which has fewer than 64
abbrev pub may_stand_last : Keyed → List Keyed → Bool
may_stand_last new cache =
    nat_lt (length (entries_of new.key cache)) 64 && list_all (λ k. not (stands_before new.key k.key)) cache

-- the list with this entry as its last, where it may stand there
abbrev pub extended : Keyed → List Keyed → List Keyed
extended new cache = if may_stand_last new cache then cache ++ new ∷ [] else cache

-- an entry may stand last exactly where the list with it is a cache
abbrev pub ExtendsExactly : Type 0
ExtendsExactly = (new : Keyed) (cache : List Keyed) → IsCache cache
    → may_stand_last new cache ≡ true ↔ IsCache (cache ++ new ∷ [])
