-- What the entries of one key become by a lesson (Fetch, "CORS-preflight fetch", steps on the cache).
use Rattle.std.specs.Prelude.{ℕ, Bool, ◌-◌, List, [], ◌∷◌, ◌++◌, length, drop, map, filter, if◌then◌else◌}
use Rattle.std.specs.List.{list_any, fold}
use Rattle.book_preflights.specs.declared.entry.Allowed.{Allowed}
use Rattle.book_preflights.specs.declared.entry.Allowed.TheVariants.{Method, HeaderName}
use Rattle.book_preflights.specs.declared.entry.CacheEntry.{CacheEntry}
use Rattle.book_preflights.specs.declared.question.Lesson.{Lesson}
use Rattle.book_preflights.specs.Entries.{is_alive, is_match}

-- the entry is alive and matches this method or header name of the lesson
abbrev pub is_known : Lesson → ℕ → Allowed → CacheEntry → Bool
is_known lesson now item entry = is_match lesson.origin lesson.url lesson.include now item entry

-- "create a new cache entry"
abbrev pub created : Lesson → ℕ → Allowed → CacheEntry
created lesson now item = record {
  origin = lesson.origin;
  url = lesson.url;
  include = lesson.include;
  made = now;
  age = lesson.age;
  allowed = item;
}

-- an entry that is known has the lesson's age, counted from now
abbrev pub renewed : Lesson → ℕ → Allowed → CacheEntry → CacheEntry
renewed lesson now item entry =
    if is_known lesson now item entry then record entry { made = now; age = lesson.age } else entry

-- at most the last 64 of the entries of a key
abbrev pub newest : List CacheEntry → List CacheEntry
newest entries = drop (length entries - 64) entries

-- one method or header name is learnt: all entries that are alive and match are renewed, or else
-- an entry is created
abbrev pub with_item : Lesson → ℕ → List CacheEntry → Allowed → List CacheEntry
with_item lesson now entries item =
    if list_any (is_known lesson now item) entries then map (renewed lesson now item) entries
    else newest (entries ++ created lesson now item ∷ [])

-- the methods and the header names that a lesson teaches
abbrev pub methods_of : Lesson → List Allowed
methods_of lesson = map (λ method. Method method) lesson.methods

abbrev pub names_of : Lesson → List Allowed
names_of lesson = map (λ name. HeaderName name) lesson.names

-- the dead entries go; then each method is learnt in turn, and then each header name
abbrev pub taught : Lesson → ℕ → List CacheEntry → List CacheEntry
taught lesson now entries =
    fold (with_item lesson now) (filter (is_alive now) entries) (methods_of lesson ++ names_of lesson)
