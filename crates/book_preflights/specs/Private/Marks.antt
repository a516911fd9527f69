-- How a lesson is learnt: an entry's origin and URL are told only where they are not the lesson's.
use Rattle.std.specs.Prelude.{ℕ, Bool, ◌+◌, ◌-◌, ◌&&◌, ◌||◌, not, nat_lt, true, false, List, [], ◌∷◌, ◌++◌}
use Rattle.std.specs.Prelude.{length, drop, map, Option, Some, None, if◌then◌else◌}
use Rattle.std.specs.List.{list_any}
use Rattle.book_preflights.specs.declared.entry.Allowed.{Allowed}
use Rattle.book_preflights.specs.declared.entry.CacheEntry.{CacheEntry}
use Rattle.book_preflights.specs.declared.lessons.Mark.{Mark}
use Rattle.book_preflights.specs.declared.lessons.Place.{Place}
use Rattle.book_preflights.specs.declared.question.Lesson.{Lesson}
use Rattle.book_preflights.specs.Entries.{allows, is_of}

-- an entry's place, where it is not the lesson's
abbrev pub place_of : Lesson → CacheEntry → Option Place
place_of lesson entry =
    if is_of lesson.origin lesson.url entry then None else Some (record { origin = entry.origin; url = entry.url })

abbrev pub marked : Lesson → CacheEntry → Mark
marked lesson entry = record {
  place = place_of lesson entry;
  include = entry.include;
  made = entry.made;
  age = entry.age;
  allowed = entry.allowed;
}

-- the place that is told, or else the lesson's
abbrev pub own_place : Lesson → Option Place → Place
own_place lesson None = record { origin = lesson.origin; url = lesson.url }
own_place lesson (Some place) = place

abbrev pub unmarked : Lesson → Mark → CacheEntry
unmarked lesson mark = record {
  origin = (own_place lesson mark.place).origin;
  url = (own_place lesson mark.place).url;
  include = mark.include;
  made = mark.made;
  age = mark.age;
  allowed = mark.allowed;
}

-- no place is told, so it is the lesson's
abbrev pub is_own : Option Place → Bool
is_own None = true
is_own (Some place) = false

-- the entry is alive and matches this method or header name of the lesson
abbrev pub is_known : Lesson → ℕ → Allowed → Mark → Bool
is_known lesson now item mark =
    nat_lt now (mark.made + mark.age) && (is_own mark.place && (not lesson.include || mark.include))
    && allows item mark.allowed

-- a new entry
abbrev pub created : Lesson → ℕ → Allowed → Mark
created lesson now item = record {
  place = None;
  include = lesson.include;
  made = now;
  age = lesson.age;
  allowed = item;
}

-- an entry that is known has the lesson's age, counted from now
abbrev pub renewed : Lesson → ℕ → Allowed → Mark → Mark
renewed lesson now item mark =
    if is_known lesson now item mark then record mark { made = now; age = lesson.age } else mark

-- at most the last 64
abbrev pub newest : List Mark → List Mark
newest marks = drop (length marks - 64) marks

-- one method or header name is learnt
abbrev pub with_item : Lesson → ℕ → List Mark → Allowed → List Mark
with_item lesson now marks item =
    if list_any (is_known lesson now item) marks then map (renewed lesson now item) marks
    else newest (marks ++ created lesson now item ∷ [])
