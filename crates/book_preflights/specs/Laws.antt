-- What every cache is, and what a change of one key's entries is to the entries of any key.
use Rattle.std.specs.Prelude.{◌≡◌, ℕ, not, List, [], filter, if◌then◌else◌}
use Rattle.std.specs.Str.{bytes_eq}
use Rattle.value_text.specs.Texts.{Text}
use Rattle.book_preflights.specs.declared.question.Lesson.{Lesson}
use Rattle.book_preflights.specs.Cache.{cleared, learned}
use Rattle.book_preflights.specs.Entries.{is_of}
use Rattle.book_preflights.specs.Keys.{IsCache, Keyed, entries_of}
use Rattle.book_preflights.specs.Teaching.{taught}

-- a lesson teaches the entries of its own key, and leaves those of every other key
abbrev pub LessonsKeepOtherKeys : Type 0
LessonsKeepOtherKeys = (key : Text) (lesson : Lesson) (now : ℕ) (cache : List Keyed)
    → entries_of key (learned lesson now cache)
    ≡ (if bytes_eq lesson.key key then taught lesson now (entries_of lesson.key cache) else entries_of key cache)

-- clearing takes entries out of its own key, and leaves those of every other key
abbrev pub ClearsKeepOtherKeys : Type 0
ClearsKeepOtherKeys = (key other origin url : Text) (cache : List Keyed)
    → entries_of key (cleared other origin url cache)
    ≡ (if bytes_eq other key then filter (λ entry. not (is_of origin url entry)) (entries_of key cache)
    else entries_of key cache)

-- the empty list is a cache, and so is what a lesson or a clear makes of one
pub record ChangesKeepCaches : Type 0 where
  pub new : IsCache []
  pub learned_is : (lesson : Lesson) (now : ℕ) (cache : List Keyed) → IsCache cache → IsCache (learned lesson now cache)
  pub cleared_is : (key origin url : Text) (cache : List Keyed) → IsCache cache
      → IsCache (cleared key origin url cache)
