-- The CORS-preflight cache: what it covers, and what it becomes (Fetch, "CORS-preflight cache").
use Rattle.std.specs.Prelude.{ℕ, Bool, ◌&&◌, not, List, filter}
use Rattle.std.specs.Str.{bytes_eq}
use Rattle.value_text.specs.Texts.{Text}
use Rattle.book_preflights.specs.declared.question.Question.{Question}
use Rattle.book_preflights.specs.declared.question.Lesson.{Lesson}
use Rattle.book_preflights.specs.Entries.{covered, is_of}
use Rattle.book_preflights.specs.Keys.{Keyed, entries_of, with_entries}
use Rattle.book_preflights.specs.Teaching.{taught}

-- the method, if given, and every header name are matched by an entry of the key that is alive
abbrev pub covers : Question → ℕ → List Keyed → Bool
covers question now cache = covered question now (entries_of question.key cache)

-- the list after a lesson: the entries of its key are taught, and all others stay
abbrev pub learned : Lesson → ℕ → List Keyed → List Keyed
learned lesson now cache = with_entries lesson.key (taught lesson now (entries_of lesson.key cache)) cache

-- "clear cache entries" of a key, an origin and a URL
abbrev pub cleared : Text → Text → Text → List Keyed → List Keyed
cleared key origin url cache = filter (λ k. not (bytes_eq k.key key && is_of origin url k.entry)) cache
