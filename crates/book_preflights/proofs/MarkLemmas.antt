-- A lesson that is learnt over marks is the lesson learnt over the entries.
use Rattle.std.proofs.Common.{◌≡◌, ◌++◌, ◌-◌, ◌∷◌, [], ℕ, List, Bool, true, false, cond, map, length}
use Rattle.std.proofs.Common.{filter, refl, sym, ap, ◌∙◌, ◌+◌, ◌&&◌, ◌||◌, not, nat_lt, Some, None}
use Rattle.std.proofs.lemmas.Bool.{and_parts}
use Rattle.std.proofs.lemmas.List.{drop-map, length-map, map-append}
use Rattle.std.proofs.lemmas.List.Sums.{fold-append}
use Rattle.std.specs.List.{fold, list_any}
use Rattle.std.specs.Str.{bytes_eq}
use Rattle.value_lemmas.proofs.Bytes.{bytes_eq-self, bytes_eq-true}
use Rattle.book_preflights.specs.declared.entry.Allowed.{Allowed}
use Rattle.book_preflights.specs.declared.entry.CacheEntry.{CacheEntry}
use Rattle.book_preflights.specs.declared.lessons.Mark.{Mark}
use Rattle.book_preflights.specs.declared.lessons.Place.{Place}
use Rattle.book_preflights.specs.declared.question.Lesson.{Lesson}
use Rattle.book_preflights.specs.Entries.{allows, is_alive, is_of}
use Rattle.book_preflights.specs.Private.Marks as marks
use Rattle.book_preflights.specs.Private.Marks.{marked, unmarked}
use Rattle.book_preflights.specs.Teaching.{created, is_known, methods_of, names_of, newest, renewed, taught, with_item}

own-place : (own : Bool) (place : Place) → marks.is_own (cond own None (Some place)) ≡ own
own-place true place = refl
own-place false place = refl

module _ (lesson : Lesson) (now : ℕ) where
  marked-known : (item : Allowed) (entry : CacheEntry) → marks.is_known lesson now item (marked lesson entry)
      ≡ is_known lesson now item entry
  marked-known item entry =
      ap (λ (own : Bool). nat_lt now (entry.made + entry.age) && (own && (not lesson.include || entry.include))
      && allows item entry.allowed)
      (own-place (is_of lesson.origin lesson.url entry) (record { origin = entry.origin; url = entry.url }))

  marked-renewed : (item : Allowed) (entry : CacheEntry) → marks.renewed lesson now item (marked lesson entry)
      ≡ marked lesson (renewed lesson now item entry)
  marked-renewed item entry = rw (marked-known item entry) (by (is_known lesson now item entry))
    where
      by : (known : Bool)
          → cond known (record (marked lesson entry) { made = now; age = lesson.age }) (marked lesson entry)
          ≡ marked lesson (cond known (record entry { made = now; age = lesson.age }) entry)
      by true = refl
      by false = refl

  marked-created : (item : Allowed) → marks.created lesson now item ≡ marked lesson (created lesson now item)
  marked-created item = rw (bytes_eq-self lesson.origin, bytes_eq-self lesson.url) refl

  any-known : (item : Allowed) (entries : List CacheEntry)
      → list_any (marks.is_known lesson now item) (map (marked lesson) entries)
      ≡ list_any (is_known lesson now item) entries
  any-known item [] = refl
  any-known item (entry ∷ entries) = rw (marked-known item entry, any-known item entries) refl

  all-renewed : (item : Allowed) (entries : List CacheEntry)
      → map (marks.renewed lesson now item) (map (marked lesson) entries)
      ≡ map (marked lesson) (map (renewed lesson now item) entries)
  all-renewed item [] = refl
  all-renewed item (entry ∷ entries) = rw (marked-renewed item entry, all-renewed item entries) refl

  all-newest : (entries : List CacheEntry) → marks.newest (map (marked lesson) entries)
      ≡ map (marked lesson) (newest entries)
  all-newest entries = rw (length-map entries (marked lesson)) (drop-map (marked lesson) (length entries - 64) entries)

  item-marked : (entries : List CacheEntry) (item : Allowed)
      → marks.with_item lesson now (map (marked lesson) entries) item
      ≡ map (marked lesson) (with_item lesson now entries item)
  item-marked entries item = rw (any-known item entries) (by (list_any (is_known lesson now item) entries))
    where
      by : (known : Bool) → cond known (map (marks.renewed lesson now item) (map (marked lesson) entries))
          (marks.newest (map (marked lesson) entries ++ marks.created lesson now item ∷ []))
          ≡ map (marked lesson) (cond known (map (renewed lesson now item) entries)
          (newest (entries ++ created lesson now item ∷ [])))
      by true = all-renewed item entries
      by false =
          ap (λ (mark : Mark). marks.newest (map (marked lesson) entries ++ mark ∷ [])) (marked-created item)
          ∙ (ap (λ (l : List Mark). marks.newest l)
          (sym (map-append (marked lesson) entries (created lesson now item ∷ [])))
          ∙ all-newest (entries ++ created lesson now item ∷ []))

  items-marked : (items : List Allowed) (entries : List CacheEntry)
      → fold (marks.with_item lesson now) (map (marked lesson) entries) items
      ≡ map (marked lesson) (fold (with_item lesson now) entries items)
  items-marked [] entries = refl
  items-marked (item ∷ items) entries =
      ap (λ (l : List Mark). fold (marks.with_item lesson now) l items) (item-marked entries item)
      ∙ items-marked items (with_item lesson now entries item)

-- a place that is not told is the lesson's
own-same : (lesson : Lesson) (entry : CacheEntry) → is_of lesson.origin lesson.url entry ≡ true
    → (entry.origin ≡ lesson.origin) × (entry.url ≡ lesson.url)
own-same lesson entry is =
    let both = and_parts (bytes_eq entry.origin lesson.origin) (bytes_eq entry.url lesson.url) is in
    (bytes_eq-true entry.origin lesson.origin both.0, bytes_eq-true entry.url lesson.url both.1)

place-back : (lesson : Lesson) (own : Bool) (origin url : List ℕ)
    → (own ≡ true → (origin ≡ lesson.origin) × (url ≡ lesson.url))
    → marks.own_place lesson (cond own None (Some (record { origin = origin; url = url })))
    ≡ record { origin = origin; url = url }
place-back lesson true origin url same =
    let is = same refl in (λ k. record { origin = (sym is.0) k; url = (sym is.1) k })
place-back lesson false origin url same = refl

unmarked-marked : (lesson : Lesson) (entry : CacheEntry) → unmarked lesson (marked lesson entry) ≡ entry
unmarked-marked lesson entry =
    let with_place : Place → CacheEntry = λ place. record entry { origin = place.origin; url = place.url } in
    let is = own-same lesson entry in
    ap with_place (place-back lesson (is_of lesson.origin lesson.url entry) entry.origin entry.url is)

pub all-unmarked : (lesson : Lesson) (entries : List CacheEntry) → map (unmarked lesson) (map (marked lesson) entries)
    ≡ entries
all-unmarked lesson [] = refl
all-unmarked lesson (entry ∷ entries) = rw (unmarked-marked lesson entry, all-unmarked lesson entries) refl

-- a lesson learnt over marks
pub taught-marked : (lesson : Lesson) (now : ℕ) (entries : List CacheEntry)
    → map (unmarked lesson) (fold (marks.with_item lesson now) (fold (marks.with_item lesson now)
    (map (marked lesson) (filter (is_alive now) entries)) (methods_of lesson)) (names_of lesson))
    ≡ taught lesson now entries
taught-marked lesson now entries =
    let alive : List CacheEntry = filter (is_alive now) entries in
    let mid : List CacheEntry = fold (with_item lesson now) alive (methods_of lesson) in
    rw (items-marked lesson now (methods_of lesson) alive, items-marked lesson now (names_of lesson) mid)
    (all-unmarked lesson (fold (with_item lesson now) mid (names_of lesson))
    ∙ sym (fold-append (with_item lesson now) alive (methods_of lesson) (names_of lesson)))
