-- One method or header name learnt.
use Rattle.std.proofs.Common.{◌≡◌, ◌++◌, ◌∷◌, [], ℕ, List, Bool, false, cond, map, sym, ap, ◌∙◌, Result, Ok, Err, OnOk}
use Rattle.std.specs.List.{list_any}
use Rattle.value_bytes.specs.declared.memory.OutOfMemory.{OutOfMemory}
use Rattle.book_preflights.specs.declared.entry.Allowed.{Allowed}
use Rattle.book_preflights.specs.declared.lessons.Mark.{Mark}
use Rattle.book_preflights.specs.declared.question.Lesson.{Lesson}
use Rattle.book_preflights.specs.Private.Marks.{created, is_known, newest, renewed, with_item}
use Rattle.book_preflights.proofs.ListLemmas.{unmapped}

module _ (lesson : Lesson) (now : ℕ) (item : Allowed) (old new : List Mark) where
  -- where no entry is known, the renewed marks with the new one after them are those of the definition
  created-last : list_any (is_known lesson now item) old ≡ false → new
      ≡ newest (map (renewed lesson now item) old ++ created lesson now item ∷ []) → new ≡ with_item lesson now old item
  created-last none is =
      let same = unmapped (is_known lesson now item) (λ mark. record mark { made = now; age = lesson.age }) old none
      in
      let choice : (b : Bool) → b ≡ false
      → cond b (map (renewed lesson now item) old) (newest (old ++ created lesson now item ∷ []))
      ≡ newest (old ++ created lesson now item ∷ []) =
      λ b e. ap (λ (b : Bool). cond b (map (renewed lesson now item) old)
      (newest (old ++ created lesson now item ∷ []))) e in
      is ∙ (ap (λ (marks : List Mark). newest (marks ++ created lesson now item ∷ [])) same
      ∙ sym (choice _ none))

  pub learnt-new : (result : Result (Unit {0}) OutOfMemory) → list_any (is_known lesson now item) old ≡ false
      → OnOk result (new ≡ newest (map (renewed lesson now item) old ++ created lesson now item ∷ []))
      → OnOk result (new ≡ with_item lesson now old item)
  learnt-new (Ok done) none is = created-last none is
  learnt-new (Err error) none is = tt
