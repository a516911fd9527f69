use Rattle.std.proofs.Common.{◌≡◌, drop, map}
use Rattle.std.specs.List.{fold}
use Rattle.book_preflights.specs.Private.Marks.{with_item}
use Rattle.book_preflights.specs.Teaching.{methods_of}
use Rattle.book_preflights.specs.declared.entry.Allowed.TheVariants.{Method}
use Rattle.book_preflights.proofs.lessons.Learning.teach_methods.Given as goal

abbrev pub invariant-loop-index : goal.invariant-loop-index
invariant-loop-index l =
    fold (with_item l.lesson l.now) l.initial.self (methods_of l.lesson)
    ≡ fold (with_item l.lesson l.now) l.self (map (λ item. Method item) (drop l.index l.lesson.methods))
