use Rattle.std.proofs.Common.{◌≡◌, ◌++◌, map, take, drop}
use Rattle.std.specs.List.{list_any}
use Rattle.book_preflights.specs.Private.Marks.{is_known, renewed}
use Rattle.book_preflights.proofs.lessons.renew_all.Given as goal

abbrev pub invariant-loop-mark : goal.invariant-loop-mark
invariant-loop-mark l = record {
  any : l.found ≡ list_any (is_known l.lesson l.now l.item) (take l.mark-index l.initial.marks);
  all : l.marks ≡ map (renewed l.lesson l.now l.item) (take l.mark-index l.initial.marks)
      ++ drop l.mark-index l.initial.marks;
}
