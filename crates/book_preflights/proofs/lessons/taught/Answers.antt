use Rattle.std.proofs.Common.{arith, refl, not, ◌≡◌, ◌≤◌, List, length, map, filter, ap, ◌∙◌}
use Rattle.std.proofs.lemmas.List.{length-map}
use Rattle.std.proofs.lemmas.List.Filters.{length-filter_both}
use Rattle.book_preflights.specs.Entries.{is_alive}
use Rattle.std.specs.List.{fold}
use Rattle.book_preflights.specs.declared.lessons.Mark.{Mark}
use Rattle.book_preflights.specs.Private.Marks.{marked, unmarked, with_item}
use Rattle.book_preflights.specs.Teaching.{methods_of, names_of, taught}
use Rattle.book_preflights.proofs.MarkLemmas.{taught-marked}
use Rattle.book_preflights.proofs.lessons.taught.Goals as goal

pub invariant_of-learning : goal.invariant_of-learning
invariant_of-learning c =
    let alive = is_alive c.args.now in
    let both = length-filter_both alive (λ entry. not (alive entry)) (λ _. refl) c.args.entries.now in
    let most : length (filter alive c.args.entries.now) ≤ 64 = omega (arith, both, c.requires) in
    rw (c.in_ok-marks.ensures, length-map (filter alive c.args.entries.now) (marked c.args.lesson.now)) most

pub returns-clause-taught : goal.returns-clause-taught
returns-clause-taught c =
    let lesson = c.args.lesson.now in
    let step = with_item lesson c.args.now in
    let alive : List Mark = map (marked lesson) (filter (is_alive c.args.now) c.args.entries.now) in
    let marks : c.in_ok-marks.marks.items ≡ alive = c.in_ok-marks.ensures in
    let methods : c.teach_methods.new.self ≡ fold step c.in_ok-marks.marks.items (methods_of lesson) =
    c.in_ok-teach_methods.ensures in
    let names : c.teach_names.new.self ≡ fold step c.teach_methods.new.self (names_of lesson) =
    c.in_ok-teach_names.ensures in
    let learnt : c.learning-2.inside.marks.items ≡ fold step (fold step alive (methods_of lesson)) (names_of lesson) =
    c.learning-2.view_is
    ∙ (names
    ∙ ap (λ (l : List Mark). fold step l (names_of lesson))
    (methods ∙ ap (λ (l : List Mark). fold step l (methods_of lesson)) marks)) in
    let whole : map (unmarked lesson) c.learning-2.inside.marks.items ≡ taught lesson c.args.now c.args.entries.now =
    ap (λ (l : List Mark). map (unmarked lesson) l) learnt ∙ taught-marked lesson c.args.now c.args.entries.now in
    rw whole at c.all_unmarked.ensures
