use Rattle.book_preflights.specs.Private.Marks.{with_item}
use Rattle.book_preflights.specs.declared.entry.Allowed.TheVariants.{HeaderName}
use Rattle.book_preflights.proofs.ListLemmas.{folded-from}
use Rattle.book_preflights.proofs.lessons.Learning.teach_names.Goals as goal

pub loop-index-preserved : goal.loop-index-preserved
loop-index-preserved c =
    folded-from (with_item c.args.lesson.now c.args.now) (λ item. HeaderName item) c.args.lesson.now.names
    c.loop-index.index c.at.result.now c.in_ok-name.name c.loop-index.self c.teach.new.self _ c.at.ensures
    c.in_ok-name.ensures c.in_ok-teach.ensures c.loop-index.invariant
