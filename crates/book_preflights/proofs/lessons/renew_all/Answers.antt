use Rattle.book_preflights.specs.Private.Marks.{is_known, renewed}
use Rattle.book_preflights.proofs.ListLemmas.{changed-more, passed-more}
use Rattle.book_preflights.proofs.lessons.renew_all.Goals as goal

pub loop-mark-preserved : goal.loop-mark-preserved
loop-mark-preserved c =
    let known = is_known c.args.lesson.now c.args.now c.args.item.now in
    let renew = renewed c.args.lesson.now c.args.now c.args.item.now in
    let so_far = c.loop-mark.invariant in
    record {
      any = passed-more known renew c.args.marks.now c.loop-mark.marks c.loop-mark.mark-index
          c.mark-item.result c.loop-mark.found c.renew_one-known.result c.loop-mark-test.true so_far.all so_far.any
          c.renew_one-known.ensures.known;
      all = changed-more known renew c.args.marks.now c.loop-mark.marks c.loop-mark.mark-index
          c.mark-item.result c.renew_one-known.new.mark c.loop-mark-test.true so_far.all
          c.renew_one-known.ensures.mark;
    }
