use Rattle.std.proofs.Common.{◌∙◌, sym}
use Rattle.book_preflights.specs.Keys as keys
use Rattle.book_text.specs.Reading.{entry_at, why_no_entry}
use Rattle.book_text.proofs.LineLemmas.{line-failed, line-read}
use Rattle.book_text.proofs.read.entries_from.Goals as goal

pub returns-in-Err : goal.returns-in-Err
returns-in-Err c =
    line-failed entry_at keys.may_stand_last why_no_entry c.args.line c.args.count c.loop-index.index
    c.loop-index.cache c.loop-index.rest.now c.in-Err.error _ c.loop-index-test.true c.loop-index.invariant
    c.in-Err.ensures

pub loop-index-preserved : goal.loop-index-preserved
loop-index-preserved c =
    sym (line-read entry_at keys.may_stand_last why_no_entry c.args.line c.args.count c.loop-index.index
    c.loop-index.cache c.loop-index.rest.now c.next_entry.new.cache c.in-Ok.after.now c.loop-index-test.true
    c.in-Ok.ensures)
    ∙ c.loop-index.invariant
