use Rattle.std.proofs.Common.{arith}
use Rattle.value_lemmas.proofs.Lists.{list_all-drop}
use Rattle.book_preflights.specs.Entries.{has_match}
use Rattle.book_preflights.specs.declared.entry.Allowed.TheVariants.{HeaderName}
use Rattle.book_preflights.proofs.partition.covers_names.Goals as goal

pub returns-then-not-has_name : goal.returns-then-not-has_name
returns-then-not-has_name c =
    let step = list_all-drop (λ name. has_match c.args.question.now c.args.now c.args.entries.now (HeaderName name))
    c.args.question.now.names c.loop-index.index c.at.result.now c.at.ensures in
    grind (arith, step, c.loop-index.invariant, c.has_name.ensures, c.if-not-has_name.true)

pub loop-index-preserved : goal.loop-index-preserved
loop-index-preserved c =
    let step = list_all-drop (λ name. has_match c.args.question.now c.args.now c.args.entries.now (HeaderName name))
    c.args.question.now.names c.loop-index.index c.at.result.now c.at.ensures in
    grind (arith, step, c.loop-index.invariant, c.has_name.ensures, c.if-not-has_name.false)
