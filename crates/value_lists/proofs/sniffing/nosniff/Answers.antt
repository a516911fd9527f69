use Rattle.std.proofs.Common.{◌∙◌, sym, add-one}
use Rattle.value_lists.proofs.NosniffLemmas.{nosniff-found, nosniff-skipped}
use Rattle.value_lists.proofs.sniffing.nosniff.Goals as goal

pub returns-then-eq_fold : goal.returns-then-eq_fold
returns-then-eq_fold c =
    let named = sym c.eq_fold.ensures ∙ c.if-eq_fold.true in
    c.begins_with_nosniff.ensures
    ∙ sym (c.loop-index.invariant
    ∙ nosniff-found c.args.headers.now c.loop-index.index c.name_at.result.now c.value_at.result.now
    c.name_at.ensures c.value_at.ensures named)

pub loop-index-preserved : goal.loop-index-preserved
loop-index-preserved c =
    let other = sym c.eq_fold.ensures ∙ c.if-eq_fold.false in
    rw add-one (c.loop-index.invariant
    ∙ nosniff-skipped c.args.headers.now c.loop-index.index c.name_at.result.now c.name_at.ensures other)
