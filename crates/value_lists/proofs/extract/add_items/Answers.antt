use Rattle.std.proofs.Common.{ap, sym, ◌≡◌, ◌∙◌, ◌++◌, ◌∷◌, [], filter}
use Rattle.value_text.specs.Trims.{tab_or_space, trimmed}
use Rattle.value_lists.specs.Extract.{items}
use Rattle.value_text.specs.Words.{is_filled}
use Rattle.value_lists.proofs.ExtractLemmas.{items-cut, items-whole, listed-more}
use Rattle.value_lists.proofs.extract.add_items.Goals as goal

pub loop-comma-preserved : goal.loop-comma-preserved
loop-comma-preserved c =
    let cut = items-cut c.loop-comma.rest.now c.in-Some.comma (sym c.in-Some.ensures) in
    rw (
      c.split_at-in-Some.ensures.back,
      c.split_at.ensures.back,
    )
    (listed-more _ _ _ _ _ _ c.loop-comma.invariant cut (rw c.split_at.ensures.front at c.in_ok-add_item.ensures))

pub returns : goal.returns
returns c =
    let whole : c.loop-comma.list ++ filter is_filled (trimmed tab_or_space c.loop-comma.rest.now ∷ [])
    ≡ c.args.list.now ++ items c.args.value.now
    = ap (λ l. c.loop-comma.list ++ l) (sym (items-whole c.loop-comma.rest.now (sym c.in_default.ensures)))
    ∙ c.loop-comma.invariant in
    rw (← whole) c.add_item-2.ensures
