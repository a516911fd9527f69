use Rattle.std.proofs.Common.{◌≡◌, ℕ, List, ◌++◌, codes, ap, ◌∙◌}
use Rattle.std.proofs.Common.{drop, arith}
use Rattle.std.proofs.lemmas.List.{drop_all}
use Rattle.script_lines.specs.Calls as spec
use Rattle.script_lines.specs.Kept.{Kept, told}
use Rattle.script_lines.proofs.ItemLemmas.{texts_from}
use Rattle.script_lines.proofs.KeptLemmas.{all_told, one_told, told_both}
use Rattle.script_lines.proofs.calls.tell_comma_texts.Goals as goal

-- two pieces that are told are one
two-told : (kept mid new : Kept) (comma item : List ℕ) → mid ≡ told kept comma → new ≡ told mid item
    → new ≡ told kept (comma ++ item)
two-told kept mid new comma item first second =
    second ∙ ap (λ (k : Kept). told k item) first ∙ told_both kept comma item

pub loop-index-preserved : goal.loop-index-preserved
loop-index-preserved g c =
    one_told _ _ _ _ (codes "," ++ c.at.result.now) _ c.loop-index.invariant
    (texts_from (λ (text : List ℕ). codes "," ++ text) c.args.texts.now c.loop-index.index c.at.result.now c.at.ensures)
    (two-told _ _ _ (codes ",") c.at.result.now c.in_ok-text.ensures c.in_ok-text-2.ensures)

pub returns : goal.returns
returns g c =
    all_told _ _ (spec.comma_texts (drop c.loop-index.index c.args.texts.now)) c.loop-index.invariant
    (ap spec.comma_texts (drop_all c.loop-index.index c.args.texts.now
    (omega (arith, c.loop-index-test.false, c.len-index-end.ensures))))
