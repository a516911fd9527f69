use Rattle.std.proofs.Common.{◌++◌, ◌∙◌, ap, List, ℕ}
use Rattle.value_text.specs.Trims.{http_whitespace, trimmed}
use Rattle.script_filling.specs.Filling.{cut_value}
use Rattle.script_filling.specs.Private.Squeezes.{squeezed}
use Rattle.script_filling.proofs.SqueezeLemmas.{squeezed-same}
use Rattle.script_filling.proofs.kept.kept.Goals as goal

pub returns : goal.returns
returns c = λ more.
    ap (λ (l : List ℕ). cut_value (trimmed http_whitespace (l ++ more)))
    (c.in_ok-made.ensures ∙ ap squeezed c.as_slice.ensures.value)
    ∙ squeezed-same c.args.text.items more
