use Rattle.std.proofs.Common.{◌∙◌, ap}
use Rattle.value_requests.proofs.SetLemmas.{has-found}
use Rattle.value_requests.specs.TextSets.{has_text}
use Rattle.value_requests.proofs.text_set.TextSet.has.Goals as goal

pub returns : goal.returns
returns c =
    c.contains.ensures ∙ (has-found (λ text. text.items) c.args.text.now c.self.inside.texts.keys
    ∙ ap (λ texts. has_text texts c.args.text.now) c.self.view_is)
