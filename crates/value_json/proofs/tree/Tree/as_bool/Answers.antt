use Rattle.std.proofs.Common.{List, ap, ◌∙◌}
use Rattle.json.specs.Token.{Token}
use Rattle.serde_json.specs.Find.{as_bool}
use Rattle.value_json.specs.Trees.{data_of}
use Rattle.value_json.proofs.FindLemmas.{bool-of}
use Rattle.value_json.proofs.tree.Tree.as_bool.Goals as goal

pub returns : goal.returns
returns c =
    let tree = c.self.invariant in
    c.as_bool.ensures tree.0 tree.2 ∙ bool-of c.self.inside.element tree
    ∙ ap (λ (tokens : List Token). as_bool (data_of tokens)) c.self.view_is
