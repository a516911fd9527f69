use Rattle.std.proofs.Common.{List, Option, Some, None, ap, ◌∙◌, subst}
use Rattle.json.specs.Find.{Finds}
use Rattle.json.specs.Find as written
use Rattle.json.specs.Token.{Token}
use Rattle.serde_json.specs.Find.{get}
use Rattle.value_json.specs.Trees.{data_of}
use Rattle.value_json.proofs.FindLemmas.{found-tree}
use Rattle.value_json.proofs.tree.Tree.get.Goals as goal

pub invariant_of-result : goal.invariant_of-result
invariant_of-result c =
    let tree = c.self.invariant in
    let name = c.args.name.now in
    (found-tree name c.self.inside.element tree (Some c.in-Some.element)
    (subst (λ (r : Option (List Token)). Finds r (written.get name tree.0)) c.in-Some.is
    (c.get.ensures tree.0 tree.2))).0

pub returns-in-Some : goal.returns-in-Some
returns-in-Some c =
    let tree = c.self.invariant in
    let name = c.args.name.now in
    (found-tree name c.self.inside.element tree (Some c.in-Some.element)
    (subst (λ (r : Option (List Token)). Finds r (written.get name tree.0)) c.in-Some.is
    (c.get.ensures tree.0 tree.2))).1
    ∙ ap (λ (tokens : List Token). get name (data_of tokens)) c.self.view_is

pub returns-in-None : goal.returns-in-None
returns-in-None c =
    let tree = c.self.invariant in
    let name = c.args.name.now in
    found-tree name c.self.inside.element tree None
    (subst (λ (r : Option (List Token)). Finds r (written.get name tree.0)) c.in-None.is (c.get.ensures tree.0 tree.2))
    ∙ ap (λ (tokens : List Token). get name (data_of tokens)) c.self.view_is
