use Rattle.std.proofs.Common.{List, Option, Some, None, ap, ◌∙◌, subst}
use Rattle.json.specs.Token.{Token}
use Rattle.serde_json.specs.Data.{Items}
use Rattle.serde_json.specs.Find.{as_array}
use Rattle.value_json.specs.Trees.{data_of, trees_of}
use Rattle.value_json.proofs.ItemLemmas.{IsWrittenList, list-tree}
use Rattle.value_json.proofs.tree.Tree.items.Goals as goal

pub of-requires : goal.of-requires
of-requires c =
    let tree = c.self.invariant in
    (list-tree c.self.inside.element tree (Some c.in-Some.items)
    (subst (IsWrittenList tree.0) c.in-Some.is (c.items.ensures tree.0 tree.2))).0

pub returns-in-Some : goal.returns-in-Some
returns-in-Some c =
    let tree = c.self.invariant in
    ap (λ (rest : List Token). let o : Option Items = Some (trees_of rest) in o) c.of.ensures
    ∙ (list-tree c.self.inside.element tree (Some c.in-Some.items)
    (subst (IsWrittenList tree.0) c.in-Some.is (c.items.ensures tree.0 tree.2))).1
    ∙ ap (λ (tokens : List Token). as_array (data_of tokens)) c.self.view_is

pub returns-in-None : goal.returns-in-None
returns-in-None c =
    let tree = c.self.invariant in
    list-tree c.self.inside.element tree None
    (subst (IsWrittenList tree.0) c.in-None.is (c.items.ensures tree.0 tree.2))
    ∙ ap (λ (tokens : List Token). as_array (data_of tokens)) c.self.view_is
