use Rattle.std.proofs.Common.{◌≡◌, List, Option, Some, None, sym, ap, ◌∙◌, subst}
use Rattle.std.specs.Prelude.{MatchOption, IfNone}
use Rattle.json.specs.Token.{Token}
use Rattle.json.specs.Find.{NextItem}
use Rattle.serde_json.specs.Data.{no_items, item}
use Rattle.value_json.specs.Trees.{data_of, trees_of}
use Rattle.value_json.specs.Private.Trees.{AreTrees}
use Rattle.value_json.proofs.ItemLemmas.{next-tree}
use Rattle.value_json.proofs.items.Trees.next.Goals.{in-Some, in-None}
use Rattle.value_json.proofs.items.Trees.next.Goals as goal

pub of-requires : goal.of-requires
of-requires c =
    let old = c.self.inside.items in
    (next-tree old c.next.new.self c.self.invariant (Some c.in-Some.element)
    (subst (λ (r : Option (List Token)). NextItem old r c.next.new.self) c.in-Some.is c.next.ensures.value)).0

pub invariant_of-self : goal.invariant_of-self
invariant_of-self c =
    let old = c.self.inside.items in
    elim c.match-next.branch [
      | in-Some w ↦ (next-tree old c.next.new.self c.self.invariant (Some w.in-Some.element)
          (subst (λ (r : Option (List Token)). NextItem old r c.next.new.self) w.in-Some.is c.next.ensures.value)).1
      | in-None w ↦ subst AreTrees
          (sym (subst (λ (r : Option (List Token)). IfNone r
          (c.next.new.self ≡ old)) w.in-None.is c.next.ensures.stays))
          c.self.invariant
    ]

pub returns-clause-value : goal.returns-clause-value
returns-clause-value c =
    let old = c.self.inside.items in
    let new = c.next.new.self in
    subst (λ (tokens : List Token). MatchOption c.match-next.result (trees_of tokens ≡ no_items)
    (λ tree. trees_of tokens ≡ item (data_of tree) (trees_of new))) c.self.view_is
    (elim c.match-next.branch [
      | in-Some w ↦
          let next = next-tree old new c.self.invariant (Some w.in-Some.element)
          (subst (λ (r : Option (List Token)). NextItem old r new) w.in-Some.is c.next.ensures.value) in
          subst (λ (r : Option (List Token)). MatchOption r (trees_of old ≡ no_items)
          (λ tree. trees_of old ≡ item (data_of tree) (trees_of new))) (sym w.result-is)
          (next.2 ∙ ap (λ (tree : List Token). item (data_of tree) (trees_of new)) (sym w.of.ensures))
      | in-None w ↦
          subst (λ (r : Option (List Token)). MatchOption r (trees_of old ≡ no_items)
          (λ tree. trees_of old ≡ item (data_of tree) (trees_of new))) (sym w.result-is)
          (next-tree old new c.self.invariant None
          (subst (λ (r : Option (List Token)). NextItem old r new) w.in-None.is c.next.ensures.value))
    ])
