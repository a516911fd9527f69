use Rattle.std.proofs.Common.{◌≡◌, ℕ, List, Bor, map, Option, Some, None, ap, ◌∙◌, subst}
use Rattle.std.specs.Prelude.{MatchOption}
use Rattle.json.specs.Token.{Token}
use Rattle.json.specs.Json as json
use Rattle.json.specs.Find.{InMembers}
use Rattle.json.specs.Find as written
use Rattle.serde_json.specs.Find.{as_object}
use Rattle.value_json.specs.Keys.{has_keys}
use Rattle.value_json.specs.Trees.{data_of}
use Rattle.value_json.proofs.ItemLemmas.{keys-of, no-keys-of}
use Rattle.value_json.proofs.tree.Tree.has_only_keys.Goals as goal

abbrev IsWrittenObject : json.Json → Option (List Token) → Type 0
IsWrittenObject j r = MatchOption r (written.as_object j ≡ None)
    (λ rest. (ms : json.Members) × (j ≡ json.object ms) × InMembers rest ms)

pub returns-in-Some : goal.returns-in-Some
returns-in-Some c =
    let tree = c.self.invariant in
    let names : List (List ℕ) = map (λ (name : Bor (List ℕ)). name.now) c.args.names.now in
    let object : IsWrittenObject tree.0 (Some c.in-Some.members) =
    subst (IsWrittenObject tree.0) c.in-Some.is (c.members.ensures tree.0 tree.2) in
    c.are_known.ensures object.0 object.2 ∙ keys-of names c.self.inside.element tree object.0 object.1
    ∙ ap (λ (tokens : List Token). has_keys names (as_object (data_of tokens))) c.self.view_is

pub returns-in-None : goal.returns-in-None
returns-in-None c =
    let tree = c.self.invariant in
    let names : List (List ℕ) = map (λ (name : Bor (List ℕ)). name.now) c.args.names.now in
    let object : IsWrittenObject tree.0 None =
    subst (IsWrittenObject tree.0) c.in-None.is (c.members.ensures tree.0 tree.2) in
    no-keys-of names c.self.inside.element tree object
    ∙ ap (λ (tokens : List Token). has_keys names (as_object (data_of tokens))) c.self.view_is
