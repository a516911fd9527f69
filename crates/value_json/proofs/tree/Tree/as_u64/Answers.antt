use Rattle.std.proofs.Common.{List, ℕ, Option, option_map, sym, ap, ◌∙◌, Bor}
use Rattle.std.specs.Prelude.{option_and_then}
use Rattle.json.specs.Token.{Token}
use Rattle.serde_json.specs.Find.{as_u64, as_number}
use Rattle.serde_json.specs.Read.{number_of}
use Rattle.value_json.specs.Trees.{data_of}
use Rattle.value_json.proofs.FindLemmas.{number-of}
use Rattle.value_json.proofs.tree.Tree.as_u64.Goals as goal

abbrev texts : Option (Bor (List ℕ)) → Option (List ℕ)
texts o = option_map (λ (s : Bor (List ℕ)). s.now) o

abbrev whole_of : Option (List ℕ) → Option ℕ
whole_of text = option_and_then as_u64 (option_and_then number_of text)

pub returns-in-Some : goal.returns-in-Some
returns-in-Some c =
    let tree = c.self.invariant in
    c.whole.ensures
    ∙ ap whole_of (ap texts (sym c.in-Some.is) ∙ c.as_number.ensures tree.0 tree.2)
    ∙ ap (option_and_then as_u64) (number-of c.self.inside.element tree)
    ∙ ap (λ (tokens : List Token). option_and_then as_u64 (as_number (data_of tokens))) c.self.view_is

pub returns-in-None : goal.returns-in-None
returns-in-None c =
    let tree = c.self.invariant in
    ap whole_of (ap texts (sym c.in-None.is) ∙ c.as_number.ensures tree.0 tree.2)
    ∙ ap (option_and_then as_u64) (number-of c.self.inside.element tree)
    ∙ ap (λ (tokens : List Token). option_and_then as_u64 (as_number (data_of tokens))) c.self.view_is
