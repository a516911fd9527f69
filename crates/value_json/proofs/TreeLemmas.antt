-- What the tokens of a value mean.
use Rattle.std.proofs.Common.{◌≡◌, ◌≤◌, List, ◌∷◌, ◌++◌, length, Option, Some, None, refl, sym, ap, ◌∙◌, subst}
use Rattle.std.proofs.Common.{arith, length-append, append_assoc}
use Rattle.std.specs.Prelude.{option_map, option_and_then}
use Rattle.json.specs.Token.{Token}
use Rattle.json.specs.Json as json
use Rattle.json.specs.Tree as written
use Rattle.json.specs.Find.{BeginsWith, InItems}
use Rattle.json.proofs.Found.{Some_inj, not_found, items_close, items_go_on}
use Rattle.json.proofs.Grammar.{closed_array}
use Rattle.json.proofs.Printed.Trees.{value-json_tokens}
use Rattle.json.proofs.Unique.Spelling.{value-json_tokens_back}
use Rattle.serde_json.specs.Data.{Data, array, Items}
use Rattle.serde_json.specs.Find.{as_array}
use Rattle.serde_json.specs.Read.{of_json, of_items}
use Rattle.value_json.specs.Trees.{or_null, data_of, or_no_items, trees_of}

-- ---- a value nests no deeper than it has tokens

mutual
  depth-tokens : (j : json.Json) → written.depth j ≤ length (written.json_tokens j)
  depth-tokens json.null = omega arith
  depth-tokens (json.boolean b) = omega arith
  depth-tokens (json.number s) = omega arith
  depth-tokens (json.string s) = omega arith
  depth-tokens (json.array js) = omega (arith, items_depth-tokens js)
  depth-tokens (json.object ms) = omega (arith, members_depth-tokens ms)

  items_depth-tokens : (js : json.Items) → written.items_depth js ≤ length (written.items_tokens js)
  items_depth-tokens json.no_items = omega arith
  items_depth-tokens (json.item j js) =
      omega (
        arith,
        depth-tokens j,
        items_depth-tokens js,
        length-append (written.json_tokens j)
            (written.items_tokens js),
      )

  members_depth-tokens : (ms : json.Members) → written.members_depth ms ≤ length (written.members_tokens ms)
  members_depth-tokens json.no_members = omega arith
  members_depth-tokens (json.member k j ms) =
      omega (
        arith,
        depth-tokens j,
        members_depth-tokens ms,
        length-append (written.json_tokens j)
            (written.members_tokens ms),
      )

-- ---- the meaning of a value

abbrev value_of : Option (json.Json × List Token) → Data
value_of read = or_null (option_and_then (λ (r : json.Json × List Token). of_json r.0) read)

-- the tokens mean what the value means that they begin with
pub data-of : (tokens : List Token) (j : json.Json) (d : Data) → BeginsWith tokens j → of_json j ≡ Some d
    → data_of tokens ≡ d
unfolding data_of
data-of tokens j d begins means =
    let spelt : tokens ≡ written.json_tokens j ++ begins.1 =
    value-json_tokens_back begins.0 tokens begins.1 j begins.2 in
    let deep : written.depth j ≤ length tokens =
    omega (arith, depth-tokens j, length-append (written.json_tokens j) begins.1, ap length spelt) in
    let read : json.value (length tokens) tokens ≡ Some (j, begins.1) =
    ap (json.value (length tokens)) spelt ∙ value-json_tokens j (length tokens) begins.1 deep in
    ap value_of read ∙ ap or_null means

-- ---- items

abbrev AreSpelt : json.Items → List Token → Type 0
AreSpelt js tokens = (rest : List Token) × (tokens ≡ written.items_tokens js ++ rest)

-- items that are read are spelt
items-spelt : (js : json.Items) (tokens : List Token) → InItems tokens js → (o : Option (List Token))
    → json.after_end_array tokens ≡ o → AreSpelt js tokens
items-spelt js tokens is (Some r) e =
    let ends = closed_array tokens r e in
    let none = items_close r js (subst (λ (l : List Token). InItems l js) ends is) in
    (r, ends ∙ ap (λ (t : json.Items). written.items_tokens t ++ r) (sym none))
items-spelt json.no_items tokens is None e =
    let first = items_go_on tokens json.no_items e is in
    let never : ⊥ = cc first.5 in absurd never
items-spelt (json.item j js) tokens is None e =
    let first = items_go_on tokens (json.item j js) e is in
    let same : j ≡ first.1 = cc first.5 in
    let more : js ≡ first.3 = cc first.5 in
    let behind : InItems first.2 js = subst (λ (l : json.Items). InItems first.2 l) (sym more) first.6 in
    let left = items-spelt js first.2 behind (json.after_end_array first.2) refl in
    let spelt = value-json_tokens_back first.0 tokens first.2 first.1 first.4 in (
      left.0,
      spelt ∙ ap (λ (t : json.Json). written.json_tokens t ++ first.2) (sym same)
          ∙ ap (λ (l : List Token). written.json_tokens j ++ l) left.1
          ∙ sym (append_assoc (written.json_tokens j) (written.items_tokens js) left.0),
    )

-- a bracket and the items behind it are an array
pub as-array : (js : json.Items) (tokens : List Token) → InItems tokens js
    → BeginsWith (Token.begin_array ∷ tokens) (json.array js)
as-array js tokens is =
    let spelt = items-spelt js tokens is (json.after_end_array tokens) refl in
    let deep = written.depth (json.array js) in (
      deep,
      spelt.0,
      ap (λ (l : List Token). json.value deep (Token.begin_array ∷ l)) spelt.1
          ∙ value-json_tokens (json.array js) deep spelt.0 (omega arith),
    )

-- items mean what they were read as
pub items-of : (tokens : List Token) (js : json.Items) (ds : Items) → InItems tokens js → of_items js ≡ Some ds
    → trees_of tokens ≡ ds
items-of tokens js ds is means =
    ap (λ (d : Data). or_no_items (as_array d))
    (data-of (Token.begin_array ∷ tokens) (json.array js) (array ds) (as-array js tokens is) (ap
    (option_map array) means))

-- ---- one reading comes apart

-- what a pair of readings gave
pub both-gave : {A B C : Type 0} (f : A → B → C) (first : Option A) (second : Option B) (c : C)
    → option_and_then (λ (a : A). option_map (f a) second) first ≡ Some c
    → (a : A) × (b : B) × (first ≡ Some a) × (second ≡ Some b) × (c ≡ f a b)
both-gave {A} {B} {C} f None second c e = not_found c e
both-gave {A} {B} {C} f (Some a) None c e = not_found c e
both-gave f (Some a) (Some b) c e = (a, b, refl, refl, sym (Some_inj _ _ e))
