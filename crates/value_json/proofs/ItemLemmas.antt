-- The items of a list and the keys of an object, as they are written and in its meaning.
use Rattle.std.proofs.Common.{◌≡◌, ℕ, List, Bool, true, false, Option, Some, None, Ordering, Less, Equal, Greater}
use Rattle.std.proofs.Common.{refl, sym, ap, ◌∙◌, subst, is_eq}
use Rattle.std.proofs.lemmas.Map.Text.{is_eq-slice_cmp}
use Rattle.std.proofs.lemmas.Slice.Eq.{bytes_eq-Decides}
use Rattle.std.specs.Prelude.{option_and_then, ◌&&◌, MatchOption}
use Rattle.std.specs.Ordering.{nat_cmp, match_ordering}
use Rattle.std.specs.Cmp.Lexicographic.{slice_cmp}
use Rattle.value_lemmas.proofs.Options.{option_and_then-some, option_map-some}
use Rattle.json.specs.Token.{Token}
use Rattle.json.specs.Json as json
use Rattle.json.specs.Find as written
use Rattle.json.specs.Find.{InItems, InMembers, NextItem}
use Rattle.json.proofs.Found.{Some_inj}
use Rattle.serde_json.specs.Data.{Data, array, object, Items, no_items, item, Members, no_members, member, put}
use Rattle.serde_json.specs.Find.{as_array, as_object}
use Rattle.serde_json.specs.Read.{of_json, of_items, of_members}
use Rattle.value_json.specs.Keys.{is_one_of, known, has_keys}
use Rattle.value_json.specs.Private.Written.{written_known}
use Rattle.value_json.specs.Trees.{data_of, trees_of}
use Rattle.value_json.specs.Private.Trees.{IsTree, AreTrees}
use Rattle.value_json.proofs.TreeLemmas.{items-of, data-of, both-gave}
use Rattle.value_json.proofs.FindLemmas.{members_of, array-of, object-of}

-- ---- items

-- a list, or what is none
abbrev pub IsWrittenList : json.Json → Option (List Token) → Type 0
IsWrittenList j r = MatchOption r (written.as_array j ≡ None)
    (λ rest. (js : json.Items) × (j ≡ json.array js) × InItems rest js)

pub list-tree : (tokens : List Token) (tree : IsTree tokens) (r : Option (List Token)) → IsWrittenList tree.0 r
    → MatchOption r (None ≡ as_array (data_of tokens))
    (λ rest. AreTrees rest × (Some (trees_of rest) ≡ as_array (data_of tokens)))
list-tree tokens tree None is = ap (option_and_then of_items) (sym is) ∙ array-of tokens tree
list-tree tokens tree (Some rest) is =
    let whole : of_json (json.array is.0) ≡ Some tree.1 =
    subst (λ (j : json.Json). of_json j ≡ Some tree.1) is.1 tree.3 in
    let ds = option_map-some array (of_items is.0) tree.1 whole in (
      (is.0, ds.0, is.2, ds.1),
      ap (λ (items : Items). Some items) (items-of rest is.0 ds.0 is.2 ds.1) ∙ sym ds.1
          ∙ ap (λ (j : json.Json). option_and_then of_items (written.as_array j)) (sym is.1) ∙ array-of tokens tree,
    )

pub next-tree : (old new : List Token) (trees : AreTrees old) (r : Option (List Token)) → NextItem old r new
    → MatchOption r (trees_of old ≡ no_items)
    (λ at. IsTree at × AreTrees new × (trees_of old ≡ item (data_of at) (trees_of new)))
next-tree old new trees None next =
    let none = next trees.0 trees.2 in
    items-of old trees.0 trees.1 trees.2 trees.3
    ∙ Some_inj trees.1 no_items (sym trees.3 ∙ ap of_items none)
next-tree old new trees (Some at) next =
    let first = next trees.0 trees.2 in
    let gave = both-gave item (of_json first.0) (of_items first.1) trees.1 (ap of_items (sym first.2) ∙ trees.3) in
    let here = data-of at first.0 gave.0 first.3 gave.2 in
    let behind = items-of new first.1 gave.1 first.4 gave.3 in (
      (first.0, gave.0, first.3, gave.2),
      (first.1, gave.1, first.4, gave.3),
      items-of old trees.0 trees.1 trees.2 trees.3 ∙ gave.4
          ∙ ap (λ (d : Data). item d gave.1) (sym here) ∙ ap (item (data_of at)) (sym behind),
    )

-- ---- keys

and-twice : (a b : Bool) → a && b ≡ a && (a && b)
and-twice true b = refl
and-twice false b = refl

and-swap : (a b c : Bool) → a && (b && c) ≡ b && (a && c)
and-swap true true c = refl
and-swap true false c = refl
and-swap false true c = refl
and-swap false false c = refl

and-move : (a b c : Bool) → a && (b && c) ≡ (b && a) && c
and-move true true c = refl
and-move true false c = refl
and-move false true c = refl
and-move false false c = refl

and-true : (a : Bool) → a ≡ a && true
and-true true = refl
and-true false = refl

known-put-at : (o : Ordering) (names : List (List ℕ)) (k l : List ℕ) (d e : Data) (ms : Members)
    → slice_cmp nat_cmp k l ≡ o
    → known names (put k d ms) ≡ is_one_of names k && known names ms
    → known names (match_ordering o (member k d (member l e ms)) (member l d ms) (member l e (put k d ms)))
    ≡ is_one_of names k && (is_one_of names l && known names ms)
known-put-at Less names k l d e ms is later = refl
known-put-at Equal names k l d e ms is later =
    let same : k ≡ l = (bytes_eq-Decides k l).0 (sym (is_eq-slice_cmp k l) ∙ ap is_eq is) in
    and-twice (is_one_of names l) (known names ms)
    ∙ ap (λ (name : List ℕ). is_one_of names name && (is_one_of names l && known names ms)) (sym same)
known-put-at Greater names k l d e ms is later =
    ap (λ (b : Bool). is_one_of names l && b) later ∙ and-swap (is_one_of names l) (is_one_of names k) (known names ms)

known-put : (names : List (List ℕ)) (k : List ℕ) (d : Data) (ms : Members)
    → known names (put k d ms) ≡ is_one_of names k && known names ms
known-put names k d no_members = refl
known-put names k d (member l e ms) =
    known-put-at (slice_cmp nat_cmp k l) names k l d e ms refl (known-put names k d ms)

known-of : (names : List (List ℕ)) (ms : json.Members) (found ds : Members) → of_members ms found ≡ Some ds
    → known names ds ≡ written_known names ms && known names found
known-of names json.no_members found ds e = ap (known names) (sym (Some_inj found ds e))
known-of names (json.member k j ms) found ds e =
    let first = option_and_then-some (λ (d : Data). of_members ms (put k d found)) (of_json j) ds e in
    known-of names ms (put k first.0 found) ds first.2
    ∙ ap (λ (b : Bool). written_known names ms && b) (known-put names k first.0 found)
    ∙ and-move (written_known names ms) (is_one_of names k) (known names found)

-- the keys of an object are known where they are as they are written
pub keys-of : (names : List (List ℕ)) (tokens : List Token) (tree : IsTree tokens) (ms : json.Members)
    → tree.0 ≡ json.object ms → written_known names ms ≡ has_keys names (as_object (data_of tokens))
keys-of names tokens tree ms is =
    let whole : of_json (json.object ms) ≡ Some tree.1 =
    subst (λ (j : json.Json). of_json j ≡ Some tree.1) is tree.3 in
    let ds = option_map-some object (members_of ms) tree.1 whole in
    and-true (written_known names ms) ∙ sym (known-of names ms no_members ds.0 ds.1)
    ∙ ap (has_keys names) (sym ds.1 ∙ ap (λ (j : json.Json). option_and_then members_of (written.as_object j)) (sym is)
    ∙ object-of tokens tree)

pub no-keys-of : (names : List (List ℕ)) (tokens : List Token) (tree : IsTree tokens) → written.as_object tree.0 ≡ None
    → false ≡ has_keys names (as_object (data_of tokens))
no-keys-of names tokens tree is =
    ap (λ (o : Option json.Members). has_keys names (option_and_then members_of o)) (sym is)
    ∙ ap (has_keys names) (object-of tokens tree)
