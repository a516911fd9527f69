-- What is found in a value as it is written is what is found in its meaning.
use Rattle.std.proofs.Common.{◌≡◌, ℕ, List, Bool, true, false, Option, Some, None, refl, sym, ap, ◌∙◌, subst}
use Rattle.std.proofs.Common.{bytes_eq, true≢false}
use Rattle.std.proofs.lemmas.Slice.Eq.{bytes_eq-Decides}
use Rattle.std.specs.Prelude.{option_and_then, cond, MatchOption}
use Rattle.value_lemmas.proofs.Options.{option_and_then-some, option_map-some}
use Rattle.json.specs.Token.{Token}
use Rattle.json.specs.Json as json
use Rattle.json.specs.Find as written
use Rattle.json.specs.Find.{BeginsWith, InItems, InMembers, Finds, later_or}
use Rattle.json.proofs.Found.{Some_inj}
use Rattle.serde_json.specs.Data.{Data, null, boolean, number, string, array, object, Members, no_members, put}
use Rattle.serde_json.specs.Find.{get, get_member, as_bool, as_str, as_number, as_array, as_object}
use Rattle.serde_json.specs.Read.{number_of, of_json, of_items, of_members}
use Rattle.serde_json.proofs.Views.{get_member-put, get_member-put_other}
use Rattle.value_json.specs.Trees.{data_of}
use Rattle.value_json.specs.Private.Trees.{IsTree}
use Rattle.value_json.proofs.TreeLemmas.{data-of}

-- ---- kinds of values

abbrev pub members_of : json.Members → Option Members
members_of ms = of_members ms no_members

-- the value as it is written and its meaning are of one kind, with one content
abbrev Agrees : json.Json → Data → Type 0
Agrees j d = (written.as_bool j ≡ as_bool d) × (written.as_str j ≡ as_str d)
    × (option_and_then number_of (written.as_number j) ≡ as_number d)
    × (option_and_then of_items (written.as_array j) ≡ as_array d)
    × (option_and_then members_of (written.as_object j) ≡ as_object d)

agrees : (j : json.Json) (d : Data) → of_json j ≡ Some d → Agrees j d
agrees json.null d e = subst (Agrees json.null) (Some_inj null d e) (refl, refl, refl, refl, refl)
agrees (json.boolean b) d e =
    subst (Agrees (json.boolean b)) (Some_inj (boolean b) d e) (refl, refl, refl, refl, refl)
agrees (json.number s) d e =
    let n = option_map-some number (number_of s) d e in
    subst (Agrees (json.number s)) n.2 (refl, refl, n.1, refl, refl)
agrees (json.string s) d e =
    subst (Agrees (json.string s)) (Some_inj (string s) d e) (refl, refl, refl, refl, refl)
agrees (json.array js) d e =
    let ds = option_map-some array (of_items js) d e in
    subst (Agrees (json.array js)) ds.2 (refl, refl, refl, ds.1, refl)
agrees (json.object ms) d e =
    let ds = option_map-some object (members_of ms) d e in
    subst (Agrees (json.object ms)) ds.2 (refl, refl, refl, refl, ds.1)

means : (tokens : List Token) (tree : IsTree tokens) → data_of tokens ≡ tree.1
means tokens tree = data-of tokens tree.0 tree.1 tree.2 tree.3

pub bool-of : (tokens : List Token) (tree : IsTree tokens) → written.as_bool tree.0 ≡ as_bool (data_of tokens)
bool-of tokens tree = (agrees tree.0 tree.1 tree.3).0 ∙ ap as_bool (sym (means tokens tree))

pub str-of : (tokens : List Token) (tree : IsTree tokens) → written.as_str tree.0 ≡ as_str (data_of tokens)
str-of tokens tree = (agrees tree.0 tree.1 tree.3).1 ∙ ap as_str (sym (means tokens tree))

pub number-of : (tokens : List Token) (tree : IsTree tokens)
    → option_and_then number_of (written.as_number tree.0) ≡ as_number (data_of tokens)
number-of tokens tree = (agrees tree.0 tree.1 tree.3).2 ∙ ap as_number (sym (means tokens tree))

pub array-of : (tokens : List Token) (tree : IsTree tokens)
    → option_and_then of_items (written.as_array tree.0) ≡ as_array (data_of tokens)
array-of tokens tree = (agrees tree.0 tree.1 tree.3).3 ∙ ap as_array (sym (means tokens tree))

pub object-of : (tokens : List Token) (tree : IsTree tokens)
    → option_and_then members_of (written.as_object tree.0) ≡ as_object (data_of tokens)
object-of tokens tree = (agrees tree.0 tree.1 tree.3).4 ∙ ap as_object (sym (means tokens tree))

-- ---- members

-- the member that was found last, or what was there before
abbrev IsFound : Option json.Json → Option Data → Option Data → Type 0
IsFound None before o = o ≡ before
IsFound (Some j) before o = (d : Data) × (of_json j ≡ Some d) × (o ≡ Some d)

same-or-other : (k q : List ℕ) (j : json.Json) (d : Data) (found : Members) (o : Option Data) (b : Bool)
    → bytes_eq k q ≡ b
    → of_json j ≡ Some d → o ≡ get_member q (put k d found) → IsFound (cond b (Some j) None) (get_member q found) o
same-or-other k q j d found o true e means is =
    let same : k ≡ q = (bytes_eq-Decides k q).0 e in
    (d, means, is ∙ ap (λ (name : List ℕ). get_member name (put k d found)) (sym same) ∙ get_member-put k d found)
same-or-other k q j d found o false e means is =
    is ∙ get_member-put_other q k d found (λ same. true≢false (sym ((bytes_eq-Decides k q).1 (sym same)) ∙ e))

or-earlier : (k q : List ℕ) (j : json.Json) (d : Data) (found ds : Members) (o : Option json.Json) → of_json j ≡ Some d
    → IsFound o (get_member q (put k d found)) (get_member q ds)
    → IsFound (later_or o (cond (bytes_eq k q) (Some j) None)) (get_member q found) (get_member q ds)
or-earlier k q j d found ds None means is = same-or-other k q j d found (get_member q ds) (bytes_eq k q) refl means is
or-earlier k q j d found ds (Some i) means is = is

found-in : (q : List ℕ) (ms : json.Members) (found ds : Members) → of_members ms found ≡ Some ds
    → IsFound (written.get_member q ms) (get_member q found) (get_member q ds)
found-in q json.no_members found ds e = ap (get_member q) (sym (Some_inj found ds e))
found-in q (json.member k j ms) found ds e =
    let first = option_and_then-some (λ (d : Data). of_members ms (put k d found)) (of_json j) ds e in
    or-earlier k q j first.0 found ds (written.get_member q ms) first.1
    (found-in q ms (put k first.0 found) ds first.2)

-- what is found at a name
found-of : (q : List ℕ) (j : json.Json) (d : Data) → of_json j ≡ Some d → IsFound (written.get q j) None (get q d)
found-of q json.null d e = ap (get q) (sym (Some_inj null d e))
found-of q (json.boolean b) d e = ap (get q) (sym (Some_inj (boolean b) d e))
found-of q (json.number s) d e = ap (get q) (sym (option_map-some number (number_of s) d e).2)
found-of q (json.string s) d e = ap (get q) (sym (Some_inj (string s) d e))
found-of q (json.array js) d e = ap (get q) (sym (option_map-some array (of_items js) d e).2)
found-of q (json.object ms) d e =
    let ds = option_map-some object (members_of ms) d e in
    subst (λ (t : Data). IsFound (written.get_member q ms) None (get q t)) ds.2 (found-in q ms no_members ds.0 ds.1)

-- what is found where a name stands is a tree, with the meaning that the object has there
abbrev IsFoundTree : List ℕ → List Token → Option (List Token) → Type 0
IsFoundTree q tokens r = MatchOption r (None ≡ get q (data_of tokens))
    (λ at. IsTree at × (Some (data_of at) ≡ get q (data_of tokens)))

found-tree-at : (q : List ℕ) (tokens : List Token) (tree : IsTree tokens) (r : Option (List Token))
    (o : Option json.Json)
    → written.get q tree.0 ≡ o → Finds r o → IsFound o None (get q tree.1) → IsFoundTree q tokens r
found-tree-at q tokens tree None o e finds is =
    sym (subst (λ (x : Option json.Json). IsFound x None (get q tree.1)) finds is)
    ∙ ap (get q) (sym (means tokens tree))
found-tree-at q tokens tree (Some at) o e finds is =
    let found : IsFound (Some finds.0) None (get q tree.1) =
    subst (λ (x : Option json.Json). IsFound x None (get q tree.1)) finds.1 is in (
      (finds.0, found.0, finds.2, found.1),
      ap (λ (d : Data). Some d) (data-of at finds.0 found.0 finds.2 found.1) ∙ sym found.2
          ∙ ap (get q) (sym (means tokens tree)),
    )

pub found-tree : (q : List ℕ) (tokens : List Token) (tree : IsTree tokens) (r : Option (List Token))
    → Finds r (written.get q tree.0) → IsFoundTree q tokens r
found-tree q tokens tree r finds =
    found-tree-at q tokens tree r (written.get q tree.0) refl finds (found-of q tree.0 tree.1 tree.3)
