-- A value whose tokens are taken nests no deeper than it may, and each of its numbers has a value.
use Rattle.std.proofs.Common.{◌≡◌, ℕ, suc, ◌+◌, ◌-◌, ◌≤◌, max, List, [], ◌++◌, Bool, true, false, Option, Some, None}
use Rattle.std.proofs.Common.{refl, sym, ap, ◌∙◌, arith, append_assoc}
use Rattle.std.proofs.lemmas.List.{append-nil}
use Rattle.std.proofs.lemmas.Bool.{le-leb, leb-true}
use Rattle.std.proofs.lemmas.Bool.Decides.{leb_tells}
use Rattle.std.specs.Prelude.{option_map, option_and_then, ◌&&◌, is_some, nat_le, nat_lt}
use Rattle.json.specs.Token.{Token}
use Rattle.json.specs.Json as json
use Rattle.json.specs.Tree as written
use Rattle.serde_json.specs.Data.{Data, number, array, object, item, Members, no_members, put}
use Rattle.serde_json.specs.Read.{number_of, of_json, of_items, of_members, max_depth}
use Rattle.value_json.specs.Private.Taken.{is_taken}

-- ---- each number has a value

abbrev mutual
  pub has_values : json.Json → Bool
  has_values json.null = true
  has_values (json.boolean b) = true
  has_values (json.number s) = is_some (number_of s)
  has_values (json.string s) = true
  has_values (json.array js) = items_have_values js
  has_values (json.object ms) = members_have_values ms

  pub items_have_values : json.Items → Bool
  items_have_values json.no_items = true
  items_have_values (json.item j js) = has_values j && items_have_values js

  pub members_have_values : json.Members → Bool
  members_have_values json.no_members = true
  members_have_values (json.member k j ms) = has_values j && members_have_values ms

some-mapped : {A B : Type 0} (f : A → B) (o : Option A) → is_some (option_map f o) ≡ is_some o
some-mapped f None = refl
some-mapped f (Some a) = refl

some-then : {A B : Type 0} (f : A → Option B) (b : Bool) (o : Option A) → ((a : A) → is_some (f a) ≡ b)
    → is_some (option_and_then f o) ≡ is_some o && b
some-then f b None each = refl
some-then f b (Some a) each = each a

mutual
  some-json : (j : json.Json) → is_some (of_json j) ≡ has_values j
  some-json json.null = refl
  some-json (json.boolean b) = refl
  some-json (json.number s) = some-mapped number (number_of s)
  some-json (json.string s) = refl
  some-json (json.array js) = some-mapped array (of_items js) ∙ some-items js
  some-json (json.object ms) = some-mapped object (of_members ms no_members) ∙ some-members ms no_members

  some-items : (js : json.Items) → is_some (of_items js) ≡ items_have_values js
  some-items json.no_items = refl
  some-items (json.item j js) =
      some-then (λ (d : Data). option_map (item d) (of_items js)) (items_have_values js) (of_json j)
      (λ d. some-mapped (item d) (of_items js) ∙ some-items js)
      ∙ ap (λ (b : Bool). b && items_have_values js) (some-json j)

  some-members : (ms : json.Members) (found : Members) → is_some (of_members ms found) ≡ members_have_values ms
  some-members json.no_members found = refl
  some-members (json.member k j ms) found =
      some-then (λ (d : Data). of_members ms (put k d found)) (members_have_values ms) (of_json j)
      (λ d. some-members ms (put k d found))
      ∙ ap (λ (b : Bool). b && members_have_values ms) (some-json j)

-- ---- what the tokens of a value tell

abbrev pub fits : ℕ → Bool
fits n = nat_le n max_depth

fits-max : (n a b : ℕ) → fits (n + max a b) ≡ fits (n + a) && fits (n + b)
fits-max n a b = grind (arith, leb_tells)

shuffle : (a t b ts r : Bool) → (a && t) && ((b && ts) && r) ≡ ((a && b) && (t && ts)) && r
shuffle true true true ts r = refl
shuffle true true false ts r = refl
shuffle true false true ts r = refl
shuffle true false false ts r = refl
shuffle false t b ts r = refl

fits-here : (deep : ℕ) (r : Bool) → deep ≤ max_depth → r ≡ (fits (deep + 0) && true) && r
fits-here deep r h = let e : fits (deep + 0) ≡ true = le-leb (deep + 0) max_depth (omega arith) in rw e

-- one level opens
opens-at : (deep n : ℕ) (t r s b : Bool) → nat_lt deep max_depth ≡ b
    → (suc deep ≤ max_depth → s ≡ (fits (suc deep + n) && t) && r)
    → nat_lt deep max_depth && s ≡ (fits (deep + suc n) && t) && r
opens-at deep n t r s true e inside =
    let room : suc deep ≤ max_depth = leb-true (suc deep) max_depth e in
    let same : suc deep + n ≡ deep + suc n = omega arith in
    ap (λ (b : Bool). b && s) e ∙ inside room ∙ ap (λ (m : ℕ). (fits m && t) && r) same
opens-at deep n t r s false e inside =
    let past : fits (deep + suc n) ≡ false = grind (arith, leb_tells, e) in
    ap (λ (b : Bool). b && s) e ∙ sym (ap (λ (b : Bool). (b && t) && r) past)

abbrev IsTold : ℕ → ℕ → Bool → List Token → List Token → ℕ → Type 0
IsTold deep n values tokens rest behind =
    is_taken deep (tokens ++ rest) ≡ (fits (deep + n) && values) && is_taken behind rest

one-less : (n : ℕ) → suc n - 1 ≡ n
one-less n = omega arith

mutual
  taken-json : (j : json.Json) (deep : ℕ) (rest : List Token) → deep ≤ max_depth
      → IsTold deep (written.depth j) (has_values j) (written.json_tokens j) rest deep
  taken-json json.null deep rest h = fits-here deep (is_taken deep rest) h
  taken-json (json.boolean b) deep rest h = fits-here deep (is_taken deep rest) h
  taken-json (json.number s) deep rest h =
      let e : fits (deep + 0) ≡ true = le-leb (deep + 0) max_depth (omega arith) in rw e
  taken-json (json.string s) deep rest h = fits-here deep (is_taken deep rest) h
  taken-json (json.array js) deep rest h =
      opens-at deep (written.items_depth js) (items_have_values js) (is_taken (suc deep - 1) rest)
      (is_taken (suc deep) (written.items_tokens js ++ rest)) (nat_lt deep max_depth) refl
      (λ room. taken-items js (suc deep) rest room)
      ∙ ap (λ (m : ℕ). (fits (deep + suc (written.items_depth js)) && items_have_values js) && is_taken m rest)
      (one-less deep)
  taken-json (json.object ms) deep rest h =
      opens-at deep (written.members_depth ms) (members_have_values ms) (is_taken (suc deep - 1) rest)
      (is_taken (suc deep) (written.members_tokens ms ++ rest)) (nat_lt deep max_depth) refl
      (λ room. taken-members ms (suc deep) rest room)
      ∙ ap (λ (m : ℕ). (fits (deep + suc
      (written.members_depth ms)) && members_have_values ms) && is_taken m rest) (one-less deep)

  taken-items : (js : json.Items) (deep : ℕ) (rest : List Token) → deep ≤ max_depth
      → IsTold deep (written.items_depth js) (items_have_values js) (written.items_tokens js) rest (deep - 1)
  taken-items json.no_items deep rest h = fits-here deep (is_taken (deep - 1) rest) h
  taken-items (json.item j js) deep rest h =
      ap (is_taken deep) (append_assoc (written.json_tokens j) (written.items_tokens js) rest)
      ∙ taken-json j deep (written.items_tokens js ++ rest) h
      ∙ ap (λ (b : Bool). (fits (deep + written.depth j) && has_values j) && b) (taken-items js deep rest h)
      ∙ shuffle (fits (deep + written.depth j)) (has_values j) (fits (deep + written.items_depth js))
      (items_have_values js) (is_taken (deep - 1) rest)
      ∙ ap (λ (b : Bool). (b && (has_values j && items_have_values js)) && is_taken (deep - 1) rest)
      (sym (fits-max deep (written.depth j) (written.items_depth js)))

  taken-members : (ms : json.Members) (deep : ℕ) (rest : List Token) → deep ≤ max_depth
      → IsTold deep (written.members_depth ms) (members_have_values ms) (written.members_tokens ms) rest (deep - 1)
  taken-members json.no_members deep rest h = fits-here deep (is_taken (deep - 1) rest) h
  taken-members (json.member k j ms) deep rest h =
      ap (is_taken deep) (append_assoc (written.json_tokens j) (written.members_tokens ms) rest)
      ∙ taken-json j deep (written.members_tokens ms ++ rest) h
      ∙ ap (λ (b : Bool). (fits (deep + written.depth j) && has_values j) && b) (taken-members ms deep rest h)
      ∙ shuffle (fits (deep + written.depth j)) (has_values j) (fits (deep + written.members_depth ms))
      (members_have_values ms) (is_taken (deep - 1) rest)
      ∙ ap (λ (b : Bool). (b && (has_values j && members_have_values ms)) && is_taken (deep - 1) rest)
      (sym (fits-max deep (written.depth j) (written.members_depth ms)))

-- the tokens of a whole text are taken where its value nests no deeper than it may, and each number has a value
pub taken-whole : (j : json.Json) → is_taken 0 (written.json_tokens j) ≡ fits (written.depth j) && is_some (of_json j)
taken-whole j =
    ap (is_taken 0) (sym (append-nil (written.json_tokens j))) ∙ taken-json j 0 [] (omega arith)
    ∙ and-true (fits (0 + written.depth j) && has_values j)
    ∙ ap (λ (n : ℕ). fits n && has_values j) (omega arith)
    ∙ ap (λ (b : Bool). fits (written.depth j) && b) (sym (some-json j))
  where
    and-true : (a : Bool) → a && true ≡ a
    and-true true = refl
    and-true false = refl
