-- One reading follows another: where the first gives a value, the second gives the same. And keys of one table that are
-- known in another.
use Rattle.std.proofs.Common.{◌≡◌, ℕ, ◌+◌, Bool, true, false, List, [], ◌∷◌, Option, Some, None, Ok, Err, Ordering}
use Rattle.std.proofs.Common.{Less, Equal, Greater, nat_cmp, is_eq, bytes_eq, true≢false, refl, ap, sym, ◌∙◌}
use Rattle.std.proofs.lemmas.Bool.{and_from}
use Rattle.std.specs.Prelude.{◌||◌, decimal, nat_le, IsTrue, ⊤}
use Rattle.std.specs.Cmp.Lexicographic.{slice_cmp}
use Rattle.std.specs.Ordering.{match_ordering}
use Rattle.std.proofs.lemmas.Map.Text.{is_eq-slice_cmp}
use Rattle.std.proofs.lemmas.Slice.Eq.{bytes_eq-Decides}
use Rattle.serde_json.specs.Data.{Data, null, boolean, number, string, array, object, Items, no_items, item}
use Rattle.serde_json.specs.Data.{Members, no_members, member, put}
use Rattle.serde_json.specs.Find.{get, get_member, as_array, as_object}
use Rattle.value_json.specs.Reading.{Read, ◌>>=◌, below, under, present, given, found_or, required, optional}
use Rattle.value_json.specs.Reading.{count}
use Rattle.value_json.specs.Reading.{each_from, list_of, is_one_of, known, has_keys, only_keys}
use Rattle.value_json.proofs.KeepsLemmas.{both}

pub record Follows {A : Type 0} (read other : Read A) : Type 0 where
  pub same : (x : A) → read ≡ Ok x → other ≡ Ok x

refused-follows : {A : Type 0} (place : List ℕ) (other : Read A) → Follows (Err place) other
refused-follows place other = record { same = λ x is. let never : ⊥ = cc is in absurd never }

pub follows-same : {A : Type 0} (read other : Read A) → other ≡ read → Follows read other
follows-same read other is = record { same = λ x gives. is ∙ gives }

pub follows-then : {A B : Type 0} (read other : Read A) (next goes : A → Read B) → Follows read other
    → ((x : A) → Follows (next x) (goes x)) → Follows (read >>= next) (other >>= goes)
follows-then {A} (Ok x) other next goes is each = record {
  same = λ y gives. ap (λ (r : Read A). r >>= goes) (is.same x refl) ∙ (each x).same y gives;
}
follows-then (Err place) other next goes is each = refused-follows place (other >>= goes)

-- a step that gives another value
pub follows-past : {A B C : Type 0} (read : Read A) (other : Read B) (y : B) (next : A → Read C) (goes : B → Read C)
    → other ≡ Ok y → ((x : A) → Follows (next x) (goes y)) → Follows (read >>= next) (other >>= goes)
follows-past {A} {B} (Ok x) other y next goes is each = record {
  same = λ z gives. ap (λ (r : Read B). r >>= goes) is ∙ (each x).same z gives;
}
follows-past (Err place) other y next goes is each = refused-follows place (other >>= goes)

follows-under : {A : Type 0} (segment : List ℕ) (read other : Read A) → Follows read other
    → Follows (under segment read) (under segment other)
follows-under {A} segment (Ok x) other is =
    follows-same (Ok x) (under segment other) (ap (λ (r : Read A). under segment r) (is.same x refl))
follows-under segment (Err place) other is = refused-follows (below segment place) (under segment other)

follows-found : {A : Type 0} (first second : Data → Read A) (found : Option Data)
    → ((inside : Data) → Follows (first inside) (second inside))
    → Follows (found_or (Err []) first found) (found_or (Err []) second found)
follows-found first second None each = refused-follows [] (Err [])
follows-found first second (Some tree) each = each tree

-- a key that has the same value in both trees
pub follows-required : {A : Type 0} (name : List ℕ) (first second : Data → Read A) (tree other : Data)
    → get name other ≡ get name tree → ((inside : Data) → Follows (first inside) (second inside))
    → Follows (required name first tree) (required name second other)
follows-required name first second tree other same each =
    rw same (follows-under name (found_or (Err []) first (get name tree)) (found_or (Err []) second (get name tree))
    (follows-found first second (get name tree) each))

pub follows-optional : {A : Type 0} (name : List ℕ) (default : A) (read : Data → Read A) (tree other : Data)
    → get name other ≡ get name tree → Follows (optional name default read tree) (optional name default read other)
follows-optional name default read tree other same =
    follows-same (optional name default read tree) (optional name default read other)
    (ap (λ (found : Option Data). under name (found_or (Ok default) read found)) same)

follows-each : {A : Type 0} (first second : Data → Read A) → ((inside : Data) → Follows (first inside) (second inside))
    → (i : ℕ) (items : Items) → Follows (each_from first i items) (each_from second i items)
follows-each first second each i no_items = follows-same (Ok []) (Ok []) refl
follows-each first second each i (item tree items) =
    follows-then (under (decimal i) (first tree)) (under (decimal i) (second tree)) _ _
    (follows-under (decimal i) (first tree) (second tree) (each tree)) (λ x.
    follows-then (each_from first (i + 1) items) (each_from second (i + 1) items) _ _
    (follows-each first second each (i + 1) items) (λ xs. follows-same _ _ refl))

pub follows-list : {A : Type 0} (most : ℕ) (first second : Data → Read A)
    → ((inside : Data) → Follows (first inside) (second inside))
    → (tree : Data) → Follows (list_of most first tree) (list_of most second tree)
follows-list most first second each tree =
    follows-then (present (as_array tree)) (present (as_array tree)) _ _ (follows-same _ _ refl) (λ items.
    follows-then (given (nat_le (count items) most) items) (given (nat_le (count items) most) items) _ _
    (follows-same _ _ refl) (λ few. follows-each first second each 0 few))

follows-given : {A : Type 0} (passes other : Bool) (next goes : ⊤ → Read A)
    → (IsTrue passes → IsTrue other × Follows (next tt) (goes tt))
    → Follows (given passes tt >>= next) (given other tt >>= goes)
follows-given {A} true other next goes each =
    let both = each refl in
    record {
      same = λ y gives. ap (λ (passes : Bool). given passes tt >>= goes) both.0 ∙ both.1.same y gives;
    }
follows-given false other next goes each = refused-follows [] (given other tt >>= goes)

-- where the keys are known, so are those of the other tree, and the reading goes on
pub follows-only_keys : {A : Type 0} (names others : List (List ℕ)) (tree other : Data) (next goes : ⊤ → Read A)
    → (IsTrue (has_keys names (as_object tree))
    → IsTrue (has_keys others (as_object other)) × Follows (next tt) (goes tt))
    → Follows (only_keys names tree >>= next) (only_keys others other >>= goes)
follows-only_keys names others tree other next goes each =
    follows-given (has_keys names (as_object tree)) (has_keys others (as_object other)) next goes each

-- ---- known keys

-- keys that are not equal
pub apart : (a b : List ℕ) → bytes_eq a b ≡ false → a ≡ b → ⊥
apart a b differs same = true≢false (sym ((bytes_eq-Decides a b).1 same) ∙ differs)

neither : (o : Ordering) (a b : Option Data) → is_eq o ≡ false → match_ordering o a b a ≡ a
neither Less a b differs = refl
neither Equal a b differs = absurd (true≢false differs)
neither Greater a b differs = refl

differ : (a b : List ℕ) (equal : Bool) → bytes_eq a b ≡ equal → (a ≡ b → ⊥) → equal ≡ false
differ a b true is other = absurd (other ((bytes_eq-Decides a b).0 is))
differ a b false is other = refl

-- a member with another key is passed over
skips : (key other : List ℕ) (value : Data) (rest : Members) → (key ≡ other → ⊥)
    → get_member key (member other value rest) ≡ get_member key rest
skips key other value rest differs =
    neither (slice_cmp nat_cmp key other) _ _ (is_eq-slice_cmp key other ∙ differ key other _ refl differs)

-- a key that is not known has no value
unknown : (names : List (List ℕ)) (rest : Members) (key : List ℕ) → IsTrue (known names rest)
    → is_one_of names key ≡ false → get_member key rest ≡ None
unknown names no_members key all differs = refl
unknown names (member other value rest) key all differs =
    let parts = both (is_one_of names other) (known names rest) all in
    let not_this : key ≡ other → ⊥ = λ same.
    true≢false (sym parts.0 ∙ ap (λ (k : List ℕ). is_one_of names k) (sym same) ∙ differs) in
    skips key other value rest not_this ∙ unknown names rest key parts.1 differs

pub get-unknown : (names : List (List ℕ)) (tree : Data) (key : List ℕ) → IsTrue (has_keys names (as_object tree))
    → is_one_of names key ≡ false → get key tree ≡ None
get-unknown names null key all differs = refl
get-unknown names (boolean b) key all differs = refl
get-unknown names (number n) key all differs = refl
get-unknown names (string s) key all differs = refl
get-unknown names (array items) key all differs = refl
get-unknown names (object rest) key all differs = unknown names rest key all differs

-- a name more
more : (a b c : Bool) → IsTrue (a || c) → IsTrue (a || (b || c))
more true b c is = refl
more false true c is = refl
more false false c is = is

known-more : (a b : List ℕ) (names : List (List ℕ)) (rest : Members) → IsTrue (known (a ∷ names) rest)
    → IsTrue (known (a ∷ b ∷ names) rest)
known-more a b names no_members all = refl
known-more a b names (member key value rest) all =
    let parts = both (is_one_of (a ∷ names) key) (known (a ∷ names) rest) all in
    and_from (is_one_of (a ∷ b ∷ names) key) (known (a ∷ b ∷ names) rest)
    (more (bytes_eq a key) (bytes_eq b key) (is_one_of names key) parts.0) (known-more a b names rest parts.1)

pub has_keys-more : (a b : List ℕ) (names : List (List ℕ)) (rest : Option Members)
    → IsTrue (has_keys (a ∷ names) rest) → IsTrue (has_keys (a ∷ b ∷ names) rest)
has_keys-more a b names None all = all
has_keys-more a b names (Some rest) all = known-more a b names rest all

known-put_at : (o : Ordering) (names : List (List ℕ)) (key other : List ℕ) (x y : Data) (rest : Members)
    → IsTrue (is_one_of names key) → IsTrue (known names (member other y rest))
    → IsTrue (known names (put key x rest))
    → IsTrue (known names (match_ordering o (member key x (member other y rest)) (member other x rest)
    (member other y (put key x rest))))
known-put_at Less names key other x y rest is all later =
    and_from (is_one_of names key) (known names (member other y rest)) is all
known-put_at Equal names key other x y rest is all later = all
known-put_at Greater names key other x y rest is all later =
    and_from (is_one_of names other) (known names (put key x rest))
    (both (is_one_of names other) (known names rest) all).0 later

-- a known key more
pub known-put : (names : List (List ℕ)) (key : List ℕ) (x : Data) (rest : Members) → IsTrue (is_one_of names key)
    → IsTrue (known names rest) → IsTrue (known names (put key x rest))
known-put names key x no_members is all = and_from (is_one_of names key) true is refl
known-put names key x (member other y rest) is all =
    known-put_at (slice_cmp nat_cmp key other) names key other x y rest is all
    (known-put names key x rest is (both (is_one_of names other) (known names rest) all).1)
