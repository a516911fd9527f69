-- Strictly ascending lists of texts: adding a text in its place, and that their members make them.
use Rattle.std.proofs.Common.{◌≡◌, ◌∷◌, [], ℕ, List, map, ap, refl, sym, subst, ◌∙◌, Bool, true, false, cond}
use Rattle.std.proofs.Common.{◌||◌}
use Rattle.std.proofs.lemmas.Cmp.{nat_list_cmp_total}
use Rattle.std.proofs.lemmas.List.Sorted.{list_any-IsPermutation}
use Rattle.std.proofs.lemmas.Map.Text.{is_eq-slice_cmp}
use Rattle.std.proofs.lemmas.Slice.Eq.{bytes_eq-Decides}
use Rattle.std.specs.BTreeSet.{insert_key}
use Rattle.std.specs.Cmp.Lexicographic.{slice_cmp}
use Rattle.std.specs.FinMap.{nat_cmp-IsAntisymmetric, slice_cmp-IsAntisymmetric}
use Rattle.std.specs.List.{AllByRecursion, dedup, dedup_from, list_any}
use Rattle.std.specs.List.Sorted.{IsPermutation, IsStrictlySortedBy}
use Rattle.std.specs.Ordering.{is_eq, match_ordering, nat_cmp, on, ordering_reverse}
use Rattle.std.specs.Str.{bytes_eq, str_to_ascii_lowercase}
use Rattle.std.specs.declared.cmp.Ordering.{Ordering}
use Rattle.std.specs.declared.cmp.Ordering.TheVariants.{Less, Equal, Greater}
use Rattle.value_lemmas.proofs.Tests.{or-again, or-left_comm}
use Rattle.value_lemmas.proofs.Bytes.{bytes_eq-self}
use Rattle.policy_safelist.specs.Sets.{IsSortedLowercaseSet, sorted_lowercase_set}

-- the order of texts
abbrev order : List ℕ → List ℕ → Ordering
order = slice_cmp nat_cmp

abbrev IsAscending : List (List ℕ) → Type 0
IsAscending texts = IsStrictlySortedBy order texts

-- a text is below each of these
abbrev IsBelow : List ℕ → List (List ℕ) → Type 0
IsBelow text texts = AllByRecursion (λ other. order text other ≡ Less) texts

same-from_Equal : (a b : List ℕ) → order a b ≡ Equal → a ≡ b
same-from_Equal a b e = slice_cmp-IsAntisymmetric nat_cmp-IsAntisymmetric a b e

Less-from_Greater : (a b : List ℕ) → order a b ≡ Greater → order b a ≡ Less
Less-from_Greater a b e = nat_list_cmp_total.antisymm b a ∙ ap ordering_reverse e

bytes_eq-Less : (a b : List ℕ) → order a b ≡ Less → bytes_eq a b ≡ false
bytes_eq-Less a b e = sym (is_eq-slice_cmp a b) ∙ ap is_eq e

-- what is below the first of an ascending list is below all
IsBelow-all : (a b : List ℕ) (texts : List (List ℕ)) → order a b ≡ Less → IsBelow b texts → IsBelow a texts
IsBelow-all a b [] e below = tt
IsBelow-all a b (text ∷ texts) e below = (nat_list_cmp_total.trans a b text e below.0, IsBelow-all a b texts e below.1)

-- a text that is below each of a list is none of them
IsBelow-none : (text : List ℕ) (texts : List (List ℕ)) → IsBelow text texts → list_any (bytes_eq text) texts ≡ false
IsBelow-none text [] below = refl
IsBelow-none text (other ∷ texts) below = rw (bytes_eq-Less text other below.0) (IsBelow-none text texts below.1)

IsBelow-inserted : (a b : List ℕ) (texts : List (List ℕ)) → order a b ≡ Less → IsBelow a texts
    → IsBelow a (insert_key order texts b)
IsBelow-inserted a b [] e below = (e, tt)
IsBelow-inserted a b (text ∷ texts) e below =
    elim (order b text) as (λ o. IsBelow a
    (match_ordering o (b ∷ text ∷ texts) (text ∷ texts) (text ∷ insert_key order texts b))) [
      | Less ↦ (e, below)
      | Equal ↦ below
      | Greater ↦ (below.0, IsBelow-inserted a b texts e below.1)
    ]

-- a text more leaves a list ascending
IsAscending-inserted : (b : List ℕ) (texts : List (List ℕ)) → IsAscending texts → IsAscending (insert_key order texts b)
unfolding IsStrictlySortedBy
IsAscending-inserted b [] up = (tt, tt)
IsAscending-inserted b (text ∷ texts) up =
    elim (order b text) as (λ o. order b text ≡ o
    → IsAscending (match_ordering o (b ∷ text ∷ texts) (text ∷ texts) (text ∷ insert_key order texts b))) [
      | Less ↦ λ e. ((e, IsBelow-all b text texts e up.0), up)
      | Equal ↦ λ e. up
      | Greater ↦ λ e. (
        IsBelow-inserted text b texts (Less-from_Greater b text e) up.0,
        IsAscending-inserted b texts up.1,
      )
    ] refl

-- the members of a list with a text more
members-inserted : (query b : List ℕ) (texts : List (List ℕ)) → list_any (bytes_eq query) (insert_key order texts b)
    ≡ (bytes_eq query b || list_any (bytes_eq query) texts)
members-inserted query b [] = refl
members-inserted query b (text ∷ texts) =
    elim (order b text) as (λ o. order b text ≡ o
    → list_any (bytes_eq query) (match_ordering o (b ∷ text ∷ texts) (text ∷ texts) (text
    ∷ insert_key order texts b)) ≡ (bytes_eq query b || (bytes_eq query text || list_any (bytes_eq query) texts))) [
      | Less ↦ λ e. refl
      | Equal ↦ λ e. rw (same-from_Equal b text e) (or-again (bytes_eq query text) (list_any (bytes_eq query) texts))
      | Greater ↦ λ e. ap (λ v. bytes_eq query text || v) (members-inserted query b texts)
          ∙ or-left_comm (bytes_eq query text) (bytes_eq query b) (list_any (bytes_eq query) texts)
    ] refl

-- the set of names is as it is described
pub sorted_lowercase_set-is : (names : List (List ℕ)) → IsSortedLowercaseSet names (sorted_lowercase_set names)
unfolding IsStrictlySortedBy
sorted_lowercase_set-is [] = record { ascending = tt; members = λ text. refl }
sorted_lowercase_set-is (name ∷ names) =
    let so_far = sorted_lowercase_set-is names in
    record {
      ascending = IsAscending-inserted (str_to_ascii_lowercase name) (sorted_lowercase_set names) so_far.ascending;
      members = λ text. members-inserted text (str_to_ascii_lowercase name) (sorted_lowercase_set names)
          ∙ ap (λ v. bytes_eq text (str_to_ascii_lowercase name) || v) (so_far.members text);
    }

-- two lists with the same members
abbrev SameMembers : List (List ℕ) → List (List ℕ) → Type 0
SameMembers a b = (text : List ℕ) → list_any (bytes_eq text) a ≡ list_any (bytes_eq text) b

-- a list has its first
has-first : (text : List ℕ) (texts : List (List ℕ)) → list_any (bytes_eq text) (text ∷ texts) ≡ true
has-first text texts = rw (bytes_eq-self text) refl

same-behind : (text query : List ℕ) (a b : List (List ℕ)) → IsBelow text a → IsBelow text b
    → SameMembers (text ∷ a) (text ∷ b) → list_any (bytes_eq query) a ≡ list_any (bytes_eq query) b
same-behind text query a b below_a below_b same =
    elim (bytes_eq query text) as (λ v. bytes_eq query text ≡ v → (v || list_any (bytes_eq query) a)
    ≡ (v || list_any (bytes_eq query) b) → list_any (bytes_eq query) a ≡ list_any (bytes_eq query) b) [
      | true ↦ λ e _. let is : query ≡ text = (bytes_eq-Decides query text).0 e in
          rw is (IsBelow-none text a below_a ∙ sym (IsBelow-none text b below_b))
      | false ↦ λ _ rest. rest
    ] refl (same query)

-- a text below all of a list is not its first
no-member : (text : List ℕ) (a b : List (List ℕ)) → IsBelow text b → SameMembers (text ∷ a) b → ⊥
no-member text a b below same = absurd (cc (sym (has-first text a) ∙ same text ∙ IsBelow-none text b below))

-- strictly ascending lists with the same members are the same
pub unique : (a b : List (List ℕ)) → IsAscending a → IsAscending b → SameMembers a b → a ≡ b
unfolding IsStrictlySortedBy
unique [] [] up_a up_b same = refl
unique [] (y ∷ b) up_a up_b same = absurd (cc (same y ∙ has-first y b))
unique (x ∷ a) [] up_a up_b same = absurd (cc (sym (has-first x a) ∙ same x))
unique (x ∷ a) (y ∷ b) up_a up_b same =
    elim (order x y) as (λ o. order x y ≡ o → x ∷ a ≡ y ∷ b) [
      | Less ↦ λ e. absurd (no-member x a (y ∷ b) (e, IsBelow-all x y b e up_b.0) same)
      | Equal ↦ λ e.
          let is : y ≡ x = sym (same-from_Equal x y e) in
          let below_b : IsBelow x b = subst (λ (t : List ℕ). IsBelow t b) is up_b.0 in
          let same_first : SameMembers (x ∷ a) (x ∷ b) = λ text. same text
          ∙ ap (λ (t : List ℕ). list_any (bytes_eq text) (t ∷ b)) is in
          ap (λ (t : List ℕ). t ∷ a) (sym is)
          ∙ ap (λ (l : List (List ℕ)). y
          ∷ l) (unique a b up_a.1 up_b.1 (λ query. same-behind x query a b up_a.0 below_b same_first))
      | Greater ↦ λ e. let less = Less-from_Greater x y e in
          absurd (no-member y b (x ∷ a) (less, IsBelow-all y x a less up_a.0) (λ text. sym (same text)))
    ] refl

IsBelow-map : {X : Type 0} (text_of : X → List ℕ) (item : X) (items : List X)
    → AllByRecursion (λ other. order (text_of item) (text_of other) ≡ Less) items
    → IsBelow (text_of item) (map text_of items)
IsBelow-map text_of item [] below = tt
IsBelow-map text_of item (other ∷ items) below = (below.0, IsBelow-map text_of item items below.1)

-- what the names are in order, once they are sorted and each is there once
pub sorted_lowercase_set-only : (names texts : List (List ℕ)) → IsSortedLowercaseSet names texts → texts
    ≡ sorted_lowercase_set names
sorted_lowercase_set-only names texts is =
    let set = sorted_lowercase_set-is names in
    unique texts (sorted_lowercase_set names) is.ascending set.ascending (λ text. is.members text
    ∙ sym (set.members text))

-- the texts of some items ascend where the items do by their texts
pub IsAscending-map : {X : Type 0} (text_of : X → List ℕ) (items : List X)
    → IsStrictlySortedBy (on text_of order) items → IsAscending (map text_of items)
unfolding IsStrictlySortedBy
IsAscending-map text_of [] up = tt
IsAscending-map text_of (item ∷ items) up = (IsBelow-map text_of item items up.0, IsAscending-map text_of items up.1)

-- a test of the texts of some items
any-map : {X : Type 0} (test : List ℕ → Bool) (text_of : X → List ℕ) (items : List X)
    → list_any test (map text_of items) ≡ list_any (λ item. test (text_of item)) items
any-map test text_of [] = refl
any-map test text_of (item ∷ items) = ap (λ v. test (text_of item) || v) (any-map test text_of items)

-- taking out what is there twice takes no text away
any-dedup_from : {X : Type 0} (text_of : X → List ℕ) (query : List ℕ) (item : X) (items : List X)
    → list_any (λ other. bytes_eq query (text_of other))
    (dedup_from (λ a b. bytes_eq (text_of a) (text_of b)) item items)
    ≡ list_any (λ other. bytes_eq query (text_of other)) (item ∷ items)
any-dedup_from text_of query item [] = refl
any-dedup_from text_of query item (next ∷ items) =
    elim (bytes_eq (text_of next) (text_of item)) as (λ v. bytes_eq (text_of next) (text_of item) ≡ v
    → list_any (λ other. bytes_eq query (text_of other))
    (cond v (dedup_from (λ a b. bytes_eq (text_of a) (text_of b)) item items) (item
    ∷ dedup_from (λ a b. bytes_eq (text_of a) (text_of b)) next items))
    ≡ (bytes_eq query (text_of item)
    || (bytes_eq query (text_of next) || list_any (λ other. bytes_eq query (text_of other)) items))) [
      | true ↦ λ e.
          let same : text_of next ≡ text_of item = (bytes_eq-Decides (text_of next) (text_of item)).0 e in
          any-dedup_from text_of query item items
          ∙ or-again (bytes_eq query (text_of item)) (list_any (λ other. bytes_eq query (text_of other)) items)
          ∙ ap (λ (t : List ℕ). bytes_eq query (text_of item)
          || (bytes_eq query t || list_any (λ other. bytes_eq query (text_of other)) items)) (sym same)
      | false ↦ λ e. ap (λ v. bytes_eq query (text_of item) || v) (any-dedup_from text_of query next items)
    ] refl

any-dedup : {X : Type 0} (text_of : X → List ℕ) (query : List ℕ) (items : List X)
    → list_any (λ other. bytes_eq query (text_of other)) (dedup (λ a b. bytes_eq (text_of a) (text_of b)) items)
    ≡ list_any (λ other. bytes_eq query (text_of other)) items
any-dedup text_of query [] = refl
any-dedup text_of query (item ∷ items) = any-dedup_from text_of query item items

-- neither does putting them in order
pub members-dedup : {X : Type 0} (text_of : X → List ℕ) (query : List ℕ) (items sorted : List X)
    → IsPermutation items sorted
    → list_any (bytes_eq query) (map text_of (dedup (λ a b. bytes_eq (text_of a) (text_of b)) sorted))
    ≡ list_any (bytes_eq query) (map text_of items)
members-dedup text_of query items sorted moved =
    any-map (bytes_eq query) text_of (dedup (λ a b. bytes_eq (text_of a) (text_of b)) sorted)
    ∙ any-dedup text_of query sorted
    ∙ sym (list_any-IsPermutation (λ other. bytes_eq query (text_of other)) items sorted moved)
    ∙ sym (any-map (bytes_eq query) text_of items)

-- texts that ascend and have the names in lower case as their members are their set
pub IsSortedLowercaseSet-from : (names found sorted texts : List (List ℕ)) → found ≡ map str_to_ascii_lowercase names
    → IsAscending sorted → ((query : List ℕ) → list_any (bytes_eq query) sorted ≡ list_any (bytes_eq query) found)
    → texts ≡ sorted → IsSortedLowercaseSet names texts
IsSortedLowercaseSet-from names found sorted texts are up members is =
    rw is (record {
      ascending = up;
      members = λ query. members query
          ∙ ap (λ (l : List (List ℕ)). list_any (bytes_eq query) l) are;
    })
