-- What is read keeps: a fact goes through each step of a reading.
use Rattle.std.proofs.Common.{◌≡◌, ℕ, ◌+◌, ◌≤◌, Bool, true, false, List, [], ◌∷◌, length, Option, Some, None, Ok, Err}
use Rattle.std.proofs.Common.{refl, arith, if◌then◌else◌}
use Rattle.std.specs.Prelude.{◌&&◌, bytes_eq, nat_le, decimal, option_and_then, IfSome, IsTrue}
use Rattle.std.specs.List.{All, AllByRecursion}
use Rattle.std.proofs.lemmas.Bool.{leb-true}
use Rattle.std.proofs.lemmas.List.Elements.{All-nil, All-cons}
use Rattle.serde_json.specs.Data.{Data, Items, no_items, item}
use Rattle.serde_json.specs.Find.{get, as_str, as_array, as_number, as_u64}
use Rattle.value_json.specs.Reading.{Read, ◌>>=◌, under, present, given, number_of, text_that, meaning, word_of}
use Rattle.value_json.specs.Reading.{some_of}
use Rattle.value_json.specs.Reading.{found_or, required, optional, count, each_from, items_of, list_of, two_of}
use Rattle.value_json.specs.Reading.{pair_of}

-- the value has the property, where one is read
abbrev pub Keeps : {A : Type 0} → (A → Type 0) → Read A → Type 0
Keeps P (Ok x) = P x
Keeps P (Err place) = Unit {0}

-- any value
abbrev pub Anything : {A : Type 0} → A → Type 0
Anything x = Unit {0}

pub keeps-anything : {A : Type 0} (read : Read A) → Keeps Anything read
keeps-anything (Ok x) = tt
keeps-anything (Err place) = tt

pub keeps-weaker : {A : Type 0} (P Q : A → Type 0) (read : Read A) → ((x : A) → P x → Q x) → Keeps P read → Keeps Q read
keeps-weaker P Q (Ok x) goes kept = goes x kept
keeps-weaker P Q (Err place) goes kept = tt

pub keeps-then : {A B : Type 0} (P : A → Type 0) (Q : B → Type 0) (read : Read A) (next : A → Read B)
    → Keeps P read → ((x : A) → P x → Keeps Q (next x)) → Keeps Q (read >>= next)
keeps-then P Q (Ok x) next kept goes = goes x kept
keeps-then P Q (Err place) next kept goes = tt

pub keeps-under : {A : Type 0} (P : A → Type 0) (segment : List ℕ) (read : Read A) → Keeps P read
    → Keeps P (under segment read)
keeps-under P segment (Ok x) kept = kept
keeps-under P segment (Err place) kept = tt

pub keeps-given : {A : Type 0} (P : A → Type 0) (passes : Bool) (x : A) → (IsTrue passes → P x)
    → Keeps P (given passes x)
keeps-given P true x kept = kept refl
keeps-given P false x kept = tt

pub keeps-if : {A : Type 0} (P : A → Type 0) (test : Bool) (one other : Read A) → Keeps P one → Keeps P other
    → Keeps P (if test then one else other)
keeps-if P true one other first second = first
keeps-if P false one other first second = second

-- what is there, where it has the property
pub keeps-there : {A : Type 0} (P : A → Type 0) (found : Option A) → IfSome found P → Keeps P (present found)
keeps-there P None is = tt
keeps-there P (Some x) is = is

pub keeps-present : {A : Type 0} (found : Option A) → Keeps (λ x. found ≡ Some x) (present found)
keeps-present None = tt
keeps-present (Some x) = refl

pub keeps-found_or : {A : Type 0} (P : A → Type 0) (default : Read A) (read : Data → Read A) (found : Option Data)
    → Keeps P default → ((tree : Data) → Keeps P (read tree)) → Keeps P (found_or default read found)
keeps-found_or P default read None kept each = kept
keeps-found_or P default read (Some tree) kept each = each tree

-- a step whose value has no property that is used
pub keeps-after : {A B : Type 0} (Q : B → Type 0) (read : Read A) (next : A → Read B) → ((x : A) → Keeps Q (next x))
    → Keeps Q (read >>= next)
keeps-after Q read next goes = keeps-then Anything Q read next (keeps-anything read) (λ x _. goes x)

-- a key's value, and what is read after it
pub keeps-required : {A B : Type 0} (P : A → Type 0) (Q : B → Type 0) (name : List ℕ) (read : Data
    → Read A) (tree : Data) (next : A → Read B)
    → ((inside : Data) → Keeps P (read inside)) → ((x : A) → P x → Keeps Q (next x))
    → Keeps Q (required name read tree >>= next)
keeps-required P Q name read tree next each goes =
    keeps-then P Q (required name read tree) next
    (keeps-under P name (found_or (Err []) read (get name tree))
    (keeps-found_or P (Err []) read (get name tree) tt each)) goes

pub keeps-optional : {A B : Type 0} (P : A → Type 0) (Q : B → Type 0) (name : List ℕ) (default : A) (read : Data
    → Read A) (tree : Data) (next : A → Read B)
    → P default → ((inside : Data) → Keeps P (read inside)) → ((x : A) → P x → Keeps Q (next x))
    → Keeps Q (optional name default read tree >>= next)
keeps-optional P Q name default read tree next kept each goes =
    keeps-then P Q (optional name default read tree) next
    (keeps-under P name (found_or (Ok default) read (get name tree))
    (keeps-found_or P (Ok default) read (get name tree) kept each)) goes

-- at most this many values, each of which has the property
pub record IsListOf {A : Type 0} (P : A → Type 0) (most : ℕ) (xs : List A) : Type 0 where
  pub few : length xs ≤ most
  pub all : All P xs

pub keeps-each : {A : Type 0} (P : A → Type 0) (read : Data → Read A) → ((tree : Data) → Keeps P (read tree))
    → (i : ℕ) (items : Items) → Keeps (IsListOf P (count items)) (each_from read i items)
keeps-each P read each i no_items = record { few = omega arith; all = All-nil P }
keeps-each P read each i (item tree items) =
    keeps-then P (IsListOf P (count (item tree items))) (under (decimal i) (read tree))
    (λ x. each_from read (i + 1) items >>= (λ xs. Ok (x ∷ xs)))
    (keeps-under P (decimal i) (read tree) (each tree))
    (λ x kept. keeps-then (IsListOf P (count items)) (IsListOf P (count (item tree items)))
    (each_from read (i + 1) items) (λ xs. Ok (x ∷ xs))
    (keeps-each P read each (i + 1) items)
    (λ xs rest. record { few = omega (arith, rest.few); all = All-cons P x xs kept rest.all }))

pub keeps-items : {A : Type 0} (P : A → Type 0) (read : Data → Read A)
    → ((inside : Data) → Keeps P (read inside)) → (tree : Data) → Keeps (λ xs. All P xs) (items_of read tree)
keeps-items P read each tree =
    keeps-after (λ xs. All P xs) (present (as_array tree)) (λ items. each_from read 0 items)
    (λ items. keeps-weaker (IsListOf P (count items)) (λ xs. All P xs) (each_from read 0 items) (λ xs kept. kept.all)
    (keeps-each P read each 0 items))

pub keeps-list : {A : Type 0} (P : A → Type 0) (most : ℕ) (read : Data → Read A)
    → ((inside : Data) → Keeps P (read inside)) → (tree : Data) → Keeps (IsListOf P most) (list_of most read tree)
keeps-list P most read each tree =
    keeps-after (IsListOf P most) (present (as_array tree))
    (λ items. given (nat_le (count items) most) items >>= (λ few. each_from read 0 few))
    (λ items. keeps-then (λ few. IsTrue (nat_le (count few) most)) (IsListOf P most)
    (given (nat_le (count items) most) items) (λ few. each_from read 0 few)
    (keeps-given (λ few. IsTrue (nat_le (count few) most)) (nat_le (count items) most) items (λ holds. holds))
    (λ few holds. keeps-weaker (IsListOf P (count few)) (IsListOf P most) (each_from read 0 few)
    (λ xs kept. record { few = omega (arith, kept.few, leb-true (count few) most holds); all = kept.all })
    (keeps-each P read each 0 few)))

-- ---- values of one form

pub both : (a b : Bool) → IsTrue (a && b) → IsTrue a × IsTrue b
both true b holds = (refl, holds)
both false b holds = let no : ⊥ = cc in absurd no

-- the number is from least to most
abbrev pub Within : ℕ → ℕ → ℕ → Type 0
Within least most n = (least ≤ n) × (n ≤ most)

pub keeps-number : (least most : ℕ) (tree : Data) → Keeps (Within least most) (number_of least most tree)
keeps-number least most tree =
    keeps-after (Within least most) (present (option_and_then as_u64 (as_number tree))) _
    (λ n. keeps-given (Within least most) (nat_le least n && nat_le n most) n
    (λ holds. let h = both (nat_le least n) (nat_le n most) holds in (leb-true least n h.0, leb-true n most h.1)))

if_some : {A : Type 0} (P : A → Type 0) (test : Bool) (x : A) (other : Option A) → P x → IfSome other P
    → IfSome (if test then Some x else other) P
if_some P true x other is or = is
if_some P false x other is or = or

-- the meaning of a word is one of the table
meant : {A : Type 0} (P : A → Type 0) (words : List (List ℕ × A)) (text : List ℕ)
    → AllByRecursion (λ (entry : List ℕ × A). P entry.1) words → IfSome (meaning words text) P
meant P [] text all = tt
meant P (entry ∷ words) text all =
    if_some P (bytes_eq entry.0 text) entry.1 (meaning words text) all.0 (meant P words text all.1)

pub keeps-word : {A : Type 0} (P : A → Type 0) (words : List (List ℕ × A))
    → AllByRecursion (λ (entry : List ℕ × A). P entry.1) words → (tree : Data) → Keeps P (word_of words tree)
keeps-word P words all tree =
    keeps-after P (present (as_str tree)) (λ text. present (meaning words text))
    (λ text. keeps-there P (meaning words text) (meant P words text all))

pub keeps-text_that : (passes : List ℕ → Bool) (tree : Data)
    → Keeps (λ text. IsTrue (passes text)) (text_that passes tree)
keeps-text_that passes tree =
    keeps-after (λ text. IsTrue (passes text)) (present (as_str tree)) (λ text. given (passes text) text)
    (λ text. keeps-given (λ (t : List ℕ). IsTrue (passes t)) (passes text) text (λ holds. holds))

pub keeps-some : {A : Type 0} (P : A → Type 0) (read : Data → Read A)
    → ((inside : Data) → Keeps P (read inside)) → (tree : Data) → Keeps (λ x. IfSome x P) (some_of read tree)
keeps-some P read each tree = keeps-then P (λ x. IfSome x P) (read tree) (λ x. Ok (Some x)) (each tree) (λ x kept. kept)

keeps-pair : {A B : Type 0} (P : A → Type 0) (Q : B → Type 0) (first : Data → Read A) (second : Data → Read B)
    → ((inside : Data) → Keeps P (first inside)) → ((inside : Data) → Keeps Q (second inside))
    → (tree : Data) → Keeps (λ (pair : A × B). P pair.0 × Q pair.1) (pair_of first second tree)
keeps-pair {A} {B} P Q first second each other tree =
    let Both : A × B → Type 0 = λ pair. P pair.0 × Q pair.1 in
    keeps-after Both (present (option_and_then two_of (as_array tree))) _ (λ two.
    keeps-then P Both (under (decimal 0) (first two.0)) (λ x. under (decimal 1) (second two.1) >>= (λ y. Ok (x, y)))
    (keeps-under P (decimal 0) (first two.0) (each two.0)) (λ x one.
    keeps-then Q Both (under (decimal 1) (second two.1)) (λ y. Ok (x, y))
    (keeps-under Q (decimal 1) (second two.1) (other two.1)) (λ y two. (one, two))))

-- the two parts of a pair, and what is read after them
pub keeps-parts : {A B C : Type 0} (P : A → Type 0) (Q : B → Type 0) (R : C → Type 0) (first : Data
    → Read A) (second : Data → Read B) (tree : Data) (next : A × B → Read C)
    → ((inside : Data) → Keeps P (first inside)) → ((inside : Data) → Keeps Q (second inside))
    → ((x : A) (y : B) → P x → Q y → Keeps R (next (x, y))) → Keeps R (pair_of first second tree >>= next)
keeps-parts {A} {B} P Q R first second tree next each other goes =
    keeps-then (λ (pair : A × B). P pair.0 × Q pair.1) R (pair_of first second tree) next
    (keeps-pair P Q first second each other tree) (λ pair is. goes pair.0 pair.1 is.0 is.1)
