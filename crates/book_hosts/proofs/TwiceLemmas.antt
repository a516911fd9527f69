-- A name is there twice where it is in the set of the names before it.
use Rattle.std.proofs.Common.{◌≡◌, ◌<◌, ◌+◌, length, drop, get_or, ℕ, Bool, true, false, ◌||◌, not, List, [], ◌∷◌}
use Rattle.std.proofs.Common.{refl, ap, sym, ◌∙◌, cond, Bor}
use Rattle.std.proofs.lemmas.List.{drop_more}
use Rattle.std.specs.List.{list_any}
use Rattle.std.specs.Str.{bytes_eq}
use Rattle.std.specs.Cmp.Lexicographic.{slice_cmp, texts_ties}
use Rattle.std.specs.Ordering.{is_eq, nat_cmp}
use Rattle.value_lemmas.proofs.Tests.{cond-or}
use Rattle.book_hosts.specs.Field.{has_twice}
use Rattle.book_hosts.specs.declared.directives.Directive.{Directive}

-- the name is one of the keys
abbrev pub is_seen : List (Bor (List ℕ)) → List ℕ → Bool
is_seen keys name = list_any (λ key. bytes_eq name key.now) keys

-- one of the directives has a name of the keys, or has the name of a directive before it
abbrev pub names_twice : List (Bor (List ℕ)) → List Directive → Bool
names_twice keys [] = false
names_twice keys (directive ∷ directives) =
    (is_seen keys directive.name || list_any (λ other. bytes_eq directive.name other.name) directives)
    || names_twice keys directives

-- at first there are no names
pub names_twice-none : (directives : List Directive) → names_twice [] directives ≡ has_twice directives
names_twice-none [] = refl
names_twice-none (directive ∷ directives) =
    ap (λ b. list_any (λ other. bytes_eq directive.name other.name) directives || b) (names_twice-none directives)

-- what the set tells of a name
pub seen-contains : (keys : List (Bor (List ℕ))) (name : List ℕ)
    → list_any (λ key. is_eq (slice_cmp nat_cmp name key.now)) keys ≡ is_seen keys name
seen-contains [] name = refl
seen-contains (key ∷ keys) name = rw (← texts_ties name key.now, seen-contains keys name) refl

shuffled : (a b c d e : Bool) → ((a || b) || ((c || d) || e)) ≡ (((a || c) || d) || (b || e))
shuffled true b c d e = refl
shuffled false true true d e = refl
shuffled false true false true e = refl
shuffled false true false false e = refl
shuffled false false c d e = refl

-- a name more among the keys
moved : (keys more : List (Bor (List ℕ))) (name : List ℕ)
    → ((other : List ℕ) → is_seen more other ≡ (bytes_eq name other || is_seen keys other))
    → (directives : List Directive)
    → (list_any (λ other. bytes_eq name other.name) directives || names_twice keys directives)
    ≡ names_twice more directives
moved keys more name h [] = refl
moved keys more name h (directive ∷ directives) =
    shuffled (bytes_eq name directive.name) (list_any (λ other. bytes_eq name other.name) directives)
    (is_seen keys directive.name) (list_any (λ other. bytes_eq directive.name other.name) directives)
    (names_twice keys directives)
    ∙ rw (← h directive.name, moved keys more name h directives) refl

-- a directive whose name is new
pub names_twice-more : (keys more : List (Bor (List ℕ))) (key : Bor (List ℕ)) (directive : Directive)
    (directives : List Directive) → key.now ≡ directive.name
    → ((q : Bor (List ℕ)) → list_any (λ k. is_eq (slice_cmp nat_cmp q.now k.now)) more
    ≡ cond (is_eq (slice_cmp nat_cmp key.now q.now)) true
    (list_any (λ k. is_eq (slice_cmp nat_cmp q.now k.now)) keys))
    → list_any (λ k. is_eq (slice_cmp nat_cmp key.now k.now)) keys ≡ false
    → names_twice more directives ≡ names_twice keys (directive ∷ directives)
names_twice-more keys more key directive directives e h absent =
    let grown : (other : List ℕ) → is_seen more other ≡ (bytes_eq directive.name other || is_seen keys other) =
    λ other. sym (seen-contains more other) ∙ h (record { ref_ptr = (0, 0); now = other })
    ∙ rw (
      ← texts_ties key.now other,
      e,
      seen-contains keys other,
    ) (cond-or (bytes_eq directive.name other) (is_seen keys other)) in
    let new : is_seen keys directive.name ≡ false = sym (seen-contains keys directive.name) ∙ rw e at absent in
    sym (moved keys more directive.name grown directives) ∙ rw new refl

-- a directive whose name is not
pub names_twice-there : (keys : List (Bor (List ℕ))) (key : Bor (List ℕ)) (directive : Directive)
    (directives : List Directive) → key.now ≡ directive.name
    → list_any (λ k. is_eq (slice_cmp nat_cmp key.now k.now)) keys ≡ true → names_twice keys (directive ∷ directives)
    ≡ true
names_twice-there keys key directive directives e there =
    let old : is_seen keys directive.name ≡ true = sym (seen-contains keys directive.name) ∙ rw e at there in
    rw old refl

-- the directive at an index, and what is left there
pub directive-there : (directives : List Directive) (i : ℕ) (directive : Directive) → i < length directives
    → directive ≡ get_or directives i directive → drop i directives ≡ directive ∷ drop (i + 1) directives
directive-there directives i directive within e = drop_more directives i directive within
    ∙ ap (λ (d : Directive). d ∷ drop (i + 1) directives) (sym e)

-- what a call tells that answers whether a name is new
pub from-new : (b new : Bool) → new ≡ not b → new ≡ true → b ≡ false
from-new true new e f = cc
from-new false new e f = refl

pub from-old : (b new : Bool) → new ≡ not b → new ≡ false → b ≡ true
from-old true new e f = refl
from-old false new e f = cc
