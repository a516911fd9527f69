-- The host whose term ends first.
use Rattle.std.proofs.Common.{◌≡◌, ◌||◌, not, ℕ, Bool, true, false, List, [], ◌∷◌, filter, Option, Some, refl, ap}
use Rattle.std.proofs.Common.{sym, ◌∙◌, if◌then◌else◌}
use Rattle.std.specs.Cmp.{nat_cmp_total}
use Rattle.std.specs.List.{AllByRecursion, list_any}
use Rattle.std.specs.Ordering.{is_eq, is_gt, is_lt, nat_cmp, ordering_reverse, ordering_then}
use Rattle.std.specs.Str.{bytes_eq}
use Rattle.std.specs.declared.cmp.Ordering.{Ordering}
use Rattle.std.specs.declared.cmp.Ordering.TheVariants.{Equal, Greater, Less}
use Rattle.value_lemmas.proofs.Bytes.{bytes_eq-self, bytes_eq-true}
use Rattle.book_hosts.specs.Hosts.{AreSorted, ends_before, holds, without, without_first_to_end}
use Rattle.value_text.specs.Orders.{text_cmp}
use Rattle.book_hosts.specs.Private.Terms.{term_in}
use Rattle.book_hosts.specs.declared.hosts.KnownHost.{KnownHost}
use Rattle.book_hosts.specs.declared.index.Term.{Term}
use Rattle.book_hosts.proofs.OrderLemmas.{bytes-flip, bytes-order, flipped, less-apart}
use Rattle.book_hosts.proofs.SortedLemmas.{term_from}

-- ---- what holds of each host

each-both : {P Q R : KnownHost → Type 0} → ((known : KnownHost) → P known → Q known → R known)
    → (hosts : List KnownHost) → AllByRecursion P hosts → AllByRecursion Q hosts → AllByRecursion R hosts
each-both f [] p q = tt
each-both f (known ∷ hosts) p q = (f known p.0 q.0, each-both f hosts p.1 q.1)

pass-over : (known other : KnownHost) (hosts : List KnownHost) (found : Option Term) → text_cmp known.host other.host
    ≡ Less → term_in other.host hosts ≡ found → term_in other.host (known ∷ hosts) ≡ found
pass-over known other hosts found less e = rw (less-apart known.host other.host less) e

-- each host of a sorted list is looked up by its name
pub each-term : (hosts : List KnownHost) → AreSorted hosts
    → AllByRecursion (λ known. term_in known.host hosts ≡ Some (term_from known)) hosts
each-term [] sorted = tt
each-term (known ∷ hosts) sorted = (
  rw (bytes_eq-self known.host) refl,
  each-both (λ other. pass-over known other hosts (Some (term_from other))) hosts sorted.0 (each-term hosts sorted.1),
)

-- a term that is looked up is that of a host
pub term-holds : (host : List ℕ) (hosts : List KnownHost) (term : Term) → term_in host hosts ≡ Some term
    → holds host hosts ≡ true
term-holds host [] term e = cc
term-holds host (known ∷ hosts) term e = by-here (bytes_eq known.host host) (λ f. term-holds host hosts term f) e
  where
    by-here : (here : Bool) → (term_in host hosts ≡ Some term → holds host hosts ≡ true)
        → (if here then Some (term_from known) else term_in host hosts) ≡ Some term → (here || holds host hosts) ≡ true
    by-here true h f = refl
    by-here false h f = h f

-- and passes each test that such a host passes
any-from : (test : KnownHost → Bool) (host : List ℕ) (hosts : List KnownHost) (term : Term) → term_in host hosts
    ≡ Some term
    → ((known : KnownHost) → known.host ≡ host → known.until ≡ term.until → test known ≡ true) → list_any test hosts
    ≡ true
any-from test host [] term e passes = cc
any-from test host (known ∷ hosts) term e passes =
    by-here (bytes_eq known.host host) refl (λ f. any-from test host hosts term f passes) e
  where
    by-here : (here : Bool) → bytes_eq known.host host ≡ here
        → (term_in host hosts ≡ Some term → list_any test hosts ≡ true)
        → (if here then Some (term_from known) else term_in host hosts) ≡ Some term
        → (test known || list_any test hosts) ≡ true
    by-here true same h f =
        let until : known.until ≡ term.until = cc in
        rw (passes known (bytes_eq-true known.host host same) until) refl
    by-here false same h f = rw (h f) (or-true (test known))
      where
        or-true : (b : Bool) → (b || true) ≡ true
        or-true true = refl
        or-true false = refl

none-from : (test : KnownHost → Bool) (hosts : List KnownHost) → AllByRecursion (λ known. test known ≡ false) hosts
    → list_any test hosts ≡ false
none-from test [] each = refl
none-from test (known ∷ hosts) each = rw (each.0, none-from test hosts each.1) refl

filter-same : (p q : KnownHost → Bool) (hosts : List KnownHost) → AllByRecursion (λ known. p known ≡ q known) hosts
    → filter p hosts ≡ filter q hosts
filter-same p q [] each = refl
filter-same p q (known ∷ hosts) each = rw (each.0, filter-same p q hosts each.1) refl

-- ---- the order of ends

abbrev pub end_order : ℕ → List ℕ → KnownHost → Ordering
end_order until host known = ordering_then (nat_cmp until known.until) (text_cmp host known.host)

reverse-then : (o p : Ordering) → ordering_then (ordering_reverse o) (ordering_reverse p)
    ≡ ordering_reverse (ordering_then o p)
reverse-then Less p = refl
reverse-then Equal p = refl
reverse-then Greater p = refl

reverse-lt : (o : Ordering) → is_lt (ordering_reverse o) ≡ is_gt o
reverse-lt Less = refl
reverse-lt Equal = refl
reverse-lt Greater = refl

-- a host does not end before the first one
not-before : (other known : KnownHost) → is_gt (end_order known.until known.host other) ≡ false
    → ends_before other known ≡ false
not-before other known h =
    let turn : ordering_then (nat_cmp other.until known.until) (text_cmp other.host known.host)
    ≡ ordering_reverse (end_order known.until known.host other) =
    rw (
      nat_cmp_total.antisymm other.until known.until,
      flipped other.host known.host,
    )
    (reverse-then (nat_cmp known.until other.until) (text_cmp known.host other.host)) in
    ap is_lt turn ∙ reverse-lt (end_order known.until known.host other) ∙ h

lt-by : (o p : Ordering) → is_gt (ordering_then o p) ≡ false → is_eq p ≡ false → is_lt (ordering_then o p) ≡ true
lt-by Less p h e = refl
lt-by Equal Less h e = refl
lt-by Equal Equal h e = sym e
lt-by Equal Greater h e = sym h
lt-by Greater p h e = sym h

-- and the first one ends before each other host
first-before : (first known : KnownHost) → is_gt (end_order first.until first.host known) ≡ false
    → bytes_eq first.host known.host ≡ false → ends_before first known ≡ true
first-before first known h other =
    lt-by (nat_cmp first.until known.until) (text_cmp first.host known.host) h
    (sym (bytes-order first.host known.host) ∙ other)

-- ---- so all but it are those that another ends before

kept-by : (host : List ℕ) (term : Term) (hosts : List KnownHost) (known : KnownHost) (here : Bool)
    → bytes_eq known.host host ≡ here → term_in host hosts ≡ Some term
    → AllByRecursion (λ other. is_gt (end_order term.until host other) ≡ false) hosts
    → term_in known.host hosts ≡ Some (term_from known) → is_gt (end_order term.until host known) ≡ false
    → list_any (λ other. ends_before other known) hosts ≡ not here
kept-by host term hosts known true same there each found late =
    let named : known.host ≡ host = bytes_eq-true known.host host same in
    let both : Some (term_from known) ≡ Some term = sym found ∙ ap (λ text. term_in text hosts) named ∙ there in
    let until : known.until ≡ term.until = cc in
    none-from (λ other. ends_before other known) hosts
    (each-both {P = λ other. is_gt (end_order term.until host other) ≡ false} {Q =
    λ other. is_gt (end_order term.until host other) ≡ false}
    (λ other p q. not-before other known (ap (λ u. is_gt (end_order u known.host other)) until
    ∙ ap (λ text. is_gt (end_order term.until text other)) named ∙ p)) hosts each each)
kept-by host term hosts known false same there each found late =
    any-from (λ other. ends_before other known) host hosts term there
    (λ first named until.
    let late_first : is_gt (end_order first.until first.host known) ≡ false =
    ap (λ u. is_gt (end_order u first.host known)) until
    ∙ ap (λ text. is_gt (end_order term.until text known)) named ∙ late in
    let other : bytes_eq first.host known.host ≡ false = ap (λ text. bytes_eq text known.host) named
    ∙ bytes-flip host known.host ∙ same in
    first-before first known late_first other)

pub first-goes : (host : List ℕ) (term : Term) (hosts : List KnownHost) → AreSorted hosts → term_in host hosts
    ≡ Some term → AllByRecursion (λ other. is_gt (end_order term.until host other) ≡ false) hosts
    → without_first_to_end hosts ≡ without host hosts
first-goes host term hosts sorted there each =
    filter-same (λ known. list_any (λ other. ends_before other known) hosts) (λ known. not (bytes_eq known.host host))
    hosts
    (each-both (λ known found late. kept-by host term hosts known (bytes_eq known.host host) refl there each found
    late) hosts (each-term hosts sorted) each)
