-- Hosts in order: which may stand last.
use Rattle.std.proofs.Common.{◌≡◌, ◌&&◌, ℕ, zero, suc, Bool, true, false, List, [], ◌∷◌}
use Rattle.std.proofs.Common.{◌++◌, length, filter, arith, refl, ap, sym, subst, ◌∙◌, Some, if◌then◌else◌}
use Rattle.std.proofs.Common.{length-append}
use Rattle.std.proofs.lemmas.Bool.{and_from, and_parts, lt-ltb, ltb-true}
use Rattle.std.proofs.lemmas.List.Elements.{recursion_from_All}
use Rattle.std.specs.List.{All, AllByRecursion, list_all, slice_get}
use Rattle.std.specs.Map.{keys_of}
use Rattle.std.specs.Ordering.{is_gt, is_lt, ordering_reverse}
use Rattle.std.specs.Prelude.{nat_lt}
use Rattle.std.specs.declared.cmp.Ordering.{Ordering}
use Rattle.std.specs.declared.cmp.Ordering.TheVariants.{Equal, Greater, Less}
use Rattle.value_lemmas.proofs.Tests.{is_lt-true}
use Rattle.book_hosts.specs.Hosts.{AreHosts, AreSorted, ExtendsExactly, extended, may_stand_last, with_host}
use Rattle.book_hosts.specs.Private.Index.{known_of, listed}
use Rattle.book_hosts.specs.declared.hosts.KnownHost.{KnownHost}
use Rattle.book_hosts.specs.declared.index.Term.{Term}
use Rattle.value_text.specs.Orders.{text_cmp}
use Rattle.book_hosts.proofs.OrderLemmas.{chained, flipped, text-equal}

-- ---- all come before a text where the last does

abbrev pub is_before : List ℕ → KnownHost → Bool
is_before host known = is_lt (text_cmp known.host host)

-- what is not after a text that comes before another comes before that
not-after : (a b c : List ℕ) (o : Ordering) → text_cmp a b ≡ o → is_lt o ≡ false → text_cmp a c ≡ Less
    → is_lt (text_cmp b c) ≡ true
not-after a b c Less is none before = absurd (cc)
not-after a b c Equal is none before = ap is_lt (subst (λ t. text_cmp t c ≡ Less) (text-equal a b is) before)
not-after a b c Greater is none before =
    let back : text_cmp b a ≡ Less = flipped b a ∙ ap ordering_reverse is in
    ap is_lt (chained b a c back before)

module _ {V : Type 0} (items : V → List ℕ) where
  all-before : (last host : List ℕ) (es : List (V × Term))
      → AllByRecursion (λ q. is_lt (text_cmp last (items q)) ≡ false) (keys_of es) → text_cmp last host ≡ Less
      → list_all (is_before host) (listed items es) ≡ true
  all-before last host [] all before = refl
  all-before last host (e ∷ es) all before =
      rw (not-after last (items e.0) host (text_cmp last (items e.0)) refl all.0 before)
      (all-before last host es all.1 before)

  last-not : (host : List ℕ) (name : V) (term : Term) (es : List (V × Term)) (at : ℕ)
      → slice_get es at ≡ Some (name, term) → is_lt (text_cmp (items name) host) ≡ false
      → list_all (is_before host) (listed items es) ≡ false
  last-not host name term [] at is none = absurd (cc)
  last-not host name term (e ∷ es) zero is none =
      let here : e ≡ (name, term) = cc in
      subst (λ (d : V × Term). list_all (is_before host) (listed items (d ∷ es)) ≡ false) (sym here)
      (ap (λ b. b && list_all (is_before host) (listed items es)) none)
  last-not host name term (e ∷ es) (suc at) is none =
      rw (last-not host name term es at is none) (never (is_before host (known_of items e)))
    where
      never : (b : Bool) → (b && false) ≡ false
      never true = refl
      never false = refl

  decided : (host : List ℕ) (name : V) (term : Term) (es : List (V × Term)) (at : ℕ) (o : Ordering)
      → text_cmp (items name) host ≡ o → slice_get es at ≡ Some (name, term)
      → AllByRecursion (λ q. is_lt (text_cmp (items name) (items q)) ≡ false) (keys_of es)
      → is_lt o ≡ list_all (is_before host) (listed items es)
  decided host name term es at Less same is all = sym (all-before (items name) host es all same)
  decided host name term es at Equal same is all = sym (last-not host name term es at is (ap is_lt same))
  decided host name term es at Greater same is all = sym (last-not host name term es at is (ap is_lt same))

  -- all hosts come before a text exactly where the last does
  pub last-decides : (host : List ℕ) (name : V) (term : Term) (es : List (V × Term)) (at : ℕ)
      → slice_get es at ≡ Some (name, term)
      → All (λ q. is_lt (text_cmp (items name) (items q)) ≡ false) (keys_of es)
      → is_lt (text_cmp (items name) host) ≡ list_all (is_before host) (listed items es)
  last-decides host name term es at is all =
      decided host name term es at (text_cmp (items name) host) refl is (recursion_from_All _ (keys_of es) all)

-- ---- a host behind all

all-kept : (new : KnownHost) (hosts : List KnownHost) → list_all (is_before new.host) hosts ≡ true
    → filter (is_before new.host) hosts ≡ hosts
all-kept new [] all = refl
all-kept new (known ∷ hosts) all =
    rw (and_parts (is_before new.host known) (list_all (is_before new.host) hosts) all).0
    (ap (λ l. known ∷ l)
    (all-kept new hosts (and_parts (is_before new.host known) (list_all (is_before new.host) hosts) all).1))

none-behind : (new : KnownHost) (hosts : List KnownHost) → list_all (is_before new.host) hosts ≡ true
    → filter (λ known. is_gt (text_cmp known.host new.host)) hosts ≡ []
none-behind new [] all = refl
none-behind new (known ∷ hosts) all =
    let is : text_cmp known.host new.host ≡ Less =
    is_lt-true (text_cmp known.host new.host)
    (and_parts (is_before new.host known) (list_all (is_before new.host) hosts) all).0 in
    rw is (none-behind new hosts (and_parts (is_before new.host known) (list_all (is_before new.host) hosts) all).1)

pub put-last : (new : KnownHost) (hosts : List KnownHost) → list_all (is_before new.host) hosts ≡ true
    → with_host new hosts ≡ hosts ++ new ∷ []
put-last new hosts all =
    (λ i. all-kept new hosts all i ++ (new ∷ none-behind new hosts all i))

-- ---- and the list is sorted

pub sorted-more : (new : KnownHost) (hosts : List KnownHost) → AreSorted hosts
    → list_all (is_before new.host) hosts ≡ true → AreSorted (hosts ++ new ∷ [])
sorted-more new [] sorted all = (tt, tt)
sorted-more new (known ∷ hosts) sorted all = (
  add hosts sorted.0,
  sorted-more new hosts sorted.1 (and_parts (is_before new.host known) (list_all (is_before new.host) hosts) all).1,
)
  where
    here : text_cmp known.host new.host ≡ Less
    here = is_lt-true (text_cmp known.host new.host)
        (and_parts (is_before new.host known) (list_all (is_before new.host) hosts) all).0

    add : (others : List KnownHost) → AllByRecursion (λ other. text_cmp known.host other.host ≡ Less) others
        → AllByRecursion (λ other. text_cmp known.host other.host ≡ Less) (others ++ new ∷ [])
    add [] after = (here, tt)
    add (other ∷ others) after = (after.0, add others after.1)

pub sorted-back : (new : KnownHost) (hosts : List KnownHost) → AreSorted (hosts ++ new ∷ [])
    → list_all (is_before new.host) hosts ≡ true
sorted-back new [] sorted = refl
sorted-back new (known ∷ hosts) sorted =
    rw (ap is_lt (found hosts sorted.0)) (sorted-back new hosts sorted.1)
  where
    found : (others : List KnownHost)
        → AllByRecursion (λ other. text_cmp known.host other.host ≡ Less) (others ++ new ∷ [])
        → text_cmp known.host new.host ≡ Less
    found [] after = after.0
    found (other ∷ others) after = found others after.1

-- ---- and few

pub hosts-more : (new : KnownHost) (hosts : List KnownHost) → AreHosts hosts → may_stand_last new hosts ≡ true
    → AreHosts (hosts ++ new ∷ [])
hosts-more new hosts are may =
    let few = ltb-true (length hosts) 4096
    (and_parts (nat_lt (length hosts) 4096) (list_all (is_before new.host) hosts) may).0 in
    record {
      sorted = sorted-more new hosts are.sorted
          (and_parts (nat_lt (length hosts) 4096) (list_all (is_before new.host) hosts) may).1;
      few = omega (arith, few, length-append hosts (new ∷ []));
    }

hosts-back : (new : KnownHost) (hosts : List KnownHost) → AreHosts (hosts ++ new ∷ [])
    → may_stand_last new hosts ≡ true
hosts-back new hosts are =
    and_from (nat_lt (length hosts) 4096) (list_all (is_before new.host) hosts)
    (lt-ltb (length hosts) 4096 (omega (arith, are.few, length-append hosts (new ∷ []))))
    (sorted-back new hosts are.sorted)

pub extends-exactly : ExtendsExactly
extends-exactly new hosts are = (hosts-more new hosts are, hosts-back new hosts)

-- ---- what a list becomes

by-may : (b : Bool) (new : KnownHost) (hosts : List KnownHost) → AreHosts hosts
    → (b ≡ true → AreHosts (hosts ++ new ∷ [])) → AreHosts (if b then hosts ++ new ∷ [] else hosts)
by-may true new hosts are more = more refl
by-may false new hosts are more = are

pub extended-hosts : (new : KnownHost) (hosts : List KnownHost) → AreHosts hosts → AreHosts (extended new hosts)
extended-hosts new hosts are = by-may (may_stand_last new hosts) new hosts are (hosts-more new hosts are)

pub extended-last : (new : KnownHost) (hosts : List KnownHost) → true ≡ may_stand_last new hosts
    → with_host new hosts ≡ extended new hosts
extended-last new hosts stands =
    put-last new hosts (and_parts (nat_lt (length hosts) 4096) (list_all (is_before new.host) hosts) (sym stands)).1
    ∙ ap (λ (b : Bool). if b then hosts ++ new ∷ [] else hosts) stands
