-- What every list of known hosts is stays so where one is put in or taken out.
use Rattle.std.proofs.Common.{◌≡◌, Bool, true, false, cond, List, [], ◌∷◌, ◌++◌, filter, refl, ◌∙◌}
use Rattle.std.specs.Ordering.{is_gt, is_lt, ordering_reverse}
use Rattle.std.specs.declared.cmp.Ordering.{Ordering}
use Rattle.std.specs.declared.cmp.Ordering.TheVariants.{Equal, Greater, Less}
use Rattle.book_hosts.specs.Hosts.{AreSorted, with_host}
use Rattle.std.specs.List.{AllByRecursion}
use Rattle.value_lemmas.proofs.Tests.{is_lt-true}
use Rattle.value_text.specs.Orders.{text_cmp}
use Rattle.book_hosts.specs.declared.hosts.KnownHost.{KnownHost}
use Rattle.book_hosts.proofs.OrderLemmas.{chained, flipped}

-- ---- what holds of each host

each-map : (P Q : KnownHost → Type 0) → ((known : KnownHost) → P known → Q known) → (hosts : List KnownHost)
    → AllByRecursion P hosts → AllByRecursion Q hosts
each-map P Q f [] each = tt
each-map P Q f (known ∷ hosts) each = (f known each.0, each-map P Q f hosts each.1)

each-append : (P : KnownHost → Type 0) (a b : List KnownHost) → AllByRecursion P a → AllByRecursion P b
    → AllByRecursion P (a ++ b)
each-append P [] b each others = others
each-append P (known ∷ a) b each others = (each.0, each-append P a b each.1 others)

each-kept : (P : KnownHost → Type 0) (p : KnownHost → Bool) (hosts : List KnownHost) → AllByRecursion P hosts
    → AllByRecursion P (filter p hosts)
each-kept P p [] each = tt
each-kept P p (known ∷ hosts) each = by (p known) (each-kept P p hosts each.1)
  where
    by : (kept : Bool) → AllByRecursion P (filter p hosts)
        → AllByRecursion P (cond kept (known ∷ filter p hosts) (filter p hosts))
    by true rest = (each.0, rest)
    by false rest = rest

each-passing : (P : KnownHost → Type 0) (p : KnownHost → Bool) → ((known : KnownHost) → p known ≡ true → P known)
    → (hosts : List KnownHost) → AllByRecursion P (filter p hosts)
each-passing P p f [] = tt
each-passing P p f (known ∷ hosts) = by (p known) refl (each-passing P p f hosts)
  where
    by : (kept : Bool) → p known ≡ kept → AllByRecursion P (filter p hosts)
        → AllByRecursion P (cond kept (known ∷ filter p hosts) (filter p hosts))
    by true is rest = (f known is, rest)
    by false is rest = rest

-- ---- the order

pub sorted-kept : (p : KnownHost → Bool) (hosts : List KnownHost) → AreSorted hosts → AreSorted (filter p hosts)
sorted-kept p [] sorted = tt
sorted-kept p (known ∷ hosts) sorted = by (p known) (sorted-kept p hosts sorted.1)
  where
    by : (kept : Bool) → AreSorted (filter p hosts) → AreSorted (cond kept (known ∷ filter p hosts) (filter p hosts))
    by true rest = (each-kept (λ other. text_cmp known.host other.host ≡ Less) p hosts sorted.0, rest)
    by false rest = rest

sorted-joined : (new : KnownHost) (a b : List KnownHost) → AreSorted a → AreSorted b
    → AllByRecursion (λ known. text_cmp known.host new.host ≡ Less) a
    → AllByRecursion (λ known. text_cmp new.host known.host ≡ Less) b
    → AreSorted (a ++ (new ∷ b))
sorted-joined new [] b front back before behind = (behind, back)
sorted-joined new (known ∷ a) b front back before behind = (
  each-append (λ other. text_cmp known.host other.host ≡ Less) a (new ∷ b) front.0 (
    before.0,
    each-map (λ other. text_cmp new.host other.host ≡ Less)
        (λ other. text_cmp known.host other.host ≡ Less)
        (λ other less. chained known.host new.host other.host before.0 less) b behind,
  ),
  sorted-joined new a b front.1 back before.1 behind,
)

gt-less : (o : Ordering) → is_gt o ≡ true → ordering_reverse o ≡ Less
gt-less Less e = absurd (cc)
gt-less Equal e = absurd (cc)
gt-less Greater e = refl

pub sorted-with : (new : KnownHost) (hosts : List KnownHost) → AreSorted hosts → AreSorted (with_host new hosts)
sorted-with new hosts sorted =
    sorted-joined new (filter (λ known. is_lt (text_cmp known.host new.host)) hosts)
    (filter (λ known. is_gt (text_cmp known.host new.host)) hosts)
    (sorted-kept (λ known. is_lt (text_cmp known.host new.host)) hosts sorted)
    (sorted-kept (λ known. is_gt (text_cmp known.host new.host)) hosts sorted)
    (each-passing (λ known. text_cmp known.host new.host ≡ Less) (λ known. is_lt (text_cmp known.host new.host))
    (λ known e. is_lt-true (text_cmp known.host new.host) e) hosts)
    (each-passing (λ known. text_cmp new.host known.host ≡ Less) (λ known. is_gt (text_cmp known.host new.host))
    (λ known e. flipped new.host known.host ∙ gt-less (text_cmp known.host new.host) e) hosts)
