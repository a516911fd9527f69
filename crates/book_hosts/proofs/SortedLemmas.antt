-- Sorted lists of known hosts: a host looked up, taken out and put in.
use Rattle.std.proofs.Common.{◌≡◌, ◌&&◌, ◌||◌, not, ℕ, Bool, true, false, cond, List, [], ◌∷◌, ◌++◌, filter, Some}
use Rattle.std.proofs.Common.{refl, ap, sym, subst, ◌∙◌, if◌then◌else◌}
use mathlib.Core.Bool.{or-false}
use Rattle.std.specs.List.{AllByRecursion, list_any}
use Rattle.std.specs.Ordering.{is_gt, is_lt, match_ordering, ordering_reverse}
use Rattle.std.specs.Str.{bytes_eq}
use Rattle.std.specs.declared.cmp.Ordering.{Ordering}
use Rattle.std.specs.declared.cmp.Ordering.TheVariants.{Equal, Greater, Less}
use Rattle.value_lemmas.proofs.Bytes.{bytes_eq-true}
use Rattle.book_hosts.specs.Hosts.{AreSorted, with_host, without}
use Rattle.value_text.specs.Orders.{text_cmp}
use Rattle.book_hosts.specs.Private.Terms.{passes, term_in}
use Rattle.book_hosts.specs.declared.hosts.KnownHost.{KnownHost}
use Rattle.book_hosts.specs.declared.index.Term.{Term}
use Rattle.book_hosts.proofs.OrderLemmas.{chained, flipped, less-apart-back, text-equal}

-- each of the hosts comes after this text
abbrev pub ComeAfter : List ℕ → List KnownHost → Type 0
ComeAfter text hosts = AllByRecursion (λ other. text_cmp text other.host ≡ Less) hosts

-- none of them is it
pub after-none : (p : KnownHost → Bool) (text : List ℕ) (hosts : List KnownHost) → ComeAfter text hosts
    → list_any (λ known. bytes_eq known.host text && p known) hosts ≡ false
after-none p text [] after = refl
after-none p text (known ∷ hosts) after = rw (less-apart-back text known.host after.0) (after-none p text hosts after.1)

pub after-without : (text : List ℕ) (hosts : List KnownHost) → ComeAfter text hosts → without text hosts ≡ hosts
after-without text [] after = refl
after-without text (known ∷ hosts) after =
    rw (less-apart-back text known.host after.0) (ap (λ l. known ∷ l) (after-without text hosts after.1))

-- ---- a host looked up

abbrev pub term_from : KnownHost → Term
term_from known = record { subdomains = known.subdomains; until = known.until }

found-step : (test : Term → Bool) (host : List ℕ) (known : KnownHost) (hosts : List KnownHost) (here : Bool)
    → bytes_eq known.host host ≡ here → ComeAfter known.host hosts
    → passes test (term_in host hosts) ≡ list_any (λ other. bytes_eq other.host host && test (term_from other)) hosts
    → passes test (if here then Some (term_from known) else term_in host hosts)
    ≡ ((here && test (term_from known))
    || list_any (λ other. bytes_eq other.host host && test (term_from other)) hosts)
found-step test host known hosts true e after h =
    let same : known.host ≡ host = bytes_eq-true known.host host e in
    let none = after-none (λ other. test (term_from other)) host hosts
    (subst (λ text. ComeAfter text hosts) same after) in
    rw none (sym (or-false (test (term_from known))))
found-step test host known hosts false e after h = h

-- in a sorted list a test of the term looked up is a test of the hosts
pub passes-any : (test : Term → Bool) (host : List ℕ) (hosts : List KnownHost) → AreSorted hosts
    → passes test (term_in host hosts) ≡ list_any (λ known. bytes_eq known.host host && test (term_from known)) hosts
passes-any test host [] sorted = refl
passes-any test host (known ∷ hosts) sorted =
    found-step test host known hosts (bytes_eq known.host host) refl sorted.0 (passes-any test host hosts sorted.1)

-- ---- a host taken out

abbrev pub remove_known : List ℕ → List KnownHost → List KnownHost
remove_known host [] = []
remove_known host (known ∷ hosts) = if bytes_eq known.host host then hosts else known ∷ remove_known host hosts

remove-step : (host : List ℕ) (known : KnownHost) (hosts : List KnownHost) (here : Bool) → bytes_eq known.host host
    ≡ here → ComeAfter known.host hosts → remove_known host hosts ≡ without host hosts
    → (if here then hosts else known ∷ remove_known host hosts)
    ≡ cond (not here) (known ∷ without host hosts) (without host hosts)
remove-step host known hosts true e after h =
    let same : known.host ≡ host = bytes_eq-true known.host host e in
    sym (after-without host hosts (subst (λ text. ComeAfter text hosts) same after))
remove-step host known hosts false e after h = ap (λ l. known ∷ l) h

pub remove-without : (host : List ℕ) (hosts : List KnownHost) → AreSorted hosts → remove_known host hosts
    ≡ without host hosts
remove-without host [] sorted = refl
remove-without host (known ∷ hosts) sorted =
    remove-step host known hosts (bytes_eq known.host host) refl sorted.0 (remove-without host hosts sorted.1)

-- ---- a host put in

abbrev pub insert_known : KnownHost → List KnownHost → List KnownHost
insert_known new [] = new ∷ []
insert_known new (known ∷ hosts) =
    match_ordering (text_cmp new.host known.host) (new ∷ known ∷ hosts) (new ∷ hosts) (known ∷ insert_known new hosts)

-- the hosts before one, and after it
abbrev before : KnownHost → List KnownHost → List KnownHost
before new hosts = filter (λ known. is_lt (text_cmp known.host new.host)) hosts

abbrev behind : KnownHost → List KnownHost → List KnownHost
behind new hosts = filter (λ known. is_gt (text_cmp known.host new.host)) hosts

after-before : (new : KnownHost) (hosts : List KnownHost) → ComeAfter new.host hosts → before new hosts ≡ []
after-before new [] after = refl
after-before new (known ∷ hosts) after =
    let greater : text_cmp known.host new.host ≡ Greater = flipped known.host new.host ∙ ap ordering_reverse after.0 in
    rw greater (after-before new hosts after.1)

after-behind : (new : KnownHost) (hosts : List KnownHost) → ComeAfter new.host hosts → behind new hosts ≡ hosts
after-behind new [] after = refl
after-behind new (known ∷ hosts) after =
    let greater : text_cmp known.host new.host ≡ Greater = flipped known.host new.host ∙ ap ordering_reverse after.0 in
    rw greater (ap (λ l. known ∷ l) (after-behind new hosts after.1))

after-both : (new : KnownHost) (hosts : List KnownHost) → ComeAfter new.host hosts → new ∷ hosts ≡ before new hosts
    ++ (new ∷ behind new hosts)
after-both new hosts after = rw (after-before new hosts after, after-behind new hosts after) refl

come-after-all : (a b : List ℕ) (hosts : List KnownHost) → text_cmp a b ≡ Less → ComeAfter b hosts → ComeAfter a hosts
come-after-all a b [] e after = tt
come-after-all a b (known ∷ hosts) e after = (chained a b known.host e after.0, come-after-all a b hosts e after.1)

insert-step : (new known : KnownHost) (hosts : List KnownHost) (o : Ordering) → text_cmp new.host known.host ≡ o
    → ComeAfter known.host hosts → insert_known new hosts ≡ with_host new hosts
    → match_ordering o (new ∷ known ∷ hosts) (new ∷ hosts) (known ∷ insert_known new hosts)
    ≡ with_host new (known ∷ hosts)
insert-step new known hosts Less e after h =
    after-both new (known ∷ hosts) (e, come-after-all new.host known.host hosts e after)
insert-step new known hosts Equal e after h =
    let same : known.host ≡ new.host = sym (text-equal new.host known.host e) in
    let equal : text_cmp known.host new.host ≡ Equal = flipped known.host new.host ∙ ap ordering_reverse e in
    rw equal (after-both new hosts (subst (λ text. ComeAfter text hosts) same after))
insert-step new known hosts Greater e after h =
    let less : text_cmp known.host new.host ≡ Less = flipped known.host new.host ∙ ap ordering_reverse e in
    rw less (ap (λ l. known ∷ l) h)

pub insert-with : (new : KnownHost) (hosts : List KnownHost) → AreSorted hosts → insert_known new hosts
    ≡ with_host new hosts
insert-with new [] sorted = refl
insert-with new (known ∷ hosts) sorted =
    insert-step new known hosts (text_cmp new.host known.host) refl sorted.0 (insert-with new hosts sorted.1)
