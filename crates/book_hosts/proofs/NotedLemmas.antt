-- A field noted: how many hosts there are, and which of them goes.
use Rattle.std.proofs.Common.{◌≡◌, ◌==◌, ◌||◌, ◌<◌, ◌≤◌, ◌+◌, not, ℕ, Bool, true, false, cond, List, [], ◌∷◌, ◌++◌}
use Rattle.std.proofs.Common.{filter, length, Option, Some, None, is_some, nat_lt, refl, ap, sym, subst, ◌∙◌}
use Rattle.std.proofs.Common.{if◌then◌else◌, arith, length-append}
use Rattle.std.proofs.lemmas.Bool.{le-ltb, lt-ltb, ltb-false, ltb-true, ne_eqb}
use Rattle.std.proofs.lemmas.List.Filters.{length-filter_both}
use Rattle.std.specs.Ordering.{is_eq, is_gt, is_lt}
use Rattle.std.specs.Str.{bytes_eq}
use Rattle.std.specs.declared.cmp.Ordering.{Ordering}
use Rattle.std.specs.declared.cmp.Ordering.TheVariants.{Equal, Greater, Less}
use Rattle.value_lemmas.proofs.Bytes.{bytes_eq-true}
use Rattle.book_hosts.specs.Hosts.{AreHosts, holds, known_host, noted, with_host, with_room, without}
use Rattle.book_hosts.specs.Hosts.{without_first_to_end}
use Rattle.value_text.specs.Orders.{text_cmp}
use Rattle.book_hosts.specs.Private.Terms.{IsLeaving, term_in}
use Rattle.book_hosts.specs.declared.hosts.KnownHost.{KnownHost}
use Rattle.book_hosts.specs.declared.index.Term.{Term}
use Rattle.book_hosts.specs.declared.sts.Sts.{Sts}
use Rattle.book_hosts.proofs.KeptLemmas.{sorted-kept, sorted-with}
use Rattle.book_hosts.proofs.FirstLemmas.{term-holds}
use Rattle.book_hosts.proofs.OrderLemmas.{bytes-order}

-- ---- lengths

pub without-length : (host : List ℕ) (hosts : List KnownHost) → length (without host hosts) ≤ length hosts
without-length host hosts =
    omega (
      arith,
      length-filter_both (λ known. not (bytes_eq known.host host))
          (λ known. not (not (bytes_eq known.host host))) (λ known. refl) hosts,
    )

-- a host that is there is one less
fewer-by : (known : KnownHost) (kept all : List KnownHost) (here there : Bool) → (here || there) ≡ true
    → length kept ≤ length all → (there ≡ true → length kept < length all)
    → length (cond (not here) (known ∷ kept) kept) < length (known ∷ all)
fewer-by known kept all true there e le lt = omega arith
fewer-by known kept all false there e le lt = omega (arith, lt e)

pub holds-fewer : (host : List ℕ) (hosts : List KnownHost) → holds host hosts ≡ true
    → length (without host hosts) < length hosts
holds-fewer host [] e = cc
holds-fewer host (known ∷ hosts) e =
    fewer-by known (without host hosts) hosts (bytes_eq known.host host) (holds host hosts) e
    (without-length host hosts) (λ f. holds-fewer host hosts f)

-- a host that is not there does not go
pub absent-without : (host : List ℕ) (hosts : List KnownHost) → term_in host hosts ≡ None → without host hosts ≡ hosts
absent-without host [] e = refl
absent-without host (known ∷ hosts) e = by-here (bytes_eq known.host host) (λ f. absent-without host hosts f) e
  where
    by-here : (here : Bool) → (term_in host hosts ≡ None → without host hosts ≡ hosts)
        → (if here then Some (record { subdomains = known.subdomains; until = known.until }) else term_in host hosts)
        ≡ None
        → cond (not here) (known ∷ without host hosts) (without host hosts) ≡ known ∷ hosts
    by-here true h f = cc
    by-here false h f = ap (λ l. known ∷ l) (h f)

room-by : (host : List ℕ) (hosts : List KnownHost) (found : Option Term) → term_in host hosts ≡ found → length hosts
    ≡ 4096 → is_some found ≡ nat_lt (length (without host hosts)) 4096
room-by host hosts None e full =
    sym (ap (λ l. nat_lt (length l) 4096) (absent-without host hosts e) ∙ le-ltb (length hosts) 4096 (omega arith))
room-by host hosts (Some term) e full =
    sym (lt-ltb (length (without host hosts)) 4096
    (omega (arith, holds-fewer host hosts (term-holds host hosts term e))))

-- with fewer hosts there is room
pub room-few : (host : List ℕ) (hosts : List KnownHost) → length hosts < 4096
    → nat_lt (length (without host hosts)) 4096 ≡ true
room-few host hosts few = lt-ltb (length (without host hosts)) 4096 (omega (arith, without-length host hosts))

-- with as many there is room for a host that is there
pub room-full : (host : List ℕ) (hosts : List KnownHost) → length hosts ≤ 4096 → 4096 ≤ length hosts
    → is_some (term_in host hosts) ≡ nat_lt (length (without host hosts)) 4096
room-full host hosts few many = room-by host hosts (term_in host hosts) refl (omega arith)

-- ---- the list

-- a filter that refuses a host keeps the same without it
kept-by : (p : KnownHost → Bool) (host : List ℕ) (known : KnownHost) (others hosts : List KnownHost)
    (here passed : Bool) → p known ≡ passed → (here ≡ true → passed ≡ false) → filter p others ≡ filter p hosts
    → filter p (cond (not here) (known ∷ others) others) ≡ cond passed (known ∷ filter p hosts) (filter p hosts)
kept-by p host known others hosts true passed e refused h = rw (refused refl) h
kept-by p host known others hosts false passed e refused h = rw (e, h) refl

kept-same : (p : KnownHost → Bool) (host : List ℕ)
    → ((known : KnownHost) → bytes_eq known.host host ≡ true → p known ≡ false) → (hosts : List KnownHost)
    → filter p (without host hosts) ≡ filter p hosts
kept-same p host refused [] = refl
kept-same p host refused (known ∷ hosts) =
    kept-by p host known (without host hosts) hosts (bytes_eq known.host host) (p known) refl (refused known)
    (kept-same p host refused hosts)

equal-lt : (o : Ordering) → is_eq o ≡ true → is_lt o ≡ false
equal-lt Less e = sym e
equal-lt Equal e = refl
equal-lt Greater e = refl

equal-gt : (o : Ordering) → is_eq o ≡ true → is_gt o ≡ false
equal-gt Less e = refl
equal-gt Equal e = refl
equal-gt Greater e = sym e

-- a host comes in the place of what there is of it
with-without : (new : KnownHost) (hosts : List KnownHost) → with_host new (without new.host hosts) ≡ with_host new hosts
with-without new hosts =
    let front : filter (λ known. is_lt (text_cmp known.host new.host)) (without new.host hosts)
    ≡ filter (λ known. is_lt (text_cmp known.host new.host)) hosts =
    kept-same (λ known. is_lt (text_cmp known.host new.host)) new.host
    (λ known e. equal-lt (text_cmp known.host new.host) (sym (bytes-order known.host new.host) ∙ e)) hosts in
    let back : filter (λ known. is_gt (text_cmp known.host new.host)) (without new.host hosts)
    ≡ filter (λ known. is_gt (text_cmp known.host new.host)) hosts =
    kept-same (λ known. is_gt (text_cmp known.host new.host)) new.host
    (λ known e. equal-gt (text_cmp known.host new.host) (sym (bytes-order known.host new.host) ∙ e)) hosts in
    ap (λ l. l ++ (new ∷ filter (λ known. is_gt (text_cmp known.host new.host)) (without new.host hosts))) front
    ∙ ap (λ l. filter (λ known. is_lt (text_cmp known.host new.host)) hosts ++ (new ∷ l)) back

-- two filters in either order
twice-by : (p q : KnownHost → Bool) (known : KnownHost) (a b : List KnownHost) (x y : Bool) → p known ≡ x → q known
    ≡ y → filter p a ≡ filter q b → filter p (cond y (known ∷ a) a) ≡ filter q (cond x (known ∷ b) b)
twice-by p q known a b true true e f h = rw (e, f) (ap (λ l. known ∷ l) h)
twice-by p q known a b true false e f h = rw f h
twice-by p q known a b false true e f h = rw e h
twice-by p q known a b false false e f h = h

either-order : (p q : KnownHost → Bool) (hosts : List KnownHost) → filter p (filter q hosts) ≡ filter q (filter p hosts)
either-order p q [] = refl
either-order p q (known ∷ hosts) =
    twice-by p q known (filter q hosts) (filter p hosts) (p known) (q known) refl refl (either-order p q hosts)

append-by : (known : KnownHost) (a b : List KnownHost) (x : Bool) → cond x (known ∷ (a ++ b)) (a ++ b)
    ≡ cond x (known ∷ a) a ++ b
append-by known a b true = refl
append-by known a b false = refl

filter-append : (p : KnownHost → Bool) (a b : List KnownHost) → filter p (a ++ b) ≡ filter p a ++ filter p b
filter-append p [] b = refl
filter-append p (known ∷ a) b = rw (filter-append p a b) (append-by known (filter p a) (filter p b) (p known))

-- another host goes before or after
pub with-less : (new : KnownHost) (name : List ℕ) (hosts : List KnownHost) → bytes_eq new.host name ≡ false
    → without name (with_host new hosts) ≡ with_host new (without name hosts)
with-less new name hosts other =
    let lt : KnownHost → Bool = λ known. is_lt (text_cmp known.host new.host) in
    let gt : KnownHost → Bool = λ known. is_gt (text_cmp known.host new.host) in
    let kept : KnownHost → Bool = λ known. not (bytes_eq known.host name) in
    let stays : filter kept (new ∷ filter gt hosts) ≡ new ∷ filter kept (filter gt hosts) = rw other refl in
    filter-append kept (filter lt hosts) (new ∷ filter gt hosts)
    ∙ ap (λ l. filter kept (filter lt hosts) ++ l) stays
    ∙ ap (λ l. l ++ (new ∷ filter kept (filter gt hosts))) (either-order kept lt hosts)
    ∙ ap (λ l. filter lt (filter kept hosts) ++ (new ∷ l)) (either-order kept gt hosts)

-- one host more at most
one-by : (known : KnownHost) (a b hosts : List KnownHost) (o : Ordering) → length a + length b ≤ length hosts
    → length (cond (is_lt o) (known ∷ a) a) + length (cond (is_gt o) (known ∷ b) b) ≤ length (known ∷ hosts)
one-by known a b hosts Less h = omega (arith, h)
one-by known a b hosts Equal h = omega (arith, h)
one-by known a b hosts Greater h = omega (arith, h)

parts-length : (new : KnownHost) (hosts : List KnownHost)
    → length (filter (λ known. is_lt (text_cmp known.host new.host)) hosts) + length
    (filter (λ known. is_gt (text_cmp known.host new.host)) hosts) ≤ length hosts
parts-length new [] = omega arith
parts-length new (known ∷ hosts) = one-by known _ _ hosts (text_cmp known.host new.host) (parts-length new hosts)

pub with-length : (new : KnownHost) (hosts : List KnownHost) → length (with_host new hosts) ≤ length hosts + 1
with-length new hosts =
    omega (
      arith,
      parts-length new hosts,
      length-append (filter (λ known. is_lt (text_cmp known.host new.host)) hosts) (new
          ∷ filter (λ known. is_gt (text_cmp known.host new.host)) hosts),
    )

-- ---- what a field does

room-true : (others : List KnownHost) → nat_lt (length others) 4096 ≡ true → with_room others ≡ others
room-true others e = rw e refl

room-false : (others : List KnownHost) → nat_lt (length others) 4096 ≡ false → with_room others
    ≡ without_first_to_end others
room-false others e = rw e refl

aged : (host : List ℕ) (sts : Sts) (now : ℕ) (hosts : List KnownHost) → (sts.age == 0) ≡ false
    → noted host sts now hosts
    ≡ with_host (known_host host sts.subdomains (now + sts.age)) (with_room (without host hosts))
aged host sts now hosts e = rw e refl

-- with room
pub noted-kept : (host : List ℕ) (sts : Sts) (now : ℕ) (hosts : List KnownHost) → (sts.age == 0) ≡ false
    → nat_lt (length (without host hosts)) 4096 ≡ true
    → noted host sts now hosts ≡ with_host (known_host host sts.subdomains (now + sts.age)) hosts
noted-kept host sts now hosts e room =
    aged host sts now hosts e
    ∙ ap (with_host (known_host host sts.subdomains (now + sts.age))) (room-true (without host hosts) room)
    ∙ with-without (known_host host sts.subdomains (now + sts.age)) hosts

not-held : (host : List ℕ) (hosts : List KnownHost) → holds host hosts ≡ false → without host hosts ≡ hosts
not-held host [] e = refl
not-held host (known ∷ hosts) e = by-here (bytes_eq known.host host) (λ f. not-held host hosts f) e
  where
    by-here : (here : Bool) → (holds host hosts ≡ false → without host hosts ≡ hosts) → (here || holds host hosts)
        ≡ false → cond (not here) (known ∷ without host hosts) (without host hosts) ≡ known ∷ hosts
    by-here true h f = cc
    by-here false h f = ap (λ l. known ∷ l) (h f)

full-absent : (host : List ℕ) (hosts : List KnownHost) (held : Bool) → holds host hosts ≡ held → length hosts ≤ 4096
    → nat_lt (length (without host hosts)) 4096 ≡ false → held ≡ false
full-absent host hosts false e few full = refl
full-absent host hosts true e few full =
    absurd (omega (arith, holds-fewer host hosts e, ltb-false (length (without host hosts)) 4096 full))

other-name : (host name : List ℕ) (hosts : List KnownHost) (same : Bool) → bytes_eq host name ≡ same
    → holds host hosts ≡ false → holds name hosts ≡ true → same ≡ false
other-name host name hosts false e absent there = refl
other-name host name hosts true e absent there =
    let held : holds name hosts ≡ false = subst (λ text. holds text hosts ≡ false) (bytes_eq-true host name e) absent in
    sym there ∙ held

-- without room
pub noted-left : (host name : List ℕ) (sts : Sts) (now : ℕ) (hosts : List KnownHost) → (sts.age == 0) ≡ false
    → length hosts ≤ 4096 → nat_lt (length (without host hosts)) 4096 ≡ false
    → holds name hosts ≡ true → without_first_to_end hosts ≡ without name hosts
    → (noted host sts now hosts ≡ without name (with_host (known_host host sts.subdomains (now + sts.age)) hosts))
    × (length (without name (with_host (known_host host sts.subdomains (now + sts.age)) hosts)) ≤ 4096)
noted-left host name sts now hosts e few full there first =
    let new = known_host host sts.subdomains (now + sts.age) in
    let absent = full-absent host hosts (holds host hosts) refl few full in
    let alone = not-held host hosts absent in
    let left : with_room (without host hosts) ≡ without name hosts = room-false (without host hosts) full
    ∙ ap (λ l. without_first_to_end l) alone ∙ first in
    let less = with-less new name hosts (other-name host name hosts (bytes_eq host name) refl absent there) in (
      aged host sts now hosts e ∙ ap (with_host new) left ∙ sym less,
      subst (λ l. length l ≤ 4096) (sym less)
          (omega (arith, with-length new (without name hosts), holds-fewer name hosts there)),
    )

-- and how many hosts there are then
pub kept-few : (host : List ℕ) (subdomains : Bool) (until : ℕ) (hosts : List KnownHost)
    → nat_lt (length (without host hosts)) 4096 ≡ true
    → length (with_host (known_host host subdomains until) hosts) ≤ 4096
kept-few host subdomains until hosts room =
    subst (λ l. length l ≤ 4096) (with-without (known_host host subdomains until) hosts)
    (omega (
      arith,
      with-length (known_host host subdomains until) (without host hosts),
      ltb-true (length (without host hosts)) 4096 room,
    ))

-- ---- the same of a host that is put in, and of one that is taken out then

pub hosts-without : (host : List ℕ) (hosts : List KnownHost) → AreHosts hosts → AreHosts (without host hosts)
hosts-without host hosts are = record {
  sorted = sorted-kept (λ known. not (bytes_eq known.host host)) hosts are.sorted;
  few = omega (arith, without-length host hosts, are.few);
}

-- with room; again is the host as a call has it, and leaving what is told of the host that goes
pub put-kept : (host again : List ℕ) (leaving : Option (List ℕ)) (sts : Sts) (now : ℕ)
    (hosts new : List KnownHost) → (sts.age ≡ 0 → ⊥) → AreHosts hosts → again ≡ host
    → leaving ≡ None → IsLeaving leaving again hosts
    → new ≡ with_host (known_host host sts.subdomains (now + sts.age)) hosts
    → (new ≡ noted host sts now hosts) × AreHosts new
put-kept host again leaving sts now hosts new aged_some are a none told put =
    let new_host = known_host host sts.subdomains (now + sts.age) in
    let room : IsLeaving None host hosts =
    subst (λ h. IsLeaving None h hosts) a (subst (λ l. IsLeaving l again hosts) none told) in (
      put ∙ sym (noted-kept host sts now hosts (ne_eqb sts.age 0 aged_some) room),
      subst AreHosts (sym put) (record {
        sorted = sorted-with new_host hosts are.sorted;
        few = kept-few host sts.subdomains (now + sts.age) hosts room;
      }),
    )

-- and without; gone is the name as a call has it
pub put-left : (host again name gone : List ℕ) (leaving : Option (List ℕ)) (sts : Sts) (now : ℕ)
    (hosts put new : List KnownHost) → (sts.age ≡ 0 → ⊥) → AreHosts hosts → again ≡ host
    → gone ≡ name → leaving ≡ Some name → IsLeaving leaving again hosts
    → put ≡ with_host (known_host host sts.subdomains (now + sts.age)) hosts → new ≡ without gone put
    → (new ≡ noted host sts now hosts) × AreHosts new
put-left host again name gone leaving sts now hosts put new aged_some are a g some told e f =
    let new_host = known_host host sts.subdomains (now + sts.age) in
    let going : IsLeaving (Some name) host hosts =
    subst (λ h. IsLeaving (Some name) h hosts) a (subst (λ l. IsLeaving l again hosts) some told) in
    let left = noted-left host name sts now hosts (ne_eqb sts.age 0 aged_some) are.few going.0 going.1 going.2 in
    let same : new ≡ without name (with_host new_host hosts) =
    f ∙ ap (λ n. without n put) g ∙ ap (without name) e in (
      same ∙ sym left.0,
      subst AreHosts (sym same) (record {
        sorted = sorted-kept (λ known. not (bytes_eq known.host name)) (with_host new_host hosts)
            (sorted-with new_host hosts are.sorted);
        few = left.1;
      }),
    )
