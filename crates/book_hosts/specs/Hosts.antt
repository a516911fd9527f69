-- Known HSTS hosts (RFC 6797, sections 6.1.1, 8.1, 8.1.1 and 8.2): which names are known, and what a
-- Strict-Transport-Security field changes. A list of them is sorted by the bytes of the host.
use Rattle.std.specs.Prelude.{◌≡◌, ◌↔◌, ℕ, ◌+◌, ◌≤◌, ◌==◌, ◌||◌, ◌&&◌, not, Bool, true, List, [], ◌∷◌, ◌++◌, length}
use Rattle.std.specs.Prelude.{nat_eq, nat_lt, filter, if◌then◌else◌}
use Rattle.std.specs.List.{AllByRecursion, ends_with, list_all, list_any}
use Rattle.std.specs.declared.cmp.Ordering.TheVariants.{Less}
use Rattle.std.specs.Ordering.{is_gt, is_lt, nat_cmp, ordering_then}
use Rattle.std.specs.Str.{bytes_eq}
use Rattle.value_text.specs.Texts.{Text}
use Rattle.value_text.specs.Ascii.{dot}
use Rattle.value_text.specs.Orders.{text_cmp}
use Rattle.book_hosts.specs.declared.hosts.KnownHost.{KnownHost}
use Rattle.book_hosts.specs.declared.sts.Sts.{Sts}

-- each host comes before those that follow it
abbrev pub AreSorted : List KnownHost → Type 0
AreSorted [] = Unit {0}
AreSorted (known ∷ hosts) =
    AllByRecursion (λ other. text_cmp known.host other.host ≡ Less) hosts × AreSorted hosts

-- what every list of known hosts is: sorted, each host once, and at most 4,096
pub record AreHosts (hosts : List KnownHost) : Type 0 where
  pub sorted : AreSorted hosts
  pub few : length hosts ≤ 4096

abbrev pub known_host : Text → Bool → ℕ → KnownHost
known_host host subdomains until = record { host = host; subdomains = subdomains; until = until }

-- a known host matches a name: the host's own, or with subdomains one that ends in a dot and the host
abbrev pub stands_for : Text → KnownHost → Bool
stands_for name known =
    bytes_eq known.host name || (known.subdomains && ends_with nat_eq name (dot ∷ known.host))

-- a name is known at a time where a host whose term has not ended matches it
abbrev pub matches_host : List KnownHost → Text → ℕ → Bool
matches_host hosts name now = list_any (λ known. stands_for name known && nat_lt now known.until) hosts

-- the list has this host
abbrev pub holds : Text → List KnownHost → Bool
holds host hosts = list_any (λ known. bytes_eq known.host host) hosts

-- the other hosts
abbrev pub without : Text → List KnownHost → List KnownHost
without host hosts = filter (λ known. not (bytes_eq known.host host)) hosts

-- the hosts that come before this one, it, and those that come after it
abbrev pub with_host : KnownHost → List KnownHost → List KnownHost
with_host new hosts =
    filter (λ known. is_lt (text_cmp known.host new.host)) hosts
    ++ (new ∷ filter (λ known. is_gt (text_cmp known.host new.host)) hosts)

-- a host's term ends before another's, or at the same time and its bytes come first
abbrev pub ends_before : KnownHost → KnownHost → Bool
ends_before a b = is_lt (ordering_then (nat_cmp a.until b.until) (text_cmp a.host b.host))

-- all hosts but the one that ends first: those that another ends before
abbrev pub without_first_to_end : List KnownHost → List KnownHost
without_first_to_end hosts = filter (λ known. list_any (λ other. ends_before other known) hosts) hosts

-- room for one host more: of 4,096 the one that ends first goes
abbrev pub with_room : List KnownHost → List KnownHost
with_room others = if nat_lt (length others) 4096 then others else without_first_to_end others

-- the list after a field of a host: with max-age 0 the host is forgotten, else it is known for that many seconds from
-- now, in the place of what was known of it (RFC 6797, sections 6.1.1 and 8.1)
abbrev pub noted : Text → Sts → ℕ → List KnownHost → List KnownHost
noted host sts now hosts =
    if sts.age == 0 then without host hosts
    else with_host (known_host host sts.subdomains (now + sts.age)) (with_room (without host hosts))

-- a host may stand last: it comes after each of these, which are fewer than 4,096
abbrev pub may_stand_last : KnownHost → List KnownHost → Bool
may_stand_last new hosts =
    nat_lt (length hosts) 4096 && list_all (λ known. is_lt (text_cmp known.host new.host)) hosts

-- the list with this host as its last, where it may stand there
abbrev pub extended : KnownHost → List KnownHost → List KnownHost
extended new hosts = if may_stand_last new hosts then hosts ++ new ∷ [] else hosts

-- a host may stand last exactly where the list with it is one of known hosts
abbrev pub ExtendsExactly : Type 0
ExtendsExactly = (new : KnownHost) (hosts : List KnownHost) → AreHosts hosts
    → may_stand_last new hosts ≡ true ↔ AreHosts (hosts ++ new ∷ [])
