-- The definitions, computed on the rows that were written down by hand.
use Rattle.std.proofs.Common.{◌≡◌, ℕ, Bool, true, false, List, [], ◌∷◌, codes, Option, Some, None, refl}
use Rattle.book_hosts.specs.Reading.{sts_in}
use Rattle.book_hosts.specs.Hosts.{known_host, matches_host, noted, without_first_to_end}
use Rattle.book_hosts.specs.declared.hosts.KnownHost.{KnownHost}
use Rattle.book_hosts.specs.declared.sts.Sts.{Sts}

abbrev sts : ℕ → Bool → Option Sts
sts age subdomains = Some (record { age = age; subdomains = subdomains })

quoted : sts_in (codes "max-age=\"31536000\"") ≡ sts 31536000 false
quoted = refl

others : sts_in (codes ";max-age=7;;foo=\"a;b\"") ≡ sts 7 false
others = refl

any_case : sts_in (codes "MAX-AGE=0; includeSubDomains") ≡ sts 0 true
any_case = refl

capped : sts_in (codes "max-age=99999999999") ≡ sts 4294967295 false
capped = refl

unescaped : sts_in (codes "max-age=\"1\\5\"") ≡ sts 15 false
unescaped = refl

twice : sts_in (codes "max-age=1; max-age=2") ≡ None
twice = refl

with_value : sts_in (codes "max-age=1;includeSubDomains=1") ≡ None
with_value = refl

unclosed : sts_in (codes "max-age=1; foo=\"") ≡ None
unclosed = refl

-- a list of two hosts
abbrev two : List KnownHost
two = known_host (codes "a.test") true 50 ∷ known_host (codes "b.test") false 50 ∷ []

under : matches_host two (codes "x.a.test") 49 ≡ true
under = refl

ended : matches_host two (codes "x.a.test") 50 ≡ false
ended = refl

exact : matches_host two (codes "x.b.test") 0 ≡ false
exact = refl

undotted : matches_host two (codes "xa.test") 0 ≡ false
undotted = refl

-- the first by its bytes of those that end first goes
first : without_first_to_end two ≡ known_host (codes "b.test") false 50 ∷ []
first = refl

replaced : noted (codes "b.test") (record { age = 7; subdomains = true }) 3 two ≡ known_host (codes "a.test") true 50
    ∷ known_host (codes "b.test") true 10 ∷ []
replaced = refl

forgotten : noted (codes "a.test") (record { age = 0; subdomains = true }) 3 two
    ≡ known_host (codes "b.test") false 50 ∷ []
forgotten = refl
