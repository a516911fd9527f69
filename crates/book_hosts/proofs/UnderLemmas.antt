-- Names under a known host, by the texts after their dots.
use Rattle.std.proofs.Common.{◌≡◌, ◌==◌, ◌&&◌, ◌||◌, ◌<◌, ◌≤◌, ◌-◌, ◌+◌, inl, inr, get_or, ℕ, zero, suc, Bool, true}
use Rattle.std.proofs.Common.{false, List, [], ◌∷◌, drop, length, nat_eq, nat_lt, refl, ap, sym, ◌∙◌, arith}
use mathlib.Core.Bool.{or-false}
use Rattle.std.proofs.lemmas.Bool.{cases_lt}
use Rattle.std.proofs.lemmas.List.{drop_all, drop_more}
use Rattle.std.specs.Cmp.Lexicographic.{unequal}
use Rattle.std.specs.List.{ends_with, list_any}
use Rattle.std.specs.Str.{bytes_eq}
use Rattle.value_lemmas.proofs.Tests.{eqb-comm}
use Rattle.book_hosts.specs.Hosts.{matches_host}
use Rattle.book_hosts.specs.Private.Terms.{begins_under, covers, is_dot_and, is_under}
use Rattle.book_hosts.specs.declared.hosts.KnownHost.{KnownHost}

drop-nothing : (n : ℕ) → drop n (let none : List ℕ = [] in none) ≡ []
drop-nothing zero = refl
drop-nothing (suc n) = refl

-- a text that ends in another is it, or ends in it after the first byte
ends-short : (byte : ℕ) (rest needle : List ℕ) → length needle ≤ length rest → ends_with nat_eq (byte ∷ rest) needle
    ≡ (bytes_eq needle (byte ∷ rest) || ends_with nat_eq rest needle)
ends-short byte rest needle h =
    let longer : length (byte ∷ rest) - length needle ≡ suc (length rest - length needle) = omega arith in
    let other : bytes_eq needle (byte ∷ rest) ≡ false = unequal nat_eq needle (byte ∷ rest) (λ e. omega (arith, e)) in
    rw (other, longer) refl

ends-long : (byte : ℕ) (rest needle : List ℕ) → length rest < length needle → ends_with nat_eq (byte ∷ rest) needle
    ≡ (bytes_eq needle (byte ∷ rest) || ends_with nat_eq rest needle)
ends-long byte rest needle h =
    let all : length (byte ∷ rest) - length needle ≡ 0 = omega arith in
    let none : length rest - length needle ≡ 0 = omega arith in
    let other : bytes_eq needle rest ≡ false = unequal nat_eq needle rest (λ e. omega (arith, e)) in
    rw (all, none, other) (sym (or-false (bytes_eq needle (byte ∷ rest))))

ends-step : (byte : ℕ) (rest needle : List ℕ) → ends_with nat_eq (byte ∷ rest) needle
    ≡ (bytes_eq needle (byte ∷ rest) || ends_with nat_eq rest needle)
ends-step byte rest needle = elim (cases_lt (length rest) (length needle)) [
  | inl h ↦ ends-long byte rest needle h
  | inr h ↦ ends-short byte rest needle h
]

-- the empty name is under no host
pub under-nothing : (hosts : List KnownHost) (now : ℕ) → is_under hosts [] now ≡ false
under-nothing [] now = refl
under-nothing (known ∷ hosts) now =
    rw (
      drop-nothing (length (let none : List ℕ = [] in none) - length (46 ∷ known.host)),
      under-nothing hosts now,
    ) (none known.subdomains)
  where
    none : (s : Bool) → (((s && false) && nat_lt now known.until) || false) ≡ false
    none true = refl
    none false = refl

shuffled : (s d q y t a b : Bool) → (((s && ((d && q) || y)) && t) || ((d && a) || b))
    ≡ ((d && ((q && (s && t)) || a)) || (((s && y) && t) || b))
shuffled s false q y t a b = refl
shuffled true true true y true a b = refl
shuffled true true false true true true b = refl
shuffled true true false true true false b = refl
shuffled true true false false true a b = refl
shuffled true true true true false a b = refl
shuffled true true true false false a b = refl
shuffled true true false true false a b = refl
shuffled true true false false false a b = refl
shuffled false true true y t a b = refl
shuffled false true false y t a b = refl

-- one byte of the name more
pub under-step : (hosts : List KnownHost) (byte : ℕ) (rest : List ℕ) (now : ℕ) → is_under hosts (byte ∷ rest) now
    ≡ (begins_under hosts (byte ∷ rest) now || is_under hosts rest now)
under-step [] byte rest now = nothing (byte == 46)
  where
    nothing : (d : Bool) → false ≡ ((d && false) || false)
    nothing true = refl
    nothing false = refl
under-step (known ∷ hosts) byte rest now =
    rw (ends-step byte rest (46 ∷ known.host), under-step hosts byte rest now, eqb-comm 46 byte)
    (shuffled known.subdomains (byte == 46) (bytes_eq known.host rest) (ends_with nat_eq rest (46 ∷ known.host))
    (nat_lt now known.until) (covers hosts rest now) (is_under hosts rest now))

parted : (a u t b c : Bool) → (((a || u) && t) || (b || c)) ≡ (((a && t) || b) || ((u && t) || c))
parted true true true b c = refl
parted true true false true c = refl
parted true true false false c = refl
parted true false true b c = refl
parted true false false b c = refl
parted false true true true c = refl
parted false true true false c = refl
parted false true false b c = refl
parted false false t b c = refl

-- a known name is a host, or under one
pub matches-parts : (hosts : List KnownHost) (name : List ℕ) (now : ℕ) → matches_host hosts name now
    ≡ (list_any (λ known. bytes_eq known.host name && nat_lt now known.until) hosts || is_under hosts name now)
matches-parts [] name now = refl
matches-parts (known ∷ hosts) name now =
    rw (matches-parts hosts name now)
    (parted (bytes_eq known.host name) (known.subdomains && ends_with nat_eq name (46 ∷ known.host))
    (nat_lt now known.until) (list_any (λ other. bytes_eq other.host name && nat_lt now other.until) hosts)
    (is_under hosts name now))

-- the name from an index on
pub under-at : (hosts : List KnownHost) (name : List ℕ) (now at : ℕ) → at < length name
    → is_under hosts (drop at name) now
    ≡ (begins_under hosts (drop at name) now || is_under hosts (drop (at + 1) name) now)
under-at hosts name now at within =
    let there = drop_more name at 0 within in
    ap (λ l. is_under hosts l now) there ∙ under-step hosts (get_or name at 0) (drop (at + 1) name) now
    ∙ ap (λ l. begins_under hosts l now || is_under hosts (drop (at + 1) name) now) (sym there)

pub under-here : (hosts : List KnownHost) (name : List ℕ) (now at : ℕ) → at < length name
    → begins_under hosts (drop at name) now ≡ true → is_under hosts (drop at name) now ≡ true
under-here hosts name now at within here = under-at hosts name now at within
    ∙ ap (λ b. b || is_under hosts (drop (at + 1) name) now) here

pub under-later : (hosts : List KnownHost) (name : List ℕ) (now at : ℕ) → at < length name
    → begins_under hosts (drop at name) now ≡ false → is_under hosts (drop at name) now
    ≡ is_under hosts (drop (at + 1) name) now
under-later hosts name now at within here = under-at hosts name now at within
    ∙ ap (λ b. b || is_under hosts (drop (at + 1) name) now) here

-- at its end
pub under-ended : (hosts : List KnownHost) (name : List ℕ) (now at : ℕ) → length name ≤ at
    → is_under hosts (drop at name) now ≡ false
under-ended hosts name now at past = ap (λ l. is_under hosts l now) (drop_all at name past) ∙ under-nothing hosts now

-- the text is a dot and a host where the two are equal
dot-and : (host text : List ℕ) → is_dot_and host text ≡ bytes_eq (46 ∷ host) text
dot-and host [] = refl
dot-and host (byte ∷ text) = rw (eqb-comm 46 byte) refl

-- a name ends in a dot and a host where its last bytes are these
pub ends_there : (name host : List ℕ) (at : ℕ) → length host < length name → at ≡ length name - length host - 1
    → is_dot_and host (drop at name) ≡ ends_with nat_eq name (46 ∷ host)
ends_there name host at longer is =
    let same : at ≡ length name - length (46 ∷ host) = omega (arith, is) in
    dot-and host (drop at name) ∙ ap (λ (n : ℕ). bytes_eq (46 ∷ host) (drop n name)) same

-- and a name that is no longer than the host does not
pub ends_nowhere : (name host : List ℕ) → length name ≤ length host → ends_with nat_eq name (46 ∷ host) ≡ false
ends_nowhere name host short =
    let all : length name - length (46 ∷ host) ≡ 0 = omega arith in
    rw all (unequal nat_eq (46 ∷ host) name (λ e. omega (arith, e)))
