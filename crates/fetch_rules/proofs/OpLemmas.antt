-- What a fetch asks and tells of known hosts is in range.
use Rattle.std.proofs.Common.{◌≤◌, ◌<◌, ◌^◌, ℕ, List, refl, arith}
use Rattle.std.specs.Prelude.{IfSome, Option, Some, None, codes, option_and_then, option_map}
use Rattle.book_calls.specs.declared.op.Op.TheVariants.{Match, Note}
use Rattle.book_calls.specs.Ops.{InRange}
use Rattle.book_hosts.specs.declared.sts.Sts.{Sts}
use Rattle.book_hosts.specs.Field.{greatest_age}
use Rattle.book_hosts.specs.Reading.{sts_in}
use Rattle.book_hosts.proofs.StsLemmas.{age-bounded}
use Rattle.fetch_rules.specs.KnownHosts.{first_value, host_to_match, host_to_note, match_of, note_of, sts_of}
use Rattle.value_requests.specs.declared.hop.Head.{Head}
use Rattle.value_requests.specs.declared.request.Request.{Request}

match-by : (now : ℕ) (host : Option (List ℕ)) → now < 2 ^ 48 → IfSome (option_map (λ name. Match name now) host) InRange
match-by now None early = tt
match-by now (Some name) early = (early, tt)

-- a question whether a host is known
pub match-in-range : (now : ℕ) (request : Request) → now < 2 ^ 48 → IfSome (match_of now request) InRange
match-in-range now request early = match-by now (host_to_match request) early

sts-by : (value : Option (List ℕ)) → IfSome (option_and_then sts_in value) (λ sts. sts.age ≤ greatest_age)
sts-by None = tt
sts-by (Some value) = age-bounded value (sts_in value) refl

note-by : (now : ℕ) (host : Option (List ℕ)) (said : Option Sts) → now < 2 ^ 48
    → IfSome said (λ sts. sts.age ≤ greatest_age)
    → IfSome (option_and_then (λ name. option_map (λ sts. Note name sts now) said) host) InRange
note-by now None said early bounded = tt
note-by now (Some name) None early bounded = tt
note-by now (Some name) (Some sts) early bounded = (early, omega (arith, bounded))

-- what is noted of an answer
pub note-in-range : (now : ℕ) (request : Request) (head : Head) → now < 2 ^ 48
    → IfSome (note_of now request head) InRange
note-in-range now request head early =
    note-by now (host_to_note request) (sts_of head) early
    (sts-by (first_value (codes "Strict-Transport-Security") head.headers))
