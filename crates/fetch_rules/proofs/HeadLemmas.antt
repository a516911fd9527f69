-- The rules that look at a head look at the values of one name.
use Rattle.std.proofs.Common.{◌≡◌, ℕ, List, [], ◌∷◌, refl, ap, arith}
use Rattle.std.proofs.lemmas.Grind.{common_steps}
use Rattle.std.specs.List.{find}
use Rattle.std.specs.Prelude.{codes, option_and_then, option_map}
use Rattle.book_calls.specs.declared.op.Op.TheVariants.{Note}
use Rattle.value_headers.specs.declared.headers.Header.{Header}
use Rattle.value_headers.specs.Headers.{is_named, values_of}
use Rattle.book_hosts.specs.Reading.{sts_in}
use Rattle.fetch_rules.specs.KnownHosts.{first_of, first_value, host_to_note, note_of}
use Rattle.value_requests.specs.declared.hop.Head.{Head}
use Rattle.value_requests.specs.declared.request.Request.{Request}

-- the first value of a name is that of the first header that has it
pub first-found : (name : List ℕ) (headers : List Header)
    → option_map (λ header. header.value) (find (is_named name) headers) ≡ first_value name headers
first-found name [] = refl
first-found name (header ∷ headers) = grind (arith, common_steps, first-found name headers)

-- what is noted of two heads with the same Strict-Transport-Security is the same
pub note-alike : (now : ℕ) (request : Request) (a b : Head)
    → values_of (codes "Strict-Transport-Security") a.headers ≡ values_of (codes "Strict-Transport-Security") b.headers
    → note_of now request a ≡ note_of now request b
note-alike now request a b same =
    ap (λ values. option_and_then (λ host. option_map (λ sts. Note host sts now)
    (option_and_then sts_in (first_of values))) (host_to_note request)) same
