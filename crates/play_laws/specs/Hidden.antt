-- What a document may not learn of the answers to its requests (this project's own definition; Fetch, section 2.2.6,
-- for opaque filtered responses).
use Rattle.std.specs.Prelude.{◌≡◌, false, IsTrue, List, [], filter}
use Rattle.value_headers.specs.declared.headers.Header.{Header}
use Rattle.value_requests.specs.declared.hop.Head.{Head}
use Rattle.value_requests.specs.declared.hop.Hop.{Hop}
use Rattle.value_requests.specs.declared.mode.Tainting.TheVariants as tainting
use Rattle.value_requests.specs.declared.request.Request.{Request}
use Rattle.policy_filter.specs.Laws.{IsResponse}
use Rattle.policy_filter.specs.Views.{is_refused, is_told, permitted_view, type_names}
use Rattle.value_requests.specs.Modes.{is_follow}

-- A head that is handed over as an opaque response, where redirects are followed, as those of loads are.
pub record IsOpaque (request : Request) (hop : Hop) (head : Head) : Type 0 where
  pub response : IsResponse request hop head
  pub tainted : request.tainting ≡ tainting.Opaque
  pub follows : IsTrue (is_follow request.redirect)

-- the headers of an opaque response that may be learnt: Strict-Transport-Security, Cross-Origin-Resource-Policy, and
-- for scripts and styles X-Content-Type-Options and Content-Type
abbrev pub told_of : Request → Head → List Header
told_of request head = filter (is_told tainting.Opaque (type_names request.destination)) head.headers

-- of an opaque response a document may learn neither the status nor another header
abbrev pub HidesOpaque : Type 0
HidesOpaque =
    (request : Request) (hop : Hop) (head other : Head) → IsOpaque request hop head → IsOpaque request hop other
    → told_of request head ≡ told_of request other
    → permitted_view request hop head ≡ permitted_view request hop other

-- What a response that its check refuses is refused by: the CORS check, or the cross-origin resource policy check.
pub record IsKeptOut (request : Request) (hop : Hop) (head : Head) : Type 0 where
  pub sent : hop.preflight ≡ false
  pub refused : IsTrue (is_refused request head.headers)

-- the headers that the check rests on, and Strict-Transport-Security
abbrev pub checked_of : Request → Head → List Header
checked_of request head = filter (is_told request.tainting []) head.headers

-- of a response that is refused a document may learn nothing else: neither the status, nor where it redirects to
abbrev pub HidesRefused : Type 0
HidesRefused =
    (request : Request) (hop : Hop) (head other : Head) → IsKeptOut request hop head → IsKeptOut request hop other
    → checked_of request head ≡ checked_of request other
    → permitted_view request hop head ≡ permitted_view request hop other
