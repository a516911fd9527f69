-- What permitted views hide.
use Rattle.std.proofs.Common.{◌≡◌, Bool, true, false, not, List, refl, ap, sym, ◌∙◌, IsTrue}
use Rattle.std.specs.Prelude.{◌&&◌}
use Rattle.value_headers.specs.declared.headers.Header.{Header}
use Rattle.value_requests.specs.declared.hop.Head.{Head}
use Rattle.value_requests.specs.declared.hop.Hop.{Hop}
use Rattle.value_requests.specs.declared.mode.Tainting.{Tainting}
use Rattle.value_requests.specs.declared.request.Request.{Request}
use Rattle.value_requests.specs.Statuses.{is_redirect_status}
use Rattle.policy_filter.specs.Views.{is_followed, is_refused, opaque_view}
use Rattle.value_requests.specs.Modes.{is_follow}
use Rattle.policy_filter.specs.Views.{permitted_view, refused_view, response_view}
use Rattle.play_laws.specs.Hidden.{HidesOpaque, HidesRefused, IsKeptOut, IsOpaque}

denied : (b : Bool) → IsTrue (not b) → b ≡ false
denied true is = absurd (cc)
denied false is = refl

-- a redirect in mode follow is no other one
followed-only : (redirects follows : Bool) → IsTrue follows → (redirects && not follows) ≡ false
followed-only true true is = refl
followed-only true false is = absurd (cc)
followed-only false follows is = refl

-- the view of a response that is handed over, by its tainting
handed : (request : Request) (hop : Hop) (head : Head) → IsOpaque request hop head
    → permitted_view request hop head ≡ response_view request.tainting request head
handed request hop head is =
    let sent = denied hop.preflight is.response.allowed.sent in
    let allowed = denied (is_refused request head.headers) is.response.allowed.allowed in
    let last = denied (is_followed request head) is.response.last in
    let only = followed-only (is_redirect_status head.status) (is_follow request.redirect) is.follows in
    rw (sent, allowed, only, last) refl

opaque-view : (request : Request) (hop : Hop) (head : Head) → IsOpaque request hop head
    → permitted_view request hop head ≡ opaque_view request head
opaque-view request hop head is =
    handed request hop head is ∙ ap (λ (kind : Tainting). response_view kind request head) is.tainted

pub hides-opaque : HidesOpaque
hides-opaque request hop head other is are same =
    opaque-view request hop head is
    ∙ ap (λ (headers : List Header). let view : Head = record { status = 200; headers = headers } in view) same
    ∙ sym (opaque-view request hop other are)

refused-view : (request : Request) (hop : Hop) (head : Head) → IsKeptOut request hop head
    → permitted_view request hop head ≡ refused_view request head
refused-view request hop head is = rw (is.sent, is.refused) refl

pub hides-refused : HidesRefused
hides-refused request hop head other is are same =
    refused-view request hop head is
    ∙ ap (λ (headers : List Header). let view : Head = record { status = 200; headers = headers } in view) same
    ∙ sym (refused-view request hop other are)
