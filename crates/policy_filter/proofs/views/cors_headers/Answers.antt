use Rattle.std.proofs.Common.{◌≡◌, ◌||◌, ◌∙◌, List, IfOk, ap, filter, subst}
use Rattle.value_headers.specs.declared.headers.Header.{Header}
use Rattle.value_requests.specs.declared.mode.Tainting.TheVariants as tainting
use Rattle.policy_filter.specs.declared.exposed.Exposure.{Exposure}
use Rattle.policy_filter.specs.Private.Exposing.{is_safelisted_in}
use Rattle.policy_filter.specs.Private.Listing.{Agree, is_safelisted_among}
use Rattle.policy_filter.specs.Views.{is_told, response_names}
use Rattle.policy_filter.proofs.ExposureLemmas.{cors-headers}
use Rattle.policy_filter.proofs.ListedLemmas.{filter-there}
use Rattle.policy_filter.proofs.views.cors_headers.Goals as goal

pub returns : goal.returns
returns c =
    let headers : List Header = c.args.headers.now in
    let agree : Agree headers c.in_ok-exposed.exposed c.in_ok-exposure.exposure =
    subst (λ (listed : List Header). Agree listed c.in_ok-exposed.exposed c.in_ok-exposure.exposure) c.as_slice.ensures
    c.in_ok-exposed.ensures in
    subst (λ (kept : List Header). IfOk c.copy_where.result (λ list. list ≡ kept))
    (filter-there (is_safelisted_among c.in_ok-exposed.exposed) (is_safelisted_in c.in_ok-exposure.exposure)
    (is_told tainting.Cors response_names) headers agree
    ∙ (ap (λ (exposure : Exposure). filter (λ header. is_safelisted_in exposure header
    || is_told tainting.Cors response_names header) headers) c.in_ok-exposure.ensures
    ∙ cors-headers c.args.request.now headers)) c.copy_where.ensures
