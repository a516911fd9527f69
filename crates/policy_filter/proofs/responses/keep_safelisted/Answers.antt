use Rattle.std.proofs.Common.{◌∙◌, List, ap, filter, subst}
use Rattle.value_headers.specs.declared.headers.Header.{Header}
use Rattle.policy_filter.specs.declared.exposed.Exposure.{Exposure}
use Rattle.policy_filter.specs.Private.Exposing.{is_safelisted_in}
use Rattle.policy_filter.specs.Private.Listing.{Agree, is_safelisted_among}
use Rattle.policy_filter.proofs.ExposureLemmas.{safelisted-headers}
use Rattle.policy_filter.proofs.ListedLemmas.{filter-alone}
use Rattle.policy_filter.proofs.responses.keep_safelisted.Goals as goal

pub returns : goal.returns
returns c =
    let headers : List Header = c.args.headers.now in
    let agree : Agree headers c.in_ok-exposed.exposed c.in_ok-exposure.exposure =
    subst (λ (listed : List Header). Agree listed c.in_ok-exposed.exposed c.in_ok-exposure.exposure) c.as_slice.ensures
    c.in_ok-exposed.ensures in
    c.retain.ensures
    ∙ (filter-alone (is_safelisted_among c.in_ok-exposed.exposed) (is_safelisted_in c.in_ok-exposure.exposure)
    headers agree
    ∙ (ap (λ (exposure : Exposure). filter (is_safelisted_in exposure) headers) c.in_ok-exposure.ensures
    ∙ safelisted-headers c.args.request.now headers))
