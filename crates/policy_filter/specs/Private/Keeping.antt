-- Which headers of a head are kept.
use Rattle.std.specs.Prelude.{Bool, ◌||◌, not, map}
use Rattle.value_headers.specs.declared.headers.Header.{Header}
use Rattle.value_requests.specs.declared.mode.Tainting.TheVariants as tainting
use Rattle.policy_checks.specs.PermittedNames.{has_name_among, preflight_names}
use Rattle.policy_filter.specs.declared.keep.Keep.{Keep}
use Rattle.policy_filter.specs.declared.keep.Keep.TheVariants.{Allowed, Preflight, Safelisted, Told, ToldCors}
use Rattle.policy_filter.specs.Names.{is_forbidden}
use Rattle.policy_filter.specs.Private.Listing.{is_safelisted_among}
use Rattle.policy_filter.specs.Views.{is_told, response_names}

-- the header is kept
abbrev pub keeps : Keep → Header → Bool
keeps Allowed header = not (is_forbidden header)
keeps Preflight header = has_name_among preflight_names header
keeps (Told tainting names) header = is_told tainting (map (λ name. name.now) names.now) header
keeps (Safelisted exposed) header = is_safelisted_among exposed.now header
keeps (ToldCors exposed) header =
    is_safelisted_among exposed.now header || is_told tainting.Cors response_names header
