-- The referrer of a request that a document makes: its text is visible.
use Rattle.std.proofs.Common.{Bool, true, false, Option, Some, None, refl, IfSome, if◌then◌else◌}
use Rattle.url.specs.Parts.{Parts}
use Rattle.value_origins.specs.Origins.{have_same_origin}
use Rattle.policy_checks.specs.Referrer.{determine, is_downgrade, is_too_long, origin_only, whole}
use Rattle.fetch_rules.specs.Referrers.{determined, referrer_of}
use Rattle.value_requests.specs.declared.client.Client.{Client}
use Rattle.value_requests.specs.declared.mode.ReferrerPolicy.{ReferrerPolicy}
use Rattle.value_requests.specs.declared.mode.ReferrerPolicy.TheVariants as policy
use Rattle.policy_checks.specs.OriginHeader.{referrer_value}
use Rattle.value_requests.specs.Urls.{stripped}
use Rattle.fetch_requests.specs.Making.{referrer_of as given_referrer}
use Rattle.server_access.proofs.VisibleLemmas.{AreVisible, HasVisibleParts, visible-serialize}

stripped-parts : (url : Parts) → HasVisibleParts url → HasVisibleParts (stripped url)
stripped-parts url parts = record {
  scheme = parts.scheme;
  username = refl;
  password = refl;
  host = parts.host;
  path = parts.path;
  query = parts.query;
  fragment = refl;
}

origin-parts : (url : Parts) → HasVisibleParts url → HasVisibleParts (origin_only url)
origin-parts url parts = record {
  scheme = parts.scheme;
  username = refl;
  password = refl;
  host = parts.host;
  path = refl;
  query = refl;
  fragment = refl;
}

module _ (source target : Parts) (parts : HasVisibleParts source) where
  -- a URL whose parts are visible, or none
  abbrev AreTold : Option Parts → Type 0
  AreTold told = IfSome told HasVisibleParts

  whole-parts : HasVisibleParts (whole source)
  whole-parts = by-test (is_too_long source)
    where
      by-test : (b : Bool) → HasVisibleParts (if b then origin_only source else stripped source)
      by-test true = origin-parts source parts
      by-test false = stripped-parts source parts

  either-told : (b : Bool) (one other : Option Parts) → AreTold one → AreTold other
      → AreTold (if b then one else other)
  either-told true one other x y = x
  either-told false one other x y = y

  determine-told : (kind : ReferrerPolicy) → AreTold (determine kind source target)
  determine-told policy.Empty = tt
  determine-told policy.NoReferrer = tt
  determine-told policy.Origin = origin-parts source parts
  determine-told policy.UnsafeUrl = whole-parts
  determine-told policy.SameOrigin =
      either-told (have_same_origin source target) (Some (whole source)) None whole-parts tt
  determine-told policy.OriginWhenCrossOrigin =
      either-told (have_same_origin source target) (Some (whole source)) (Some (origin_only source)) whole-parts
      (origin-parts source parts)
  determine-told policy.StrictOrigin =
      either-told (is_downgrade source target) None (Some (origin_only source)) tt (origin-parts source parts)
  determine-told policy.StrictOriginWhenCrossOrigin =
      either-told (have_same_origin source target) (Some (whole source)) _ whole-parts
      (either-told (is_downgrade source target) None (Some (origin_only source)) tt (origin-parts source parts))
  determine-told policy.NoReferrerWhenDowngrade =
      either-told (is_downgrade source target) None (Some (whole source)) tt whole-parts

  told-value : (told : Option Parts) → AreTold told → IfSome (referrer_value (referrer_of told)) AreVisible
  told-value None told = tt
  told-value (Some url) told = visible-serialize url told

-- what is sent as Referer, where a script gives the client or none as the referrer
pub referrer-visible : (client : Client) (kind : ReferrerPolicy) (target : Parts) (given : Bool)
    → HasVisibleParts client.url
    → IfSome (referrer_value (determined client kind target (given_referrer given))) AreVisible
referrer-visible client kind target true parts =
    told-value client.url target parts (determine kind client.url target)
    (determine-told client.url target parts kind)
referrer-visible client kind target false parts = tt
