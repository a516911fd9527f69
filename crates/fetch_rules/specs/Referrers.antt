-- The referrer of a request (Fetch, section 4.1, "main fetch", step 9, where "determine request's Referrer" of Referrer
-- Policy, section 8.3, is called).
use Rattle.std.specs.Prelude.{Option, Some, None}
use Rattle.url.specs.Parts.{Parts}
use Rattle.policy_checks.specs.Referrer.{determine}
use Rattle.value_requests.specs.declared.client.Client.{Client}
use Rattle.value_requests.specs.declared.mode.ReferrerPolicy.{ReferrerPolicy}
use Rattle.value_requests.specs.declared.request.Referrer.{Referrer}
use Rattle.value_requests.specs.declared.request.Referrer.TheVariants as referrer
use Rattle.value_requests.specs.declared.request.Request.{Request}
use Rattle.value_requests.specs.Requests.{current_url}
use Rattle.fetch_rules.specs.Policies.{with_policy}

-- a URL as a referrer, or none
abbrev pub referrer_of : Option Parts → Referrer
referrer_of None = referrer.NoReferrer
referrer_of (Some url) = referrer.Address url

-- what a referrer becomes on the way to a URL: none stays none, and the client's URL or a URL is what the policy
-- tells of it. After a redirect it starts from what was told before (this project's own choice).
abbrev pub determined : Client → ReferrerPolicy → Parts → Referrer → Referrer
determined client policy target referrer.NoReferrer = referrer.NoReferrer
determined client policy target referrer.Client = referrer_of (determine policy client.url target)
determined client policy target (referrer.Address url) = referrer_of (determine policy url target)

-- a request that has a policy, with its referrer determined
abbrev pub with_determined : Client → Request → Request
with_determined client request =
    record request { referrer = determined client request.policy (current_url request) request.referrer }

-- the request of a client with its policy and its referrer
abbrev pub with_referrer : Client → Request → Request
with_referrer client request = with_determined client (with_policy client request)
