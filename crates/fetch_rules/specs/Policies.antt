-- The referrer policy of a request (Fetch, section 4.1, "main fetch", step 8: a policy that is the empty string becomes
-- that of the client).
use Rattle.value_requests.specs.declared.client.Client.{Client}
use Rattle.value_requests.specs.declared.request.Request.{Request}
use Rattle.value_requests.specs.ReferrerPolicies.{policy_or}

-- the request, with a referrer policy: its own, or the client's where it has none
abbrev pub with_policy : Client → Request → Request
with_policy client request = record request { policy = policy_or request.policy client.policy }
