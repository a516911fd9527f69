-- The client of the settings is one: its URL is http or https, and its policy is in force.
use Rattle.std.proofs.Common.{◌≡◌, ap, sym, subst}
use Rattle.std.specs.Prelude.{IsTrue}
use Rattle.url.specs.Parts.{Parts}
use Rattle.value_requests.specs.Clients.{client_of}
use Rattle.value_requests.specs.ReferrerPolicies.{policy_or}
use Rattle.value_requests.specs.Requests.{IsClient, is_http_url, is_policy}
use Rattle.value_requests.specs.declared.client.Client.{Client}
use Rattle.value_requests.specs.declared.mode.ReferrerPolicy.{ReferrerPolicy}
use Rattle.value_requests.specs.declared.mode.ReferrerPolicy.TheVariants as policy
use Rattle.c_fetch.proofs.settings.Settings.new.Goals as goal

-- a policy in force is one
in_force : (given used : ReferrerPolicy) → used ≡ policy_or given policy.StrictOriginWhenCrossOrigin
    → IsTrue (is_policy used)
in_force policy.Empty used e = ap is_policy e
in_force policy.NoReferrer used e = ap is_policy e
in_force policy.NoReferrerWhenDowngrade used e = ap is_policy e
in_force policy.SameOrigin used e = ap is_policy e
in_force policy.Origin used e = ap is_policy e
in_force policy.StrictOrigin used e = ap is_policy e
in_force policy.OriginWhenCrossOrigin used e = ap is_policy e
in_force policy.StrictOriginWhenCrossOrigin used e = ap is_policy e
in_force policy.UnsafeUrl used e = ap is_policy e

valid : (client : Client) (url top : Parts) (used : ReferrerPolicy) → client ≡ client_of url top used
    → IsTrue (is_http_url url) → IsTrue (is_policy used) → IsClient client
valid client url top used e http named =
    subst (λ (it : Client). IsClient it) (sym e) (record { url = http; policy = named })

pub invariant_of-result : goal.invariant_of-result
invariant_of-result c =
    valid c.in_ok-client.client c.in_ok-url.url c.in_ok-top.top c.policy_or-policy.result c.in_ok-client.ensures c.in_ok-url.ensures.http (in_force c.args.policy c.policy_or-policy.result c.policy_or-policy.ensures)
