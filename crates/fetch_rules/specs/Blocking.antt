-- What main fetch refuses before anything is sent (Fetch, section 4.1, "main fetch", step 7: "should be blocked due to
-- a bad port", and "should fetching request be blocked as mixed content?").
use Rattle.std.specs.Prelude.{Option, Some, None, if◌then◌else◌}
use Rattle.policy_checks.specs.Mixed.{is_blocked}
use Rattle.policy_checks.specs.Ports.{is_bad_port}
use Rattle.value_requests.specs.declared.client.Client.{Client}
use Rattle.value_requests.specs.declared.error.NetError.{NetError}
use Rattle.value_requests.specs.declared.error.NetError.TheVariants.{BadPort, Mixed}
use Rattle.value_requests.specs.declared.request.Request.{Request}
use Rattle.value_requests.specs.Requests.{current_url}

-- the network error of the first that refuses: a bad port, then mixed content. Enforced content security policies are
-- looked at after both; the standard names no order among the three (this project's own choice).
abbrev pub refusal_before : Client → Request → Option NetError
refusal_before client request =
    if is_bad_port (current_url request).port then Some BadPort
    else if is_blocked request client.origin client.top then Some Mixed
    else None
