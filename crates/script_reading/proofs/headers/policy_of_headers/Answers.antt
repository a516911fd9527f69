use Rattle.std.proofs.Common.{ap, sym, ◌∙◌}
use Rattle.std.specs.Prelude.{codes}
use Rattle.value_headers.specs.Headers.{joined}
use Rattle.value_requests.specs.ReferrerPolicies.{policy_where}
use Rattle.script_reading.specs.Headers.{policy_or_default}
use Rattle.script_reading.proofs.HeaderLemmas.{values-listed}
use Rattle.script_reading.proofs.headers.policy_of_headers.Goals as goal

pub returns : goal.returns
returns c =
    c.policy_or_default.ensures
    ∙ ap policy_or_default (c.in_ok-policy_of_header.ensures
    ∙ ap (λ values. policy_where (joined values))
    (c.in_ok-list.ensures ∙ sym (values-listed (codes "Referrer-Policy") c.args.headers.now)))
