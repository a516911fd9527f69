-- The body of a report as a JSON value (private contracts).
use Rattle.serde_json.specs.Data.{Data, member, no_members, object, string}
use Rattle.std.specs.Prelude.{codes}
use Rattle.url.specs.Parts.{Parts}
use Rattle.value_requests.specs.declared.policy.Violation.{Violation}
use Rattle.value_requests.specs.Names.{directive_name}
use Rattle.value_requests.specs.Urls.{without_fragment}
use Rattle.report_delivery.specs.Reports.{disposition, url_text}

-- the four members, in order, inside one
abbrev pub report_data : Parts → Violation → Data
report_data url violation =
    object (member (codes "csp-report") (object
    (member (codes "blocked-uri") (string (url_text violation.url))
    (member (codes "disposition") (string (disposition violation.enforced))
    (member (codes "document-uri") (string (without_fragment url))
    (member (codes "effective-directive") (string (directive_name violation.directive)) no_members)))))
    no_members)
