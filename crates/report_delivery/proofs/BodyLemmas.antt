-- The text of a report's body.
use Rattle.json.specs.Print.{quoted}
use Rattle.serde_json.specs.Data.{Data, member, no_members, object, string}
use Rattle.serde_json.specs.Written.{compact_text, has_float}
use Rattle.serde_json.proofs.OnLiterals.{serde_json_on_literals}
use Rattle.std.proofs.Common.{◌≡◌, ℕ, List, ◌++◌, false, codes, ◌∙◌, ap, append_assoc}
use Rattle.url.specs.Parts.{Parts}
use Rattle.value_requests.specs.declared.policy.Violation.{Violation}
use Rattle.value_requests.specs.Names.{directive_name}
use Rattle.value_requests.specs.Urls.{without_fragment}
use Rattle.report_delivery.specs.Reports.{disposition, report_body, url_text}
use Rattle.report_delivery.specs.Private.Bodies.{report_data}

-- four members inside one, as text
members-text : (blocked how where_ which : List ℕ) → compact_text (object (member (codes "csp-report") (object
    (member (codes "blocked-uri") (string blocked) (member (codes "disposition") (string how)
    (member (codes "document-uri") (string where_) (member (codes "effective-directive") (string which) no_members)))))
    no_members))
    ≡ codes "{\"csp-report\":{\"blocked-uri\":" ++ quoted blocked ++ codes ",\"disposition\":" ++ quoted how
    ++ codes ",\"document-uri\":" ++ quoted where_ ++ codes ",\"effective-directive\":" ++ quoted which ++ codes "}}"
unfolding serde_json_on_literals
members-text blocked how where_ which = simp append_assoc

-- the text that is written of the value is the body
pub body-text : (url : Parts) (violation : Violation) (value : Data) (text : List ℕ)
    → value ≡ report_data url violation → (has_float value ≡ false → text ≡ compact_text value)
    → text ≡ report_body url violation
body-text url violation value text is written =
    written (ap has_float is) ∙ ap compact_text is
    ∙ members-text (url_text violation.url) (disposition violation.enforced) (without_fragment url)
    (directive_name violation.directive)
