-- The requests by which the violations of a document's policies are reported (CSP 3, section 5.5 "report a violation",
-- for the directive `report-uri`). The body has four members of the standard's, so that it tells of an answer or of a
-- redirect's target nothing; the redirect mode, the header Accept and the destination are those of a `fetch` (this
-- project's own choice).
use Rattle.std.specs.Prelude.{ℕ, ◌&&◌, Bool, true, false, not, List, [], ◌∷◌, ◌++◌, map, codes, bytes_eq, slice_get}
use Rattle.std.specs.Prelude.{Option, Some, None, unwrap_or, if◌then◌else◌}
use Rattle.value_requests.specs.declared.mode.Credentials.TheVariants as credentials
use Rattle.value_requests.specs.declared.mode.Mode.TheVariants as mode
use Rattle.value_requests.specs.declared.policy.Destination.TheVariants as destination
use Rattle.report_delivery.specs.Words.{Basic, Client, Directive, Document, Empty, Event, Follow, Header, Parts, Policy}
use Rattle.report_delivery.specs.Words.{Request, Text, Told, Violation, directive_name, filter_map, flat_map}
use Rattle.report_delivery.specs.Words.{has_credentials, header, is_http, is_short_url, option_map_or, quoted}
use Rattle.report_delivery.specs.Words.{tuple_origin, url_against, utf8_text, without_fragment}

-- ---- what is reported

-- the violation that an event tells
abbrev pub violation_in : Event → Option Violation
violation_in (Told violation) = Some violation
violation_in _ = None

-- the violations that the document was told, in order
abbrev pub violations_told : List Event → List Violation
violations_told events = filter_map violation_in events

-- ---- to whom

-- the words of the directive of a name; none where there is no such directive
abbrev pub words_named : Text → List Directive → List Text
words_named name [] = []
words_named name (directive ∷ directives) =
    if bytes_eq directive.name name then directive.words else words_named name directives

-- the words of `report-uri` in a policy
abbrev pub report_words : Policy → List Text
report_words policy = words_named (codes "report-uri") policy.directives

-- the words of `report-uri` in the policy of this number
abbrev pub report_words_of : List Policy → ℕ → List Text
report_words_of policies number = option_map_or report_words (slice_get policies number) []

-- an http or https URL without credentials, of at most 8,192 bytes
abbrev pub is_endpoint : Parts → Bool
is_endpoint url = is_http url.scheme && not (has_credentials url) && is_short_url url

-- the URL, where a report may go there
abbrev pub if_endpoint : Option Parts → Option Parts
if_endpoint None = None
if_endpoint (Some url) = if is_endpoint url then Some url else None

-- where a word sends reports: the URL that it gives against the document's, where a report may go there
abbrev pub endpoint_of : Parts → Text → Option Parts
endpoint_of base word = if_endpoint (url_against base word)

-- ---- the body

-- "disposition": enforced, or report-only
abbrev pub disposition : Bool → Text
disposition true = codes "enforce"
disposition false = codes "report"

-- the text of a reported URL, which is UTF-8
abbrev pub url_text : Text → Text
url_text url = unwrap_or (utf8_text url) []

-- "obtain the deprecated serialization of violation" (section 5.3), for a document of this URL
abbrev pub report_body : Parts → Violation → Text
report_body url violation =
    codes "{\"csp-report\":{\"blocked-uri\":" ++ quoted (url_text violation.url)
    ++ codes ",\"disposition\":" ++ quoted (disposition violation.enforced)
    ++ codes ",\"document-uri\":" ++ quoted (without_fragment url)
    ++ codes ",\"effective-directive\":" ++ quoted (directive_name violation.directive) ++ codes "}}"

-- ---- the request

abbrev pub report_headers : List Header
report_headers =
    header (codes "Content-Type") (codes "application/csp-report") ∷ header (codes "Accept") (codes "*/*") ∷ []

-- the report of a violation of a document to an endpoint
abbrev pub report_request : Document → Violation → Parts → Request
report_request document violation endpoint = record {
  method = codes "POST";
  urls = endpoint ∷ [];
  headers = report_headers;
  body = Some (report_body document.url violation);
  origin = tuple_origin document.url;
  mode = mode.NoCors;
  credentials = credentials.SameOrigin;
  redirect = Follow;
  referrer = Client;
  policy = Empty;
  integrity = [];
  nonce = [];
  parser = false;
  unsafe_request = false;
  use_preflight = false;
  destination = destination.Fetch;
  tainting = Basic;
  redirects = 0;
}

-- the reports of a violation to the endpoints of these words, in order
abbrev pub reports_to : Document → Violation → List Text → List Request
reports_to document violation words =
    map (report_request document violation) (filter_map (endpoint_of document.url) words)

-- the reports of a violation: one to each endpoint of its policy, in order
abbrev pub reports_of : Document → Violation → List Request
reports_of document violation =
    reports_to document violation (report_words_of document.policies violation.policy)

-- the reports of a document's violations, in order
abbrev pub report_requests : Document → List Event → List Request
report_requests document events = flat_map (reports_of document) (violations_told events)
