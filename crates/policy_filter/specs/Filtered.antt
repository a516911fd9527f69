-- Filtered responses (Fetch, section 2.2.6), before their body is read.
use Rattle.std.specs.Prelude.{Bool, not, List, [], filter, Some, None, if◌then◌else◌}
use Rattle.value_text.specs.Texts.{Text}
use Rattle.value_headers.specs.declared.headers.Header.{Header}
use Rattle.value_requests.specs.declared.hop.Head.{Head}
use Rattle.value_requests.specs.declared.mode.Tainting.TheVariants as tainting
use Rattle.value_requests.specs.declared.mode.Tainting.{Tainting}
use Rattle.value_requests.specs.declared.request.Request.{Request}
use Rattle.value_requests.specs.declared.response.BodyEnd.TheVariants.{Null}
use Rattle.value_requests.specs.declared.response.Response.{Response}
use Rattle.value_requests.specs.declared.response.ResponseKind.TheVariants as kind
use Rattle.value_requests.specs.Modes.{is_include}
use Rattle.value_requests.specs.Requests.{current_url}
use Rattle.value_requests.specs.Urls.{without_fragment}
use Rattle.policy_filter.specs.Exposed.{exposed_names}
use Rattle.policy_filter.specs.Names.{is_forbidden, is_safelisted}

-- the URL of a response: the text of the current URL without its fragment
abbrev pub response_url : Request → Text
response_url request = without_fragment (current_url request)

-- the headers without those that have a forbidden response-header name
abbrev pub without_forbidden : List Header → List Header
without_forbidden headers = filter (λ header. not (is_forbidden header)) headers

-- the names that a header list exposes to a request
abbrev pub exposed_to : Request → List Header → List Text
exposed_to request headers = exposed_names (is_include request.credentials) headers

-- "basic filtered response"
abbrev pub basic_filtered : Request → Head → Response
basic_filtered request head = record {
  kind = kind.Basic;
  status = head.status;
  url = Some (response_url request);
  headers = without_forbidden head.headers;
  body = Null;
}

-- "CORS filtered response"
abbrev pub cors_filtered : Request → Head → Response
cors_filtered request head = record {
  kind = kind.Cors;
  status = head.status;
  url = Some (response_url request);
  headers = filter (is_safelisted (exposed_to request head.headers)) head.headers;
  body = Null;
}

-- "opaque filtered response"
abbrev pub opaque_filtered : Response
opaque_filtered = record {
  kind = kind.Opaque;
  status = 0;
  url = None;
  headers = [];
  body = Null;
}

-- "opaque-redirect filtered response"
abbrev pub redirect_filtered : Request → Response
redirect_filtered request = record {
  kind = kind.OpaqueRedirect;
  status = 0;
  url = Some (response_url request);
  headers = [];
  body = Null;
}

-- the filtered response by a response tainting (Fetch, "main fetch")
abbrev pub filtered_by : Tainting → Request → Head → Response
filtered_by tainting.Basic request head = basic_filtered request head
filtered_by tainting.Cors request head = cors_filtered request head
filtered_by tainting.Opaque request head = opaque_filtered

-- the filtered response of a head: an opaque-redirect one where it is a redirect in redirect mode manual (Fetch, "HTTP
-- fetch"), and else the one by the request's tainting
abbrev pub filtered : Request → Head → Bool → Response
filtered request head manual = if manual then redirect_filtered request else filtered_by request.tainting request head
