-- What a fetch asks, teaches and takes back of the preflight cache (Fetch, section 4.4 "HTTP fetch", section 4.8
-- "CORS-preflight fetch", section 4.9 "CORS-preflight cache").
use Rattle.std.specs.Prelude.{ℕ, ◌&&◌, not, List, Option, Some, None, if◌then◌else◌}
use Rattle.url.specs.Parts.{serialize}
use Rattle.value_text.specs.Texts.{Text}
use Rattle.book_calls.specs.declared.op.Op.{Op}
use Rattle.book_calls.specs.declared.op.Op.TheVariants.{Clear, Covers, Learn}
use Rattle.policy_safelist.specs.UnsafeNames.{unsafe_names}
use Rattle.value_requests.specs.declared.client.Client.{Client}
use Rattle.value_requests.specs.declared.request.Request.{Request}
use Rattle.value_requests.specs.Modes.{is_include}
use Rattle.value_requests.specs.Methods.{is_safelisted_method}
use Rattle.value_requests.specs.Requests.{current_url}
use Rattle.policy_checks.specs.RequestOrigins.{serialized_request_origin}

-- the URL by which entries are found: the text of the current URL
abbrev pub url_text : Request → Text
url_text request = serialize (current_url request)

-- the method that is asked for: one that is not CORS-safelisted, or any with the use-CORS-preflight flag
abbrev pub asked_method : Request → Option Text
asked_method request =
    if is_safelisted_method request.method && not request.use_preflight then None else Some request.method

-- whether the cache covers the request: its method and its CORS-unsafe request-header names (HTTP fetch, step 4.1)
abbrev pub covers_of : Client → Request → ℕ → Op
covers_of client request now = Covers (record {
  key = client.key;
  origin = serialized_request_origin request;
  url = url_text request;
  include = is_include request.credentials;
  method = asked_method request;
  names = unsafe_names request.headers;
}) now

-- what the answer to the request's preflight allows, for so many seconds (CORS-preflight fetch, steps 7.12 to 7.15)
abbrev pub learn_of : Client → Request → ℕ → List Text → List Text → ℕ → Op
learn_of client request age methods names now = Learn (record {
  key = client.key;
  origin = serialized_request_origin request;
  url = url_text request;
  include = is_include request.credentials;
  age = age;
  methods = methods;
  names = names;
}) now

-- the preflight cache forgets what it has under the client's key of the request's origin and current URL (main fetch,
-- step 12)
abbrev pub clear_of : Client → Request → ℕ → Op
clear_of client request now = Clear client.key (serialized_request_origin request) (url_text request) now
