-- The theorem of both ends: a page reads the answer of a server that answers by an allow table exactly where the table
-- allows it (this project's own statement; a fetch is the whole one, Fetch, section 4.1).
use Rattle.std.specs.Prelude.{◌≡◌, ⊤, ℕ, ◌+◌, ◌<◌, ◌≤◌, nat_lt, Bool, true, false, ◌&&◌, ◌||◌, not}
use Rattle.std.specs.Prelude.{List, [], ◌∷◌, length, map}
use Rattle.std.specs.Prelude.{bytes_eq, codes, find, All, Contains, IsUtf8, Option, Some, None, Ok, if◌then◌else◌}
use Rattle.value_requests.specs.declared.error.NetError.TheVariants as error
use Rattle.value_requests.specs.declared.response.ResponseKind.TheVariants as kind
use Rattle.server_access.specs.Words.{Answer, Answering, Asked, BodyEnd, Context, Cookie, Cors, Error, Event, Header}
use Rattle.server_access.specs.Words.{Hop, Init, Input, IsClient, IsRead, IsServed, IsValid, LeadsOn, Legal, NetError}
use Rattle.server_access.specs.Words.{Null, Outcome, Request, Row, Sent, Text, TooBig, Whole, World, allows}
use Rattle.server_access.specs.Words.{authorization, comma, contains, current_url, empty, ended, fetch, is_fault}
use Rattle.server_access.specs.Words.{is_http_url, is_include, is_line_byte, is_origin_of, is_safelisted_method}
use Rattle.server_access.specs.Words.{is_token, is_uri_byte, is_value_byte, join_with_byte, list_all, list_any, lists}
use Rattle.server_access.specs.Words.{may_be_listed, most_in_line, most_lines, needs_preflight, new_request}
use Rattle.server_access.specs.Words.{refusal_before, request_bytes, row_of, serialized_request_origin}
use Rattle.server_access.specs.Words.{str_to_ascii_lowercase, table_of, tuple_origin, unsafe_names}

-- ---- the server

-- how many bytes the texts of a row have, with a comma between two of a list
abbrev pub row_size : Row → ℕ
row_size row =
    length row.origin + length (join_with_byte comma row.methods) + length (join_with_byte comma row.names)

-- a row as a table's text gives it: methods and names are tokens other than `*`, the names in lower case, and all its
-- texts fit on a line
pub record IsRow (row : Row) : Type 0 where
  pub methods : list_all may_be_listed row.methods ≡ true
  pub names : list_all may_be_listed row.names ≡ true
  pub lowered : map str_to_ascii_lowercase row.names ≡ row.names
  pub fits : row_size row ≤ most_in_line

-- the rows of each table's text are such rows
abbrev pub RowsAreRead : Type 0
RowsAreRead = (text : Text) (rows : List Row) → table_of text ≡ Ok rows → All IsRow rows

-- from this state on, each request that was sent is answered by the table
abbrev pub AnswersBy : {State : Type 0} → List Row → Answering State → State → List Event → Type 0
AnswersBy table by state [] = ⊤
AnswersBy table by state (Sent hop ∷ events) =
    IsServed table (request_bytes hop) (by.answer state hop) × AnswersBy table by (by.next state hop) events
AnswersBy table by state (event ∷ events) = AnswersBy table by state events

-- the server can read the head of a request
abbrev pub IsReadableRequest : Hop → Type 0
IsReadableRequest hop = (asked : Asked) × IsRead (request_bytes hop) (Some asked)

-- a request with a target that a server reads, and with 128 header lines at most, whose values have no control byte but
-- the tab
pub record IsPlainHop (hop : Hop) : Type 0 where
  pub method : is_token hop.method ≡ true
  pub some_target : 0 < length hop.url
  pub target : list_all is_uri_byte hop.url ≡ true
  pub target_text : IsUtf8 hop.url
  pub few : length hop.headers ≤ most_lines
  pub lines : (one : Header) → Contains hop.headers one
      → (is_token one.name ≡ true) × (list_all is_value_byte one.value ≡ true)

-- its head can be read
abbrev pub PlainHopsAreReadable : Type 0
PlainHopsAreReadable = (hop : Hop) → IsPlainHop hop → IsReadableRequest hop

-- the server can read the head of each request that was sent
abbrev pub AreReadable : List Event → Type 0
AreReadable events = (hop : Hop) → Contains events (Sent hop) → IsReadableRequest hop

-- ---- the page

-- A document without policies: its client has its URL, which is http or https, and the URL's origin. No cookie has a CR
-- or LF.
pub record IsOfDocument (context : Context) : Type 0 where
  pub client : IsClient context.client
  pub url : IsValid context.client.url
  pub origin_is : context.client.origin ≡ tuple_origin context.client.url
  pub policies_are : context.policies ≡ []
  pub cookies : All (λ (cookie : Cookie). list_all is_line_byte cookie.value ≡ true) context.cookies

-- A cors fetch of it without integrity, to an http or https URL of another origin, which nothing blocks.
pub record IsCorsFetch (context : Context) (init : Init) (request : Request) : Type 0 where
  pub document : IsOfDocument context
  pub request_is : new_request context.client init ≡ Ok request
  pub mode_is : init.mode ≡ Cors
  pub integrity_is : init.integrity ≡ []
  pub url : IsValid (current_url request)
  pub at_http : is_http_url (current_url request) ≡ true
  pub away : is_origin_of context.client.origin (current_url request) ≡ false
  pub unblocked : refusal_before context.client request ≡ None

-- From this state of the link and an empty book, with no call of another document between, and without a fault, the
-- fetch came to this outcome.
pub record CameTo {State : Type 0} (by : Answering State) (limit document : ℕ) (context : Context) (request : Request)
    (state : State) (events : List Event) (outcome : Outcome) : Type 0 where
  pub first : World State
  pub told : first.exchange.state ≡ Some state
  pub unasked : first.own ≡ []
  pub tape : List Input
  pub last : World State
  pub trace : LeadsOn by limit document (fetch context request) first tape events (ended outcome) last
  pub legal : Legal empty last.own
  pub faultless : list_any is_fault tape ≡ false

-- ---- the theorem

-- the table allows the request to the page: its method, its CORS-unsafe request-header names, and its credentials
abbrev pub is_allowed : List Row → Request → Bool
is_allowed table request =
    allows table (serialized_request_origin request) request.method (unsafe_names request.headers)
    (is_include request.credentials)

-- the body that a page reads, where bodies have so many bytes at most: `ok`, and none for HEAD
abbrev pub body_read : ℕ → Text → BodyEnd
body_read limit method =
    if bytes_eq method (codes "HEAD") then Null else if nat_lt limit 2 then TooBig else Whole (codes "ok")

-- the page reads the answer
abbrev pub IsReadable : ℕ → Request → Outcome → Type 0
IsReadable limit request (Answer response) =
    (response.kind ≡ kind.Cors) × (response.status ≡ 200) × (response.body ≡ body_read limit request.method)
IsReadable limit request _ = ⊥

-- the preflight of a row allows the method: the row lists it, the method is CORS-safelisted, or the row lists none and
-- the request has the use-CORS-preflight flag
abbrev pub passes_method : Row → Request → Bool
passes_method row request =
    lists row.methods request.method || is_safelisted_method request.method
    || (request.use_preflight && not (list_any (λ method. true) row.methods))

-- the header name that the preflight of a row refuses: Authorization, where the request has it and the row lacks it, or
-- else the first of the CORS-unsafe request-header names that the row lacks
abbrev pub refused_name : Row → Request → Option Text
refused_name row request =
    if contains authorization request.headers && not (lists row.names authorization) then Some authorization
    else find (λ name. not (lists row.names name)) (unsafe_names request.headers)

-- the error behind a preflight that refuses this name, or none
abbrev pub name_error : Option Text → NetError
name_error (Some name) = error.PreflightHeader name
name_error None = error.CorsCheck

-- the error behind a preflight, by the first row with the request's origin
abbrev pub row_error : Option Row → Request → NetError
row_error None request = error.PreflightCors
row_error (Some row) request =
    if is_include request.credentials && not row.credentials then error.PreflightCors
    else if not (passes_method row request) then error.PreflightMethod
    else name_error (refused_name row request)

-- the error of a request that the table does not allow
abbrev pub error_by : List Row → Request → NetError
error_by table request =
    if needs_preflight request then row_error (row_of table (serialized_request_origin request)) request
    else error.CorsCheck

-- the page reads the answer where it is allowed, or has the error
abbrev pub IsReadOr : ℕ → Bool → NetError → Request → Outcome → Type 0
IsReadOr limit true reason request outcome = IsReadable limit request outcome
IsReadOr limit false reason request outcome = outcome ≡ Error reason

-- the page reads the answer exactly where the table allows it, and else has the error that the table tells
abbrev pub IsByTable : ℕ → List Row → Request → Outcome → Type 0
IsByTable limit table request outcome =
    IsReadOr limit (is_allowed table request) (error_by table request) request outcome

-- so it is of the first cors fetch of a document, where the server answers each of its requests by the table, and can
-- read it
abbrev pub IsAccess : Type 0 → Type 0
IsAccess State =
    (table : List Row) (by : Answering State) (limit document : ℕ) (context : Context) (init : Init) (request : Request)
    (state : State) (events : List Event) (outcome : Outcome) → All IsRow table → IsCorsFetch context init request
    → CameTo by limit document context request state events outcome → AnswersBy table by state events
    → AreReadable events → IsByTable limit table request outcome
