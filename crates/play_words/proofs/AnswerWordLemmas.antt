-- Where a redirect leads is of words, and what a fetch comes to has no LF where it is printed as it is.
use Rattle.std.proofs.Common.{◌≡◌, ◌==◌, Bool, true, false, not, cond, List, [], ◌∷◌, ℕ}
use Rattle.std.proofs.Common.{refl, codes, Option, Some, None, Ok, Err}
use Rattle.std.specs.Prelude.{IfSome, IsTrue, option_map}
use Rattle.std.specs.Result.{result_ok}
use Rattle.std.specs.Bool.{then_some}
use Rattle.std.specs.Option.{option_or}
use Rattle.std.proofs.lemmas.Bool.{cond_both, not-false}
use Rattle.url.specs.Parser.{Parsed, parse_url}
use Rattle.url.specs.Parts.{Parts}
use Rattle.value_headers.specs.declared.headers.Header.{Header}
use Rattle.value_lists.specs.declared.extract.Extracted.{Extracted}
use Rattle.value_lists.specs.declared.extract.Extracted.TheVariants.{Absent, Failure, Items}
use Rattle.value_lists.specs.declared.extract.Rule.TheVariants.{Single}
use Rattle.value_lists.specs.Extract.{extracted}
use Rattle.value_origins.specs.declared.origin.Origin.{Origin}
use Rattle.value_requests.specs.declared.error.NetError.{NetError}
use Rattle.value_requests.specs.declared.error.NetError.TheVariants as error
use Rattle.value_requests.specs.declared.hop.Head.{Head}
use Rattle.value_requests.specs.declared.mode.Tainting.{Tainting}
use Rattle.value_requests.specs.declared.mode.Tainting.TheVariants as tainting
use Rattle.value_requests.specs.declared.policy.Destination.{Destination}
use Rattle.value_requests.specs.declared.request.Request.{Request}
use Rattle.value_requests.specs.declared.response.BodyEnd.{BodyEnd}
use Rattle.value_requests.specs.declared.response.Outcome.TheVariants.{Answer, Error, Loaded}
use Rattle.value_requests.specs.declared.response.Response.{Response}
use Rattle.value_requests.specs.Requests.{current_url, is_http_url, most_redirects}
use Rattle.value_requests.specs.Urls.{is_short_url, unless_long, url_against, url_of_text, utf8_text, without_fragment}
use Rattle.policy_csp_text.specs.declared.policy.Policy.{Policy}
use Rattle.policy_csp.specs.Violations.{has_enforced, response_violations}
use Rattle.policy_filter.specs.Filtered.{filtered_by, redirect_filtered}
use Rattle.fetch_answers.specs.declared.answers.Ended.{Ended}
use Rattle.fetch_answers.specs.declared.answers.Ended.TheVariants.{Over, Reads}
use Rattle.fetch_answers.specs.declared.answers.Redirection.{Redirection}
use Rattle.fetch_answers.specs.declared.answers.Redirection.TheVariants.{Goes, Refuses, Stays}
use Rattle.fetch_answers.specs.Bodies.{is_coded}
use Rattle.fetch_answers.specs.Endings.{after_body, block_error, ended_by, ended_unblocked}
use Rattle.fetch_answers.specs.Endings.{ended_under, handed_over, is_accepted, is_bodiless, is_read, is_trusting}
use Rattle.fetch_answers.specs.Endings.{response_of, without_body}
use Rattle.fetch_answers.specs.Judging.{check_error, is_to_follow, refusal_after}
use Rattle.fetch_answers.specs.Redirects.{extracted_url, location_url, redirection, redirection_by, redirection_to}
use Rattle.fetch_answers.specs.Redirects.{redirection_where, shows_credentials, with_fragment_of}
use Rattle.fetch_answers.specs.Words.{is_error, is_fetch, is_manual, is_nosniff_blocked, is_type_blocked}
use Rattle.fetch_answers.specs.Words.{passes_check}
use Rattle.fetch_answers.specs.Words as answers
use Rattle.play_text.specs.Plain.{IsLine, IsPlainError, IsPlainOutcome}
use Rattle.play_words.proofs.FetchWordLemmas.{word-line}
use Rattle.play_words.proofs.PathWordLemmas.{AreVisibleIn}
use Rattle.play_words.proofs.RequestWordLemmas.{IsWordRequest}
use Rattle.play_words.proofs.TextWordLemmas.{without-word}
use Rattle.play_words.proofs.UrlWordLemmas.{IsWordUrl, parse-words}

-- ---- the URL of a redirect

-- of words where it is http or https
abbrev pub IsWordWhere : Parts → Type 0
IsWordWhere url = IsTrue (is_http_url url) → IsWordUrl url

abbrev GivesWhere : Option Parts → Type 0
GivesWhere url = IfSome url IsWordWhere

-- a base of words, which is http or https
abbrev pub IsWordBase : Option Parts → Type 0
IsWordBase base = IfSome base (λ url. IsWordUrl url × IsTrue (is_http_url url))

pub text-where : (base : Option Parts) (text : Option (List ℕ)) → IsWordBase base → GivesWhere (url_of_text base text)
text-where base None is = tt
text-where base (Some text) is = by (parse_url base text) refl
  where
    by : (read : Parsed Parts) → parse_url base text ≡ read → GivesWhere (result_ok read)
    by (Ok url) same = λ http. parse-words base text url is same http
    by (Err error) same = tt

pub unless-where : (url : Option Parts) → GivesWhere url → GivesWhere (unless_long url)
unless-where None is = tt
unless-where (Some url) is = cond_both (is_short_url url) (Some url) None GivesWhere (λ _. is) (λ _. tt)

fragment-word : (current url : Parts) → IsWordUrl current → IsWordUrl url → IsWordUrl (with_fragment_of current url)
fragment-word current url was is = record {
  scheme = is.scheme;
  username = is.username;
  password = is.password;
  host = is.host;
  port = is.port;
  path = is.path;
  query = is.query;
  fragment = by url.fragment is.fragment;
}
  where
    by : (own : Option (List ℕ)) → AreVisibleIn own → AreVisibleIn (option_or own current.fragment)
    by None here = was.fragment
    by (Some text) here = here

location-where : (current : Parts) (text : List ℕ) → IsWordUrl current → IsTrue (is_http_url current)
    → GivesWhere (location_url current text)
location-where current text is http =
    unless-where (option_map (with_fragment_of current) (url_against current text))
    (by (url_against current text) (text-where (Some current) (utf8_text text) (is, http)))
  where
    by : (url : Option Parts) → GivesWhere url → GivesWhere (option_map (with_fragment_of current) url)
    by None given = tt
    by (Some url) given = λ web. fragment-word current url is (given web)

extracted-where : (current : Parts) (texts : Extracted) → IsWordUrl current → IsTrue (is_http_url current)
    → GivesWhere (extracted_url current texts)
extracted-where current Absent is http = tt
extracted-where current Failure is http = tt
extracted-where current (Items []) is http = tt
extracted-where current (Items (text ∷ [])) is http = location-where current text is http
extracted-where current (Items (text ∷ more ∷ texts)) is http = tt

-- ---- the redirect

-- it is refused by a plain error, or goes to an http or https URL of words
abbrev pub IsWordRedirection : Redirection → Type 0
IsWordRedirection Stays = Unit {0}
IsWordRedirection (Refuses reason) = IsPlainError reason
IsWordRedirection (Goes url) = IsWordUrl url × IsTrue (is_http_url url)

to-word : (request : Request) (url : Parts) → IsWordWhere url → IsWordRedirection (redirection_to request url)
to-word request url is =
    let last = cond (shows_credentials request url) (Refuses error.RedirectCredentials) (Goes url) in
    let second = cond (request.redirects == most_redirects) (Refuses error.TooManyRedirects) last in
    cond_both (not (is_http_url url)) (Refuses error.RedirectScheme) second IsWordRedirection (λ _. tt)
    (λ http. cond_both (request.redirects == most_redirects) (Refuses error.TooManyRedirects) last IsWordRedirection
    (λ _. tt)
    (λ _. cond_both (shows_credentials request url) (Refuses error.RedirectCredentials) (Goes url) IsWordRedirection
    (λ _. tt) (λ _. let web = not-false (is_http_url url) http in (is web, web))))

redirect-where : (request : Request) (url : Option Parts) → GivesWhere url
    → IsWordRedirection (redirection_where request url)
redirect-where request None is = tt
redirect-where request (Some url) is = to-word request url is

redirect-by : (request : Request) (texts : Extracted) → IsWordRequest request
    → IsWordRedirection (redirection_by request texts)
redirect-by request Absent is = tt
redirect-by request Failure is = tt
redirect-by request (Items texts) is =
    redirect-where request (extracted_url (current_url request) (Items texts))
    (extracted-where (current_url request) (Items texts) is.current is.http)

pub redirection-word : (request : Request) (head : Head) → IsWordRequest request
    → IsWordRedirection (redirection request head)
redirection-word request head is =
    let texts = extracted Single (codes "Location") head.headers in
    cond_both (is_to_follow request head) (redirection_by request texts) Stays IsWordRedirection
    (λ _. redirect-by request texts is) (λ _. tt)

-- ---- refusals

-- an error that is there is plain
abbrev pub AreErrors : Option NetError → Type 0
AreErrors reason = IfSome reason IsPlainError

some-plain : (test : Bool) (reason : NetError) → IsPlainError reason → AreErrors (then_some test reason)
some-plain true reason is = is
some-plain false reason is = tt

or-plain : (first second : Option NetError) → AreErrors first → AreErrors second → AreErrors (option_or first second)
or-plain None second one two = two
or-plain (Some reason) second one two = one

pub before-plain : (test other : Bool)
    → AreErrors (cond test (Some error.BadPort) (cond other (Some error.Mixed) None))
before-plain true other = tt
before-plain false true = tt
before-plain false false = tt

check-plain : (kind : Tainting) (request : Request) (headers : List Header) → AreErrors (check_error kind request headers)
check-plain tainting.Basic request headers = tt
check-plain tainting.Cors request headers = some-plain (not (passes_check request headers)) error.CorsCheck tt
check-plain tainting.Opaque request headers = some-plain (answers.is_blocked request headers) error.Corp tt

pub after-plain : (request : Request) (head : Head) → AreErrors (refusal_after request head)
after-plain request head =
    or-plain (check_error request.tainting request head.headers) (then_some (is_error request head) error.RedirectMode)
    (check-plain request.tainting request head.headers)
    (some-plain (is_error request head) error.RedirectMode tt)

-- ---- the end

-- the URL of a response, where it has one
abbrev pub IsPlainResponse : Response → Type 0
IsPlainResponse response = IfSome response.url IsLine

abbrev pub IsPlainEnded : Ended → Type 0
IsPlainEnded (Over outcome) = IsPlainOutcome outcome
IsPlainEnded (Reads response) = IsPlainResponse response

handed-plain : (request : Request) (response : Response) → IsPlainResponse response
    → IsPlainOutcome (handed_over request response)
handed-plain request response is =
    cond_both (is_fetch request.destination) (Answer response) Loaded IsPlainOutcome (λ _. is) (λ _. tt)

url-plain : (request : Request) → IsWordRequest request → IsLine (without_fragment (current_url request))
url-plain request is = word-line (without_fragment (current_url request)) (without-word (current_url request) is.current)

filtered-plain : (kind : Tainting) (request : Request) (head : Head) → IsWordRequest request
    → IsPlainResponse (filtered_by kind request head)
filtered-plain tainting.Basic request head is = url-plain request is
filtered-plain tainting.Cors request head is = url-plain request is
filtered-plain tainting.Opaque request head is = tt

response-plain : (request : Request) (head : Head) → IsWordRequest request
    → IsPlainResponse (response_of request head)
response-plain request head is =
    cond_both (is_manual request head) (redirect_filtered request) (filtered_by request.tainting request head)
    IsPlainResponse (λ _. url-plain request is)
    (λ _. filtered-plain request.tainting request head is)

without-plain : (request : Request) (response : Response) → IsPlainResponse response
    → IsPlainOutcome (without_body request response)
without-plain request response is =
    cond_both (is_trusting request) (handed_over request response) (Error error.Integrity) IsPlainOutcome
    (λ _. handed-plain request response is) (λ _. tt)

pub body-plain : (request : Request) (response : Response) (end : BodyEnd) → IsPlainResponse response
    → IsPlainOutcome (after_body request response end)
body-plain request response end is =
    let whole = record response { body = end } in
    cond_both (is_accepted request end) (handed_over request whole) (Error error.Integrity) IsPlainOutcome
    (λ _. handed-plain request whole is) (λ _. tt)

unblocked-plain : (request : Request) (head : Head) → IsWordRequest request
    → IsPlainEnded (ended_unblocked request head)
unblocked-plain request head is =
    let response = response_of request head in
    let plain = response-plain request head is in
    let read = cond (is_coded head) (Over (Error error.Coding)) (Reads response) in
    let second = cond (not (is_read request)) (Over Loaded) read in
    cond_both (is_bodiless request head) (Over (without_body request response)) second IsPlainEnded
    (λ _. without-plain request response plain)
    (λ _. cond_both (not (is_read request)) (Over Loaded) read IsPlainEnded (λ _. tt)
    (λ _. cond_both (is_coded head) (Over (Error error.Coding)) (Reads response) IsPlainEnded (λ _. tt) (λ _. plain)))

block-plain : (blocked : Bool) (destination : Destination) (headers : List Header)
    → AreErrors (block_error blocked destination headers)
block-plain true destination headers = tt
block-plain false destination headers = by (is_type_blocked destination headers) (is_nosniff_blocked destination headers)
  where
    by : (first second : Bool) → AreErrors (cond first (Some error.Mime) (cond second (Some error.NoSniff) None))
    by true second = tt
    by false true = tt
    by false false = tt

pub ended-plain : (policies : List Policy) (document : Origin) (request : Request) (head : Head)
    → IsWordRequest request → IsPlainEnded (ended_under policies document request head)
ended-plain policies document request head is =
    let blocked = has_enforced (response_violations policies request document) in
    by (block_error blocked request.destination head.headers) (block-plain blocked request.destination head.headers)
  where
    by : (reason : Option NetError) → AreErrors reason → IsPlainEnded (ended_by reason request head)
    by None plain = unblocked-plain request head is
    by (Some reason) plain = plain
