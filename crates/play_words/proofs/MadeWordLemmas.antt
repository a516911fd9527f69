-- The request that a document makes is of words where its URL is http or https.
use Rattle.std.proofs.Common.{◌≡◌, ◌∷◌, [], ℕ, not, cond, List, length}
use Rattle.std.proofs.Common.{refl, subst, codes, Option, Some, None, Result, Ok, Err}
use Rattle.std.specs.Prelude.{IfOk, IfSome, IsTrue, nat_lt}
use Rattle.std.proofs.lemmas.Bool.{cond_both, not-false}
use Rattle.url.specs.Parts.{Parts}
use Rattle.value_headers.specs.declared.headers.Header.{Header}
use Rattle.value_headers.specs.Headers.{appended, contains, is_named, spelling}
use Rattle.value_lemmas.proofs.Lists.{AllByRecursion-append}
use Rattle.value_origins.specs.Origins.{serialized}
use Rattle.value_requests.specs.declared.client.Client.{Client}
use Rattle.value_requests.specs.declared.fault.TypeFault.{TypeFault}
use Rattle.value_requests.specs.declared.fault.TypeFault.TheVariants.{LongUrl}
use Rattle.value_requests.specs.declared.init.Init.{Init}
use Rattle.value_requests.specs.declared.init.LoadInit.{LoadInit}
use Rattle.value_requests.specs.declared.init.Pair.{Pair}
use Rattle.value_requests.specs.declared.request.Request.{Request}
use Rattle.value_requests.specs.Requests.{current_url, is_http_url}
use Rattle.value_requests.specs.Urls.{unless_long, url_against, utf8_text}
use Rattle.value_text.specs.Tokens.{is_token}
use Rattle.value_text.specs.Values.{is_header_value}
use Rattle.policy_safelist.specs.declared.guard.Appended.{Appended}
use Rattle.policy_safelist.specs.declared.guard.Appended.TheVariants.{BadName, BadValue, Ignored, Kept}
use Rattle.policy_safelist.specs.declared.guard.Guard.{Guard}
use Rattle.policy_safelist.specs.Guards.{allows, list_after, outcome}
use Rattle.fetch_requests.specs.Loading.{load_for, made_load}
use Rattle.fetch_requests.specs.Making.{accept_value, fault_or, faults, filled, first_fault, guard_of, header_list, made}
use Rattle.fetch_requests.specs.Making.{most_url_text, or_bad_url, request_for, unless_there, url_given}
use Rattle.fetch_requests.specs.Making.{with_body_type}
use Rattle.fetch_requests.proofs.RequestLemmas.{made-valid}
use Rattle.script_scenarios.specs.declared.document.Document.{Document}
use Rattle.script_runs.specs.Runs.{document_client}
use Rattle.script_runs.proofs.ScriptLemmas.{IsMade}
use Rattle.play_words.specs.Given.{HasGiven, IsGiven}
use Rattle.play_words.proofs.AnswerWordLemmas.{IsWordWhere, text-where, unless-where}
use Rattle.play_words.proofs.NameWordLemmas.{AreNamed}
use Rattle.play_words.proofs.RequestWordLemmas.{IsWordRequest}
use Rattle.play_words.proofs.TextWordLemmas.{IsWord, origin-word}
use Rattle.play_words.proofs.UrlWordLemmas.{IsWordUrl, parse-words}

-- ---- the client

-- A client of an http or https URL of words, whose key and whose origin's text are words.
pub record IsWordClient (client : Client) : Type 0 where
  pub key : IsWord client.key
  pub url : IsWordUrl client.url
  pub http : IsTrue (is_http_url client.url)
  pub origin : IsWord (serialized client.origin)

given-word : (url : Parts) → IsGiven url → IsWordUrl url
given-word url is = parse-words None is.text url tt is.read is.http

pub client-word : (document : Document) → HasGiven document → IsWordClient (document_client document)
client-word document has =
    let url = given-word document.url has.url in
    record {
      key = origin-word document.top (given-word document.top has.top) has.top.http;
      url = url;
      http = has.url.http;
      origin = origin-word document.url url has.url.http;
    }

-- ---- its headers

spelling-token : (name : List ℕ) (headers : List Header) → IsTrue (is_token name) → AreNamed headers
    → IsTrue (is_token (spelling name headers))
spelling-token name [] is all = is
spelling-token name (one ∷ more) is all =
    cond_both (is_named name one) one.name (spelling name more) (λ text. IsTrue (is_token text)) (λ _. all.0)
    (λ _. spelling-token name more is all.1)

appended-named : (name value : List ℕ) (headers : List Header) → IsTrue (is_token name) → AreNamed headers
    → AreNamed (appended name value headers)
appended-named name value headers is all =
    AllByRecursion-append (λ (one : Header). IsTrue (is_token one.name)) headers
    (record { name = spelling name headers; value = value } ∷ []) all (spelling-token name headers is all, tt)

there-named : (name value : List ℕ) (headers : List Header) → IsTrue (is_token name) → AreNamed headers
    → AreNamed (unless_there name value headers)
there-named name value headers is all =
    cond_both (contains name headers) headers (appended name value headers) AreNamed (λ _. all)
    (λ _. appended-named name value headers is all)

after-named : (guard : Guard) (name value : List ℕ) (headers : List Header) → AreNamed headers
    → AreNamed (list_after (outcome guard name value headers) name value headers)
after-named guard name value headers all =
    let After = λ (how : Appended). AreNamed (list_after how name value headers) in
    let last = cond (allows guard name value headers) Kept Ignored in
    let second = cond (not (is_header_value value)) BadValue last in
    cond_both (not (is_token name)) BadName second After (λ _. all)
    (λ named. cond_both (not (is_header_value value)) BadValue last After (λ _. all)
    (λ _. cond_both (allows guard name value headers) Kept Ignored After
    (λ _. appended-named name value headers (not-false (is_token name) named) all) (λ _. all)))

filled-named : (guard : Guard) (pairs : List Pair) (headers : List Header) → AreNamed headers
    → AreNamed (filled guard pairs headers)
filled-named guard [] headers all = all
filled-named guard (pair ∷ pairs) headers all =
    filled-named guard pairs (list_after (outcome guard pair.name pair.value headers) pair.name pair.value headers)
    (after-named guard pair.name pair.value headers all)

type-named : (body : Option (List ℕ)) (headers : List Header) → AreNamed headers
    → AreNamed (with_body_type body headers)
type-named None headers all = all
type-named (Some body) headers all =
    there-named (codes "Content-Type") (codes "text/plain;charset=UTF-8") headers refl all

list-named : (init : Init) → AreNamed (header_list init)
list-named init =
    let given = filled (guard_of init.mode) init.headers [] in
    there-named (codes "Accept") _ (with_body_type init.body given) refl
    (type-named init.body given (filled-named (guard_of init.mode) init.headers [] tt))

-- ---- the request

-- of words where its current URL is http or https
abbrev pub IsWordAt : Request → Type 0
IsWordAt request = IsTrue (is_http_url (current_url request)) → IsWordRequest request

or-bad : (url : Option Parts) → IfSome url IsWordWhere → IfOk (or_bad_url url) IsWordWhere
or-bad None is = tt
or-bad (Some url) is = is

given-where : (client : Client) (text : List ℕ) → IsWordClient client → IfOk (url_given client text) IsWordWhere
given-where client text is =
    let url : Option Parts = unless_long (url_against client.url text) in
    cond_both (nat_lt most_url_text (length text)) (Err LongUrl) (or_bad_url url)
    (λ given. IfOk given IsWordWhere) (λ _. tt)
    (λ _. or-bad url
    (unless-where (url_against client.url text) (text-where (Some client.url) (utf8_text text) (is.url, is.http))))

module _ (client : Client) (is : IsWordClient client) where
  fetch-made : (init : Init) (url : Result Parts TypeFault) (request : Request) → IfOk url IsWordWhere
      → request_for client init url ≡ Ok request → IsWordAt request
  fetch-made init (Err fault) request given read = absurd (cc)
  fetch-made init (Ok url) request given read =
      by (first_fault (faults init url)) refl read
    where
      by : (fault : Option TypeFault) → first_fault (faults init url) ≡ fault
          → fault_or fault (made client init url) ≡ Ok request → IsWordAt request
      by (Some fault) same read = absurd (cc)
      by None same read =
          let whole : made client init url ≡ request = cc in
          subst IsWordAt whole (λ http. record {
            method = (made-valid client init url (made client init url) same refl).method;
            headers = list-named init;
            current = given http;
            http = http;
            first = given http;
            origin = is.origin;
          })

  load-made : (init : LoadInit) (url : Result Parts TypeFault) (request : Request) → IfOk url IsWordWhere
      → load_for client init url ≡ Ok request → IsWordAt request
  load-made init (Err fault) request given read = absurd (cc)
  load-made init (Ok url) request given read =
      let whole : made_load client init url ≡ request = cc in
      subst IsWordAt whole (λ http. record {
        method = refl;
        headers = there-named (codes "Accept") (accept_value init.kind) [] refl tt;
        current = given http;
        http = http;
        first = given http;
        origin = is.origin;
      })

  pub made-word : (request : Request) → IsMade client request → IsWordAt request
  made-word request (IsMade.by_fetch init read) =
      fetch-made init (url_given client init.url) request (given-where client init.url is) read
  made-word request (IsMade.by_load init read) =
      load-made init (url_given client init.url) request (given-where client init.url is) read
