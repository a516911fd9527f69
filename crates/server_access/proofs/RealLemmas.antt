-- The request itself: what it comes to, by the row of its origin in the table.
use Rattle.std.proofs.Common.{◌≡◌, ℕ, Bool, true, false, not, ◌&&◌, ◌||◌, List, [], map}
use Rattle.std.proofs.Common.{Option, Some, None, Ok, Err, codes, bytes_eq, refl, ap, sym, subst, ◌∙◌, if◌then◌else◌}
use mathlib.Core.Bool.{and-false}
use Rattle.std.specs.List.{AllByRecursion}
use Rattle.value_text.specs.Tokens.{is_token}
use Rattle.value_text.specs.Values.{is_header_value}
use Rattle.value_headers.specs.Headers.{values_of}
use Rattle.value_requests.specs.declared.error.NetError.{NetError}
use Rattle.value_requests.specs.declared.error.NetError.TheVariants as error
use Rattle.value_requests.specs.declared.hop.Head.{Head}
use Rattle.value_requests.specs.declared.mode.Tainting.TheVariants as tainting
use Rattle.value_requests.specs.declared.policy.Destination.TheVariants as destination
use Rattle.value_requests.specs.declared.request.Request.{Request}
use Rattle.value_requests.specs.declared.response.BodyEnd.{BodyEnd}
use Rattle.value_requests.specs.declared.response.BodyEnd.TheVariants.{Null}
use Rattle.value_requests.specs.declared.response.Outcome.{Outcome}
use Rattle.value_requests.specs.declared.response.Outcome.TheVariants.{Answer, Error}
use Rattle.value_requests.specs.Modes.{is_include}
use Rattle.policy_checks.specs.CorsCheck.{passes_check, passes_cors_check}
use Rattle.policy_checks.specs.RequestOrigins.{serialized_request_origin}
use Rattle.fetch_acts.specs.declared.act.Input.TheVariants.{BodyIs, HeadIs}
use Rattle.fetch_acts.specs.Process.{Process, ended}
use Rattle.fetch_requests.specs.Heads.{hop_of}
use Rattle.fetch_definitions.specs.Fetch.{after_body, finished}
use Rattle.fetch_definitions.specs.HttpFetch.{after_head, after_sent, http_fetch}
use Rattle.fetch_definitions.specs.Then.{Context, Onward, Then}
use Rattle.link_http1.specs.Bodies.{body_end}
use Rattle.link_http1.specs.Framings.{framing_of}
use Rattle.link_http1.specs.declared.request_head.Asked.{Asked}
use Rattle.link_http1.specs.declared.framing.Framing.{Framing}
use Rattle.link_http1.specs.declared.framing.Framing.TheVariants as framing
use Rattle.fetch_wire.specs.Exchanges.{Answering}
use Rattle.play_definitions.specs.Worlds.{World}
use Rattle.server_tables.specs.declared.table.Row.{Row}
use Rattle.server_tables.specs.Tables.{lists, row_of}
use Rattle.server_tables.specs.Served.{Reply, allowed, body_for, by_found, is_preflight, refused, served}
use Rattle.server_access.specs.Access.{IsReadOr, IsReadable}
use Rattle.server_access.proofs.AnswerLemmas.{AreEnds, IsRowOf, IsServedSo, Left, answered, asked_by, row-found}
use Rattle.server_access.proofs.CorsLemmas.{check-fails, check-grants}
use Rattle.server_access.proofs.HopLemmas.{hop-method, hop-origin, request_method}
use Rattle.server_access.proofs.HttpLemmas.{IsAtEnd, body-is, finished-is, http-fails, http-passes, response}
use Rattle.server_access.proofs.LineLemmas.{HasLines, IsCookie, hop-lines}
use Rattle.server_access.proofs.ReadLemmas.{header-read, read_value, values-read}
use Rattle.server_access.proofs.ReplyLemmas.{head_by, ok_end, refused-origin, refused-silent, served-framing}
use Rattle.server_access.proofs.ReplyLemmas.{served-grants, served-silent, served-uncoded}
use Rattle.server_access.proofs.TraceLemmas.{bodied, goes-as, goes-ended}
use Rattle.server_access.proofs.ValueLemmas.{AreLines, not-there}

-- What counts of a request on its way.
pub record IsOnWay (context : Context) (request : Request) : Type 0 where
  pub policies_are : context.policies ≡ []
  pub tainted : request.tainting ≡ tainting.Cors
  pub destined : request.destination ≡ destination.Fetch
  pub trusting : request.integrity ≡ []
  pub no_origin : values_of (codes "Origin") request.headers ≡ []
  pub no_method : values_of request_method request.headers ≡ []
  pub method : is_token request.method ≡ true
  pub own : AreLines request.headers
  pub lines : HasLines request
  pub cookies : AllByRecursion IsCookie context.cookies
  pub valued : is_header_value (serialized_request_origin request) ≡ true

-- what the request itself comes to, by the row of its origin
abbrev pub IsReal : ℕ → Option Row → Request → Outcome → Type 0
IsReal limit None request outcome = outcome ≡ Error error.CorsCheck
IsReal limit (Some row) request outcome =
    IsReadOr limit (lists row.methods request.method && (not (is_include request.credentials) || row.credentials))
    error.CorsCheck request outcome

module _ {State : Type 0} (table : List Row) (by : Answering State) (ends : AreEnds table) (limit document : ℕ)
    (outcome : Outcome) (last : World State) where
  -- what is left of the fetch
  abbrev pub Lasts : Process → World State → Type 0
  Lasts = Left table by ends limit document outcome last

  pub over : (came : Outcome) (world : World State) → Lasts (ended came) world → outcome ≡ came
  over came world goes = sym (goes-ended by limit document (IsServedSo table by) outcome last came world goes)

  pub otherwise : (p q : Process) (world : World State) → p ≡ q → Lasts p world → Lasts q world
  otherwise p q world same goes = goes-as by limit document (IsServedSo table by) outcome last p q world same goes

  -- What follows a level of the fetch: a head ends it, and an error is its outcome.
  pub record IsEnd (context : Context) (next : Then) : Type 0 where
    pub ok : (request : Request) (head : Head) → next request (Ok head) ≡ finished context request (Ok head)
    pub err : (request : Request) (reason : NetError) (world : World State) → Lasts (next request (Err reason)) world
        → outcome ≡ Error reason

  module _ (onward : Onward) (context : Context) (next : Then) (follows : IsEnd context next) (request : Request)
      (way : IsOnWay context request) where
    abbrev origin : List ℕ
    origin = serialized_request_origin request

    -- the server refuses
    real-refused : (mid : World State) → Lasts (after_head onward context next request (HeadIs (head_by refused))) mid
        → outcome ≡ Error error.CorsCheck
    real-refused mid goes =
        follows.err request error.CorsCheck mid
        (otherwise _ _ mid (http-fails onward context next request (head_by refused) way.tainted refused-silent
        (check-fails origin (is_include request.credentials) (head_by refused).headers refused-origin)) goes)

    module _ (row : Row) (of : IsRowOf origin row) where
      origin_read : read_value row.origin ≡ row.origin
      origin_read =
          subst (λ (text : List ℕ). read_value text ≡ text) (sym of.origin_is) (header-read origin way.valued)

      abbrev head : Head
      head = head_by (served row request.method)

      at-end : IsAtEnd context request head
      at-end = record {
        policies_are = way.policies_are;
        tainted = way.tainted;
        destined = way.destined;
        trusting = way.trusting;
        status_is = refl;
        uncoded = served-uncoded row of.is origin_read request.method;
      }

      check-is : passes_check request head.headers ≡ (not (is_include request.credentials) || row.credentials)
      check-is =
          subst (λ (text : List ℕ). passes_cors_check text (is_include request.credentials) head.headers
          ≡ (not (is_include request.credentials) || row.credentials)) of.origin_is
          (check-grants row.origin (is_include request.credentials) row.credentials head.headers
          (served-grants row of.is origin_read request.method))

      -- the response is handed over without a body, or its body is read
      real-read : (bodiless : Bool) (mid : World State) → bytes_eq request.method (codes "HEAD") ≡ bodiless
          → mid.exchange.coming ≡ Some (body_for request.method) → mid.exchange.framing ≡ framing_of head
          → Lasts (finished context request (Ok head)) mid → IsReadable limit request outcome
      real-read true mid so coming framed goes =
          let is : outcome ≡ Answer (response context request head at-end) =
          over _ mid (otherwise _ _ mid (finished-is context request head at-end true so) goes) in
          subst (IsReadable limit request) (sym is)
          (refl, refl, sym (ap (λ (b : Bool). if b then Null else ok_end limit) so))
      real-read false mid so coming framed goes =
          let body : body_for request.method ≡ codes "ok" = ap (λ (b : Bool). if b then [] else codes "ok") so in
          let read = bodied by limit document (IsServedSo table by) outcome last request (body_for request.method)
          (after_body request (response context request head at-end)) mid coming
          (otherwise _ _ mid (finished-is context request head at-end false so) goes) in
          let came : body_end mid.exchange.framing limit (body_for request.method) ≡ ok_end limit =
          ap (λ (f : Framing). body_end f limit (body_for request.method))
          (framed ∙ served-framing row of.is origin_read request.method)
          ∙ ap (body_end (framing.Length 2) limit) body in
          let is : outcome ≡ Answer (record (response context request head at-end) { body = ok_end limit }) =
          over _ read.0
          (otherwise _ _ read.0
          (ap (λ (e : BodyEnd). after_body request (response context request head at-end) (BodyIs e)) came
          ∙ body-is context request head at-end (ok_end limit)) read.1) in
          subst (IsReadable limit request) (sym is)
          (refl, refl, sym (ap (λ (b : Bool). if b then Null else ok_end limit) so))

      -- the server serves, and the page may read it where the credentials are granted
      real-served : (granted : Bool) (mid : World State)
          → (not (is_include request.credentials) || row.credentials) ≡ granted
          → mid.exchange.coming ≡ Some (body_for request.method) → mid.exchange.framing ≡ framing_of head
          → Lasts (after_head onward context next request (HeadIs head)) mid
          → IsReadOr limit granted error.CorsCheck request outcome
      real-served false mid grants coming framed goes =
          follows.err request error.CorsCheck mid
          (otherwise _ _ mid (http-fails onward context next request head way.tainted
          (served-silent row of.is origin_read request.method) (check-is ∙ grants)) goes)
      real-served true mid grants coming framed goes =
          real-read (bytes_eq request.method (codes "HEAD")) mid refl coming framed
          (otherwise _ _ mid (http-passes onward context next request head way.tainted
          (served-silent row of.is origin_read request.method) (check-is ∙ grants) refl ∙ follows.ok request head) goes)

      -- the server serves, or refuses
      real-by : (listed : Bool) (mid : World State)
          → mid.exchange.coming ≡ Some (if listed then served row request.method else refused).body
          → mid.exchange.framing ≡ framing_of (head_by (if listed then served row request.method else refused))
          → Lasts (after_head onward context next request
          (HeadIs (head_by (if listed then served row request.method else refused)))) mid
          → IsReadOr limit (listed && (not (is_include request.credentials) || row.credentials)) error.CorsCheck request
          outcome
      real-by false mid coming framed goes = real-refused mid goes
      real-by true mid coming framed goes =
          real-served (not (is_include request.credentials) || row.credentials) mid refl coming framed goes

    -- what the server hears
    abbrev heard : Asked
    heard = asked_by (hop_of context.cookies request)

    no-preflight : is_preflight heard ≡ false
    no-preflight =
        ap (λ (b : Bool). bytes_eq request.method (codes "OPTIONS") && b)
        (not-there request_method heard.headers
        (values-read request_method (hop_of context.cookies request).headers
        ∙ ap (map read_value) (hop-method context.cookies request way.no_method)))
        ∙ and-false (bytes_eq request.method (codes "OPTIONS"))

    -- by the row
    real-found : (found : Option Row) (reply : Reply) (mid : World State) → row_of table origin ≡ found
        → reply ≡ by_found found heard → mid.exchange.coming ≡ Some reply.body
        → mid.exchange.framing ≡ framing_of (head_by reply)
        → Lasts (after_head onward context next request (HeadIs (head_by reply))) mid
        → IsReal limit found request outcome
    real-found None reply mid same is coming framed goes =
        real-refused mid
        (subst (λ (r : Reply). Lasts (after_head onward context next request (HeadIs (head_by r))) mid) is goes)
    real-found (Some row) reply mid same is coming framed goes =
        let listed = lists row.methods request.method in
        let so : reply ≡ (if listed then served row request.method else refused) =
        is ∙ ap (λ (b : Bool). if b then allowed row else if listed then served row request.method else refused)
        no-preflight in
        real-by row (row-found table origin row ends.rows same) listed mid
        (coming ∙ ap (λ (r : Reply). Some r.body) so) (framed ∙ ap (λ (r : Reply). framing_of (head_by r)) so)
        (subst (λ (r : Reply). Lasts (after_head onward context next request (HeadIs (head_by r))) mid) so goes)

    -- the request itself is sent
    pub real : (world : World State) (state : State) → world.exchange.state ≡ Some state
        → Lasts (http_fetch onward context next request) world → IsReal limit (row_of table origin) request outcome
    real world state told goes =
        let was = answered table by ends limit document outcome last request (hop_of context.cookies request) origin
        (after_sent onward context next request) (after_head onward context next request) world state told refl
        way.method (hop-lines context.cookies request way.tainted way.cookies way.lines way.own)
        (hop-origin context.cookies request way.tainted way.no_origin) way.valued goes in
        real-found (row_of table origin) was.reply was.mid refl was.reply_is was.coming_is was.framing_is was.goes
