-- The request behind its preflight: what the two come to, by the row of the request's origin in the table.
use Rattle.std.proofs.Common.{◌≡◌, ℕ, Bool, true, false, not, ◌||◌, List, [], map, Option, Some}
use Rattle.std.proofs.Common.{None, codes, refl, ap, sym, subst, ◌∙◌, if◌then◌else◌}
use Rattle.value_lists.specs.declared.extract.Rule.TheVariants.{Digits}
use Rattle.value_lists.specs.Extract.{extracted}
use Rattle.value_requests.specs.declared.error.NetError.{NetError}
use Rattle.value_requests.specs.declared.error.NetError.TheVariants as error
use Rattle.value_requests.specs.declared.hop.Head.{Head}
use Rattle.value_requests.specs.declared.request.Request.{Request}
use Rattle.value_requests.specs.declared.response.Outcome.{Outcome}
use Rattle.value_requests.specs.declared.response.Outcome.TheVariants.{Error}
use Rattle.value_requests.specs.Modes.{is_include}
use Rattle.policy_checks.specs.RequestOrigins.{serialized_request_origin}
use Rattle.book_calls.specs.declared.op.Op.{Op}
use Rattle.book_calls.specs.declared.op.Reply.{Reply as BookReply}
use Rattle.book_calls.specs.declared.op.Reply.TheVariants.{No}
use Rattle.book_calls.specs.Book.{empty, reply}
use Rattle.book_calls.specs.Entries.{Legal, book_after}
use Rattle.policy_preflight.specs.declared.answer.Checked.TheVariants.{Pass, Refused}
use Rattle.policy_preflight.specs.Preflight.{preflight_of}
use Rattle.policy_preflight.specs.Verdict.{age_of}
use Rattle.fetch_acts.specs.declared.act.Input.TheVariants.{HeadIs, Replied}
use Rattle.fetch_acts.specs.Process.{Process, ended}
use Rattle.fetch_rules.specs.Questions.{clear_of, covers_of, learn_of}
use Rattle.fetch_rules.specs.Switch.{needs_preflight}
use Rattle.fetch_definitions.specs.Fetch.{finished}
use Rattle.fetch_definitions.specs.HttpFetch.{http_fetch}
use Rattle.fetch_definitions.specs.PreflightFetch.{after_covers, after_preflight_head, after_preflight_sent, clearing}
use Rattle.fetch_definitions.specs.PreflightFetch.{names_of}
use Rattle.fetch_definitions.specs.PreflightFetch.{preflight_judged, with_preflight}
use Rattle.fetch_definitions.specs.Then.{Context, Onward, Then, then_ask}
use Rattle.link_http1.specs.declared.request_head.Asked.{Asked}
use Rattle.fetch_wire.specs.Exchanges.{Answering, Exchange}
use Rattle.play_definitions.specs.Worlds.{World}
use Rattle.server_tables.specs.declared.table.Row.{Row}
use Rattle.server_tables.specs.Tables.{lists, row_of}
use Rattle.server_tables.specs.Served.{Reply, allowed, by_found, is_preflight, refused, served}
use Rattle.server_access.specs.Access.{passes_method, refused_name}
use Rattle.server_access.proofs.AnswerLemmas.{AreEnds, IsServedSo, answered, asked_by, row-found}
use Rattle.server_access.proofs.CorsLemmas.{Allows, methods_for, verdict_on, verdict-fails, verdict-is}
use Rattle.server_access.proofs.HopLemmas.{preflight-method, preflight-origin, request_method}
use Rattle.server_access.proofs.LineLemmas.{names-tokens, preflight-hop_lines}
use Rattle.server_access.proofs.NameLemmas.{unsafe-lowered, unsafe-tokens}
use Rattle.server_access.proofs.PreflightLemmas.{covers-not, preflight-judged}
use Rattle.server_access.proofs.ReadLemmas.{header-read, read_value, values-read}
use Rattle.server_access.proofs.RealLemmas.{IsEnd, IsOnWay, IsReal, Lasts, otherwise, over, real}
use Rattle.server_access.proofs.ReplyLemmas.{allowed-allows, allowed-silent, head_by, refused-origin, refused-silent}
use Rattle.server_access.proofs.ReplyLemmas.{row-methods, row-names}
use Rattle.server_access.proofs.TraceLemmas.{Called, called, replied}
use Rattle.server_access.proofs.ValueLemmas.{there}

-- what the verdict on the answer to the preflight comes to: an error, or the request itself is sent
abbrev pub IsJudged : ℕ → Bool → Bool → Option (List ℕ) → Row → Request → Outcome → Type 0
IsJudged limit false allows name row request outcome = outcome ≡ Error error.PreflightCors
IsJudged limit true false name row request outcome = outcome ≡ Error error.PreflightMethod
IsJudged limit true true (Some name) row request outcome = outcome ≡ Error (error.PreflightHeader name)
IsJudged limit true true None row request outcome = IsReal limit (Some row) request outcome

-- what a request behind its preflight comes to, by the row of its origin
abbrev pub IsBehind : ℕ → Option Row → Request → Outcome → Type 0
IsBehind limit None request outcome = outcome ≡ Error error.PreflightCors
IsBehind limit (Some row) request outcome =
    IsJudged limit (not (is_include request.credentials) || row.credentials) (passes_method row request)
    (refused_name row request) row request outcome

module _ {State : Type 0} (table : List Row) (by : Answering State) (ends : AreEnds table) (limit document : ℕ)
    (outcome : Outcome) (last : World State) where
  -- what is left of the fetch
  abbrev Goes_on : Process → World State → Type 0
  Goes_on = Lasts table by ends limit document outcome last

  -- a call of the book whose reply says nothing
  told-book : (request : Request) (op : Op) (rest : Process) (world : World State)
      → Goes_on (then_ask request op rest) world → Called by limit document (IsServedSo table by) outcome last op
      (λ input. rest) world
  told-book request op rest world goes =
      called by limit document (IsServedSo table by) outcome last request op (λ input. rest) world goes

  -- the end of the fetch
  pub done : (context : Context) → IsEnd table by ends limit document outcome last context (finished context)
  done context = record {
    ok = λ request head. refl;
    err = λ request reason world goes. over table by ends limit document outcome last (Error reason) world goes;
  }

  -- the end of a fetch with a preflight: an error is followed by a clear
  pub cleared : (context : Context)
      → IsEnd table by ends limit document outcome last context (clearing context (finished context))
  cleared context = record {
    ok = λ request head. refl;
    err = λ request reason world goes.
        let was = told-book request (clear_of context.client request context.now) (ended (Error reason)) world goes in
        over table by ends limit document outcome last (Error reason) was.mid was.goes;
  }

  module _ (onward : Onward) (context : Context) (request : Request) (way : IsOnWay context request) where
    abbrev origin : List ℕ
    origin = serialized_request_origin request

    abbrev next : Then
    next = clearing context (finished context)

    -- the preflight is refused
    behind-refused : (reason : NetError) (head : Head) (mid : World State)
        → after_preflight_head onward context next request (HeadIs head)
        ≡ preflight_judged onward context next request (Refused reason)
        → Goes_on (after_preflight_head onward context next request (HeadIs head)) mid → outcome ≡ Error reason
    behind-refused reason head mid same goes =
        (cleared context).err request reason mid
        (otherwise table by ends limit document outcome last _ _ mid same goes)

    -- by the verdict
    behind-judged : (row : Row) (granted allows : Bool) (name : Option (List ℕ)) (age : ℕ)
        (methods names : List (List ℕ)) (mid : World State) (state : State) → row_of table origin ≡ Some row
        → mid.exchange.state ≡ Some state
        → Goes_on (preflight_judged onward context next request
        (verdict_on granted allows name (Pass age methods names))) mid
        → IsJudged limit granted allows name row request outcome
    behind-judged row false allows name age methods names mid state same told goes =
        (cleared context).err request error.PreflightCors mid goes
    behind-judged row true false name age methods names mid state same told goes =
        (cleared context).err request error.PreflightMethod mid goes
    behind-judged row true true (Some name) age methods names mid state same told goes =
        (cleared context).err request (error.PreflightHeader name) mid goes
    behind-judged row true true None age methods names mid state same told goes =
        let was = told-book request (learn_of context.client request age methods names context.now)
        (http_fetch onward context next request) mid goes in
        subst (λ (found : Option Row). IsReal limit found request outcome) same
        (real table by ends limit document outcome last onward context next (cleared context) request way was.mid
        state (ap (λ (e : Exchange State). e.state) was.exchange_is ∙ told) was.goes)

    -- what the server hears
    abbrev heard : Asked
    heard = asked_by (preflight_of request (names_of request))

    is-preflight : is_preflight heard ≡ true
    is-preflight =
        there request_method (read_value request.method) [] heard.headers
        (values-read request_method (preflight_of request (names_of request)).headers
        ∙ ap (map read_value) (preflight-method request (names_of request)))

    -- by the row
    behind-found : (found : Option Row) (reply : Reply) (mid : World State) (state : State)
        → row_of table origin ≡ found → reply ≡ by_found found heard → mid.exchange.state ≡ Some state
        → Goes_on (after_preflight_head onward context next request (HeadIs (head_by reply))) mid
        → IsBehind limit found request outcome
    behind-found None reply mid state same is told goes =
        behind-refused error.PreflightCors (head_by refused) mid
        (preflight-judged onward context next request (head_by refused) (Refused error.PreflightCors) refused-silent
        (verdict-fails request origin (names_of request) (head_by refused) refused-origin))
        (subst (λ (r : Reply). Goes_on (after_preflight_head onward context next request (HeadIs (head_by r))) mid) is
        goes)
    behind-found (Some row) reply mid state same is told goes =
        let of = row-found table origin row ends.rows same in
        let origin_read : read_value row.origin ≡ row.origin =
        subst (λ (text : List ℕ). read_value text ≡ text) (sym of.origin_is) (header-read origin way.valued) in
        let so : reply ≡ allowed row =
        is ∙ ap (λ (b : Bool). if b then allowed row
        else if lists row.methods heard.method then served row heard.method else refused) is-preflight in
        let head = head_by (allowed row) in
        let says : Allows origin row.credentials row.methods row.names head =
        subst (λ (text : List ℕ). Allows text row.credentials row.methods row.names head) of.origin_is
        (allowed-allows row of.is origin_read) in
        let age = age_of (extracted Digits (codes "Access-Control-Max-Age") head.headers) in
        let judged = verdict-is request origin (names_of request) head row.credentials row.methods row.names says
        (row-methods row of.is) (row-names row of.is) of.is.lowered (unsafe-lowered request.headers) in
        behind-judged row (not (is_include request.credentials) || row.credentials) (passes_method row request)
        (refused_name row request) age (methods_for request row.methods) row.names mid state same told
        (otherwise table by ends limit document outcome last _ _ mid
        (preflight-judged onward context next request head _ (allowed-silent row of.is origin_read) judged)
        (subst (λ (r : Reply). Goes_on (after_preflight_head onward context next request (HeadIs (head_by r))) mid) so
        goes))

    -- the preflight is sent, since the book does not cover the request
    pub behind : (world : World State) (state : State) → world.exchange.state ≡ Some state
        → book_after empty world.own ≡ empty → Legal empty last.own → needs_preflight request ≡ true
        → Goes_on (with_preflight onward context (finished context) request) world
        → IsBehind limit (row_of table origin) request outcome
    behind world state told fresh legal needs goes =
        let op = covers_of context.client request context.now in
        let was = called by limit document (IsServedSo table by) outcome last request op
        (after_covers onward context next request) world goes in
        let says : was.entry.reply ≡ No =
        replied by limit document (IsServedSo table by) outcome last op (after_covers onward context next request) world
        was
        legal ∙ ap (λ book. reply book op) fresh ∙ covers-not context.client request context.now needs in
        let asks =
        subst (λ (r : BookReply). Goes_on (after_covers onward context next request (Replied r)) was.mid) says was.goes
        in
        let got = answered table by ends limit document outcome last request
        (preflight_of request (names_of request)) origin (after_preflight_sent onward context next request)
        (after_preflight_head onward context next request) was.mid state
        (ap (λ (e : Exchange State). e.state) was.exchange_is ∙ told) refl refl
        (preflight-hop_lines request (names_of request) way.method
        (unsafe-tokens request.headers (names-tokens request.headers way.own)) way.lines)
        (preflight-origin request (names_of request)) way.valued asks in
        behind-found (row_of table origin) got.reply got.mid got.state refl got.reply_is got.told got.goes
