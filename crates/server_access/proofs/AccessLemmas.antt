-- The whole fetch of a page over a server with an allow table.
use Rattle.std.proofs.Common.{◌≡◌, ℕ, Bool, true, false, List, [], ◌∷◌, Option, Some, None, refl, ap}
use Rattle.std.proofs.Common.{subst, ◌∙◌, if◌then◌else◌, option_map}
use Rattle.std.proofs.Common.{sym}
use Rattle.std.proofs.lemmas.Option.{same_Some}
use Rattle.std.specs.List.{list_all}
use Rattle.std.specs.Prelude.{IfSome}
use Rattle.value_origins.specs.Origins.{is_origin_of, serialized}
use Rattle.value_requests.specs.declared.init.Init.{Init}
use Rattle.value_requests.specs.declared.mode.Tainting.TheVariants as tainting
use Rattle.value_requests.specs.declared.request.Request.{Request}
use Rattle.value_requests.specs.declared.error.NetError.{NetError}
use Rattle.value_requests.specs.declared.error.NetError.TheVariants as error
use Rattle.value_requests.specs.declared.response.Outcome.{Outcome}
use Rattle.value_requests.specs.declared.response.Outcome.TheVariants.{Answer, Error, Loaded}
use Rattle.value_requests.specs.Requests.{current_url}
use Rattle.policy_checks.specs.RequestOrigins.{serialized_request_origin}
use Rattle.book_calls.specs.declared.op.Op.TheVariants.{Match}
use Rattle.book_calls.specs.declared.op.Reply.{Reply as BookReply}
use Rattle.book_calls.specs.declared.op.Reply.TheVariants.{No}
use Rattle.book_calls.specs.Book.{after as after_op, empty, reply}
use Rattle.book_calls.specs.Entries.{Legal, book_after}
use Rattle.book_calls.proofs.EntryLemmas.{book_after-append}
use Rattle.fetch_acts.specs.declared.act.Input.TheVariants.{Replied}
use Rattle.fetch_acts.specs.Process.{Process}
use Rattle.fetch_rules.specs.KnownHosts.{host_to_match}
use Rattle.fetch_rules.specs.Referrers.{determined, with_referrer}
use Rattle.value_requests.specs.declared.request.Referrer.{Referrer}
use Rattle.policy_checks.specs.OriginHeader.{referrer_value}
use Rattle.value_requests.specs.Targets.{host_value}
use Rattle.fetch_rules.specs.Switch.{needs_preflight, with_tainting}
use Rattle.fetch_definitions.specs.Fetch.{fetch, finished, onward_of}
use Rattle.fetch_definitions.specs.HttpFetch.{http_fetch}
use Rattle.fetch_definitions.specs.MainFetch.{after_match, matched_by, switched}
use Rattle.fetch_definitions.specs.PreflightFetch.{with_preflight}
use Rattle.fetch_definitions.specs.Then.{Context, Onward, Then}
use Rattle.link_http1.specs.RequestHeads.{HasOneReading}
use Rattle.fetch_wire.specs.Exchanges.{Answering, Exchange}
use Rattle.play_definitions.specs.Worlds.{World}
use Rattle.server_tables.specs.declared.table.Row.{Row}
use Rattle.server_tables.specs.Tables.{row_of}
use Rattle.server_heard.specs.Heard.{RepliesAreHeard, RepliesHaveHeads, RequestsAreHeard}
use Rattle.server_access.specs.Access.{IsAccess, IsByTable, IsCorsFetch}
use Rattle.server_access.specs.Access.{IsReadOr, IsRow, error_by, is_allowed, row_error}
use Rattle.server_access.proofs.AnswerLemmas.{AreEnds, IsServedSo, all-served}
use Rattle.server_access.proofs.BehindLemmas.{behind, done}
use Rattle.server_access.proofs.LineLemmas.{IsCookie, IsLineWhere}
use Rattle.server_access.proofs.ListLemmas.{all-each}
use Rattle.server_access.proofs.ReferrerLemmas.{referrer-visible}
use Rattle.server_access.proofs.VisibleLemmas.{AreVisible, HasVisibleParts, is_visible, visible-host_value}
use Rattle.server_access.proofs.VisibleLemmas.{visible-origin}
use Rattle.server_access.proofs.VisibleLemmas.{visible-parts, visible-text, visible-value}
use Rattle.server_access.proofs.MadeLemmas.{IsAway, IsMade, made-away, made-is}
use Rattle.server_access.proofs.MainLemmas.{main-is, switched-is}
use Rattle.server_access.proofs.RealLemmas.{IsOnWay, Lasts, otherwise, real}
use Rattle.server_access.proofs.TableLemmas.{IsByRow, by-behind, by-real}
use Rattle.server_access.proofs.TraceLemmas.{AllSent, called, replied}

module _ {State : Type 0} (table : List Row) (by : Answering State) (ends : AreEnds table) (limit document : ℕ)
    (outcome : Outcome) (last : World State) (legal : Legal empty last.own) where
  -- what is left of the fetch
  abbrev Is_left : Process → World State → Type 0
  Is_left = Lasts table by ends limit document outcome last

  -- The fetch is at its switch, and the book is as it was.
  record IsAtSwitch (process : Process) (state : State) : Type 0 where
    mid : World State
    told : mid.exchange.state ≡ Some state
    fresh : book_after empty mid.own ≡ empty
    goes : Is_left process mid

  -- the empty book knows no host
  at-switch : (onward : Onward) (context : Context) (next : Then) (request : Request) (host : Option (List ℕ))
      (world : World State) (state : State) → world.exchange.state ≡ Some state → book_after empty world.own ≡ empty
      → Is_left (matched_by onward context next request (option_map (λ name. Match name context.now) host)) world
      → IsAtSwitch (switched onward context next request) state
  at-switch onward context next request None world state told fresh goes =
      record { mid = world; told = told; fresh = fresh; goes = goes }
  at-switch onward context next request (Some name) world state told fresh goes =
      let op = Match name context.now in
      let after = after_match onward context next request in
      let was = called by limit document (IsServedSo table by) outcome last request op after world goes in
      let says : was.entry.reply ≡ No =
      replied by limit document (IsServedSo table by) outcome last op after world was legal
      ∙ ap (λ book. reply book op) fresh in
      record {
        mid = was.mid;
        told = ap (λ (e : Exchange State). e.state) was.exchange_is ∙ told;
        fresh = ap (book_after empty) was.own_is ∙ book_after-append empty world.own (was.entry ∷ [])
            ∙ ap (λ book. after_op book was.entry.op) fresh ∙ ap (after_op empty) was.op_is;
        goes = subst (λ (r : BookReply). Is_left (after (Replied r)) was.mid) says was.goes;
      }

  module _ (context : Context) (init : Init) (request : Request) (is : IsCorsFetch context init request) where
    abbrev away : IsAway context.client request
    away = made-away context.client init request is.request_is is.mode_is is.integrity_is

    -- the request, once its referrer and its tainting are determined
    abbrev tainted : Request
    tainted = with_tainting tainting.Cors (with_referrer context.client request)

    abbrev made_so : IsMade context.client init request
    made_so = made-is context.client init request is.request_is

    -- the texts of the document's URL, and of the request's
    document-parts : HasVisibleParts context.client.url
    document-parts = visible-parts context.client.url is.document.url is.document.client.url

    url-parts : HasVisibleParts (current_url request)
    url-parts = visible-parts (current_url request) is.url is.at_http

    -- its origin is that of the document's URL
    origin-visible : AreVisible (serialized_request_origin request)
    origin-visible =
        ap (λ (r : Request). list_all is_visible (serialized_request_origin r)) made_so.is
        ∙ ap (λ o. list_all is_visible (serialized o)) is.document.origin_is
        ∙ visible-origin context.client.url is.document.url is.document.client.url

    -- a text that is told, where there is one
    told-line : (told : Option (List ℕ)) → IfSome told AreVisible → IsLineWhere told
    told-line None visible = tt
    told-line (Some text) visible = visible-text text visible

    referrer-line : IsLineWhere (referrer_value tainted.referrer)
    referrer-line =
        told-line (referrer_value tainted.referrer)
        (subst (λ (from : Referrer). IfSome (referrer_value (determined context.client tainted.policy
        (current_url request) from)) AreVisible) (sym (ap (λ (r : Request). r.referrer) made_so.is))
        (referrer-visible context.client tainted.policy (current_url request) init.client_referrer document-parts))

    on-way : IsOnWay context tainted
    on-way = record {
      policies_are = is.document.policies_are;
      tainted = refl;
      destined = away.destined;
      trusting = away.trusting;
      no_origin = away.no_origin;
      no_method = away.no_method;
      method = away.method;
      own = away.lines;
      lines = record {
        host = visible-text (host_value (current_url request)) (visible-host_value (current_url request) url-parts);
        referrer = referrer-line;
        origin = visible-text (serialized_request_origin request) origin-visible;
      };
      cookies = all-each IsCookie context.cookies is.document.cookies;
      valued = visible-value (serialized_request_origin request) origin-visible;
    }

    -- neither changes what the table tells
    same-answer : (allowed : Bool) (reason : NetError) (came : Outcome) → IsReadOr limit allowed reason tainted came
        → IsReadOr limit allowed reason request came
    same-answer true reason (Answer response) so = so
    same-answer true reason Loaded so = so
    same-answer true reason (Error other) so = so
    same-answer false reason came so = so

    same-error : (found : Option Row) → row_error found tainted ≡ row_error found request
    same-error None = refl
    same-error (Some row) = refl

    as-told : IsByRow limit (row_of table (serialized_request_origin request)) tainted outcome
        → IsByTable limit table request outcome
    as-told so =
        let found = row_of table (serialized_request_origin request) in
        same-answer (is_allowed table request) (error_by table request) outcome
        (subst (λ (e : NetError). IsReadOr limit (is_allowed table request)
        (if needs_preflight request then e else error.CorsCheck) tainted outcome) (same-error found) so)

    -- with a preflight or without
    by-switch : (asks : Bool) (state : State) → needs_preflight request ≡ asks
        → IsAtSwitch (if asks then with_preflight (onward_of context request) context (finished context) tainted
        else http_fetch (onward_of context request) context (finished context) tainted) state
        → IsByTable limit table request outcome
    by-switch true state needs at =
        as-told (by-behind limit (row_of table (serialized_request_origin request)) tainted outcome needs
        (behind table by ends limit document outcome last (onward_of context request) context tainted on-way
        at.mid state at.told at.fresh legal needs at.goes))
    by-switch false state needs at =
        as-told (by-real limit (row_of table (serialized_request_origin request)) tainted outcome away.unsafe needs
        (real table by ends limit document outcome last (onward_of context request) context (finished context)
        (done table by ends limit document outcome last context) tainted on-way at.mid state at.told at.goes))

    by-main : (first : World State) (state : State) → first.exchange.state ≡ Some state → first.own ≡ []
        → Is_left (fetch context request) first → IsByTable limit table request outcome
    by-main first state told unasked goes =
        let onward = onward_of context request in
        let next = finished context in
        let referred = with_referrer context.client request in
        let at = at-switch onward context next referred (host_to_match referred) first state told
        (ap (book_after empty) unasked)
        (otherwise table by ends limit document outcome last _ _ first
        (main-is onward context next request is.at_http is.document.policies_are away.destined is.unblocked) goes) in
        let elsewhere : is_origin_of referred.origin (current_url referred) ≡ false =
        ap (λ o. is_origin_of o (current_url request)) away.origin_is ∙ is.away in
        by-switch (needs_preflight request) state refl
        (record {
          mid = at.mid;
          told = at.told;
          fresh = at.fresh;
          goes = otherwise table by ends limit document outcome last _ _ at.mid
              (switched-is onward context next referred (needs_preflight request) refl away.mode_is elsewhere) at.goes;
        })

-- the theorem, by what each end hears of the other
pub access : (State : Type 0) → HasOneReading → RequestsAreHeard → RepliesAreHeard → RepliesHaveHeads → IsAccess State
access State once requests replies heads table by limit document context init request state events outcome rows is came
    answers readable =
    let ends : AreEnds table = record {
      rows = all-each IsRow table rows;
      once = once;
      requests = requests;
      replies = replies;
      heads = heads;
    } in
    by-main table by ends limit document outcome came.last came.legal context init request is came.first
    state came.told came.unasked
    (record {
      tape = came.tape;
      events = events;
      trace = came.trace;
      faultless = came.faultless;
      sends = λ first told.
          subst (λ (s : State). AllSent by (IsServedSo table by) s events)
          (same_Some state first (sym came.told ∙ told))
          (all-served table by state events answers readable);
    })
