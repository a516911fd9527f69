-- A request and the answer to it by an allow table: what the server hears, what it replies, and what the engine reads.
use Rattle.std.proofs.Common.{◌≡◌, ℕ, ◌≤◌, Bool, true, false, List, [], ◌∷◌, length, map, Option, Some}
use Rattle.std.proofs.Common.{arith, suc}
use Rattle.std.proofs.Common.{None, codes, bytes_eq, refl, ap, sym, subst, ◌∙◌, if◌then◌else◌}
use Rattle.std.proofs.lemmas.List.{append-nil}
use Rattle.std.proofs.lemmas.Slice.Eq.{bytes_eq-Decides}
use Rattle.std.specs.List.{AllByRecursion, list_all}
use Rattle.httparse.specs.Grammar.{is_value_byte}
use Rattle.value_text.specs.Tokens.{is_token}
use Rattle.value_text.specs.Values.{is_header_value}
use Rattle.value_headers.specs.Headers.{joined, values_of}
use Rattle.value_requests.specs.declared.hop.Hop.{Hop}
use Rattle.value_requests.specs.declared.request.Request.{Request}
use Rattle.value_requests.specs.declared.response.Outcome.{Outcome}
use Rattle.fetch_acts.specs.declared.act.Act.TheVariants.{ReadHead, Send}
use Rattle.fetch_acts.specs.declared.act.Input.{Input}
use Rattle.fetch_acts.specs.declared.act.Input.TheVariants.{HeadIs, Sent}
use Rattle.fetch_acts.specs.Process.{Process, act}
use Rattle.link_http1.specs.Answers.{bad, long, most_bytes}
use Rattle.link_http1.specs.Framings.{framing_of}
use Rattle.link_http1.specs.RequestHeads.{HasOneReading, IsRead}
use Rattle.link_http1.specs.Requests.{request_bytes}
use Rattle.link_http1.specs.declared.request_head.Asked.{Asked}
use Rattle.fetch_wire.specs.Exchanges.{Answering, HasNoHead}
use Rattle.script_events.specs.declared.events.Event.{Event}
use Rattle.script_events.specs.declared.events.Event.TheVariants as event
use Rattle.play_definitions.specs.Worlds.{World}
use Rattle.server_tables.specs.declared.table.Row.{Row}
use Rattle.server_tables.specs.Tables.{lists, row_of}
use Rattle.server_tables.specs.Served.{IsServed, Reply, allowed, by_origin, by_found, is_preflight, refused}
use Rattle.server_tables.specs.Served.{reply_bytes}
use Rattle.server_tables.specs.Served.{reply_to, served}
use Rattle.server_heard.specs.Heard.{IsLine, IsPlainReply, IsWritten, RepliesAreHeard, RepliesHaveHeads}
use Rattle.server_heard.specs.Heard.{RequestsAreHeard, as_read}
use Rattle.server_access.specs.Access.{AnswersBy, AreReadable, IsReadableRequest, IsRow}
use Rattle.server_access.proofs.ListLemmas.{each-contained, found-is}
use Rattle.server_access.proofs.ReadLemmas.{header-read, read-plain, read_value, values-read}
use Rattle.server_access.proofs.ReplyLemmas.{allowed-plain, allowed-short, head_by, refused-plain, refused-short}
use Rattle.server_access.proofs.ReplyLemmas.{served-plain, served-short}
use Rattle.server_access.proofs.TraceLemmas.{AllSent, Goes, WasHeaded, WasSent, goes-as, headed, sent}
use Rattle.server_access.proofs.ValueLemmas.{AreLines}

-- what a server hears of a hop
abbrev pub asked_by : Hop → Asked
asked_by hop = record { method = hop.method; headers = as_read [] hop.headers }

-- what is asked of a request in its state: the server can read its head, and answers it by the table
abbrev pub IsServedSo : {State : Type 0} → List Row → Answering State → State → Hop → Type 0
IsServedSo table by state hop = IsReadableRequest hop × IsServed table (request_bytes hop) (by.answer state hop)

later : (one : Event) (events : List Event) → AreReadable (one ∷ events) → AreReadable events
later one events readable hop at = readable hop (suc at.0, omega (arith, at.1), at.2)

-- so it is of each request that was sent
pub all-served : {State : Type 0} (table : List Row) (by : Answering State) (state : State) (events : List Event)
    → AnswersBy table by state events → AreReadable events → AllSent by (IsServedSo table by) state events
all-served table by state [] answers readable = tt
all-served table by state (event.Sent hop ∷ events) answers readable = (
  (readable hop (0, omega arith, refl), answers.0),
  all-served table by (by.next state hop) events answers.1 (later (event.Sent hop) events readable),
)
all-served table by state (one ∷ events) answers readable =
    all-served table by state events answers (later one events readable)

-- Both ends: a server that answers by a table of such rows, and what each end hears of the other.
pub record AreEnds (table : List Row) : Type 0 where
  pub rows : AllByRecursion IsRow table
  pub once : HasOneReading
  pub requests : RequestsAreHeard
  pub replies : RepliesAreHeard
  pub heads : RepliesHaveHeads

-- the reply is plain, and short
abbrev pub IsGood : Reply → Type 0
IsGood reply = IsPlainReply reply × (length (reply_bytes reply) ≤ most_bytes)

-- ---- the row of an origin

-- The first row with the origin.
pub record IsRowOf (origin : List ℕ) (row : Row) : Type 0 where
  pub is : IsRow row
  pub origin_is : row.origin ≡ origin

pub row-found : (table : List Row) (origin : List ℕ) (row : Row) → AllByRecursion IsRow table
    → row_of table origin ≡ Some row → IsRowOf origin row
row-found table origin row rows same =
    let found = found-is IsRow (λ (r : Row). bytes_eq r.origin origin) table row rows same in
    record { is = found.1; origin_is = (bytes_eq-Decides row.origin origin).0 found.0 }

good-by : (asked : Asked) (row : Row) (preflight lists_it : Bool) → IsRow row → list_all is_value_byte row.origin ≡ true
    → IsGood (if preflight then allowed row else if lists_it then served row asked.method else refused)
good-by asked row true lists_it is plain = (allowed-plain row is plain, allowed-short row is)
good-by asked row false true is plain = (served-plain row is plain asked.method, served-short row asked.method is)
good-by asked row false false is plain = (refused-plain, refused-short)

good-reply : (table : List Row) (origin : List ℕ) (asked : Asked) (found : Option Row) → AllByRecursion IsRow table
    → row_of table origin ≡ found → list_all is_value_byte origin ≡ true → IsGood (by_found found asked)
good-reply table origin asked None rows same plain = (refused-plain, refused-short)
good-reply table origin asked (Some row) rows same plain =
    let of = row-found table origin row rows same in
    good-by asked row (is_preflight asked) (lists row.methods asked.method) of.is
    (subst (λ (text : List ℕ). list_all is_value_byte text ≡ true) (sym of.origin_is) plain)

-- ---- what is heard of a hop

-- its origin
heard-origin : (hop : Hop) (origin : List ℕ) → values_of (codes "Origin") hop.headers ≡ origin ∷ []
    → is_header_value origin ≡ true → values_of (codes "Origin") (asked_by hop).headers ≡ origin ∷ []
heard-origin hop origin is valued =
    values-read (codes "Origin") hop.headers ∙ ap (map read_value) is
    ∙ ap (λ (text : List ℕ). text ∷ []) (header-read origin valued)

-- and the reply by it
reply-by : (table : List Row) (origin : List ℕ) (asked : Asked) (found : Option Asked) (reply : Reply)
    → reply ≡ reply_to table found → found ≡ Some asked → values_of (codes "Origin") asked.headers ≡ origin ∷ []
    → reply ≡ by_found (row_of table origin) asked
reply-by table origin asked found reply is same heard =
    is ∙ ap (reply_to table) same
    ∙ ap (λ (values : List (List ℕ)). by_origin table (joined values) asked) heard
    ∙ ap (λ (text : List ℕ). by_found (row_of table text) asked) (append-nil origin)

-- ---- an answer

module _ {State : Type 0} (table : List Row) (by : Answering State) (ends : AreEnds table) (limit document : ℕ)
    (outcome : Outcome) (last : World State) where
  -- what is left of the fetch
  abbrev pub Left : Process → World State → Type 0
  Left = Goes by limit document (IsServedSo table by) outcome last

  -- The answer to a hop with this origin: the reply by the origin's row, and its head is read.
  pub record WasAnswered (hop : Hop) (origin : List ℕ) (after : Input → Process) : Type 0 where
    pub reply : Reply
    pub reply_is : reply ≡ by_found (row_of table origin) (asked_by hop)
    pub mid : World State
    pub state : State
    pub told : mid.exchange.state ≡ Some state
    pub coming_is : mid.exchange.coming ≡ Some reply.body
    pub framing_is : mid.exchange.framing ≡ framing_of (head_by reply)
    pub goes : Left (after (HeadIs (head_by reply))) mid

  -- the head is that of the reply
  reply-read : (hop : Hop) (origin : List ℕ) (after : Input → Process) (reply : Reply)
      → reply ≡ by_found (row_of table origin) (asked_by hop) → IsGood reply → (world : World State) (state : State)
      → world.exchange.state ≡ Some state
      → WasHeaded by limit document (IsServedSo table by) outcome last (reply_bytes reply) after world
      → WasAnswered hop origin after
  reply-read hop origin after reply reply_is good world state told was =
      let read = ends.replies reply was.head was.mid.exchange.coming good.0 was.has in
      record {
        reply = reply;
        reply_is = reply_is;
        mid = was.mid;
        state = state;
        told = was.state_is ∙ told;
        coming_is = read.1;
        framing_is = was.framing_is ∙ ap framing_of read.0;
        goes = subst (λ h. Left (after (HeadIs h)) was.mid) read.0 was.goes;
      }

  -- the reply has a head
  reply-headed : (request : Request) (hop : Hop) (origin : List ℕ) (after : Input → Process) (answer : List ℕ)
      (reply : Reply) → answer ≡ reply_bytes reply → reply ≡ by_found (row_of table origin) (asked_by hop)
      → IsGood reply → (world : World State) (state : State) → world.exchange.state ≡ Some state
      → world.exchange.coming ≡ Some answer → Left (act request ReadHead after) world → WasAnswered hop origin after
  reply-headed request hop origin after answer reply answer_is reply_is good world state told coming goes =
      let none : (¬ (HasNoHead (Some (reply_bytes reply)) bad)) × (¬ (HasNoHead (Some (reply_bytes reply)) long)) =
      ends.heads reply good.0 good.1 in
      reply-read hop origin after reply reply_is good world state told
      (headed by limit document (IsServedSo table by) outcome last request (reply_bytes reply) after world
      (subst (λ (b : List ℕ). world.exchange.coming ≡ Some b) answer_is coming) none.0 none.1 goes)

  -- the server answers the hop that was sent
  hop-answered : (request : Request) (hop : Hop) (origin : List ℕ) (before after : Input → Process)
      (world : World State) (state : State) → before Sent ≡ act request ReadHead after
      → is_token hop.method ≡ true → AreLines hop.headers → values_of (codes "Origin") hop.headers ≡ origin ∷ []
      → is_header_value origin ≡ true
      → WasSent by limit document (IsServedSo table by) outcome last hop state before world
      → WasAnswered hop origin after
  hop-answered request hop origin before after world state reads method lines origin_is valued was =
      let is : IsServed table (request_bytes hop) (by.answer state hop) = was.fine.1 in
      let heard_is : IsReadableRequest hop = was.fine.0 in
      let written : IsWritten hop = record {
        sendable = was.sendable;
        method = method;
        lines = λ one at. each-contained IsLine hop.headers lines one at;
      } in
      let read : IsRead (request_bytes hop) (Some (asked_by hop)) =
      subst (λ (a : Asked). IsRead (request_bytes hop) (Some a))
      (ends.requests hop heard_is.0 written heard_is.1) heard_is.1 in
      let heard : values_of (codes "Origin") (asked_by hop).headers ≡ origin ∷ [] =
      heard-origin hop origin origin_is valued in
      let plain : list_all is_value_byte origin ≡ true =
      read-plain (request_bytes hop) (codes "Origin") origin [] (asked_by hop) read heard in
      let reply_is : is.0 ≡ by_found (row_of table origin) (asked_by hop) =
      reply-by table origin (asked_by hop) is.1.0 is.0 is.1.2
      (ends.once (request_bytes hop) is.1.0 (Some (asked_by hop)) is.1.1 read) heard in
      let good : IsGood is.0 =
      subst IsGood (sym reply_is) (good-reply table origin (asked_by hop) (row_of table origin) ends.rows refl plain) in
      reply-headed request hop origin after (by.answer state hop) is.0 is.2 reply_is good was.mid (by.next state hop)
      was.told was.coming_is
      (goes-as by limit document (IsServedSo table by) outcome last (before Sent) (act request ReadHead after) was.mid
      reads
      was.goes)

  pub answered : (request : Request) (hop : Hop) (origin : List ℕ) (before after : Input → Process)
      (world : World State) (state : State) → world.exchange.state ≡ Some state
      → before Sent ≡ act request ReadHead after → is_token hop.method ≡ true → AreLines hop.headers
      → values_of (codes "Origin") hop.headers ≡ origin ∷ [] → is_header_value origin ≡ true
      → Left (act request (Send hop) before) world → WasAnswered hop origin after
  answered request hop origin before after world state told reads method lines origin_is valued goes =
      hop-answered request hop origin before after world state reads method lines origin_is valued
      (sent by limit document (IsServedSo table by) outcome last request hop state before world told goes)
