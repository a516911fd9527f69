-- What is left of a fetch in a world that answers it: its next act, and what comes of that.
use Rattle.std.proofs.Common.{◌≡◌, ℕ, ◌+◌, false, List, [], ◌∷◌, ◌++◌, Option, Some, None, is_some, refl}
use Rattle.std.proofs.Common.{ap, sym, subst, ◌∙◌, append_assoc, IsTrue, true≢false, option_map}
use Rattle.std.proofs.lemmas.Option.{same_Some}
use Rattle.std.proofs.lemmas.Bool.{or_parts}
use Rattle.std.proofs.lemmas.List.{append-nil}
use Rattle.std.specs.Bool.{⊤}
use Rattle.std.specs.List.{list_any}
use Rattle.value_requests.specs.declared.hop.Head.{Head}
use Rattle.value_requests.specs.declared.hop.Hop.{Hop}
use Rattle.value_requests.specs.declared.request.Request.{Request}
use Rattle.value_requests.specs.declared.response.BodyEnd.{BodyEnd}
use Rattle.value_requests.specs.declared.response.BodyEnd.TheVariants as body
use Rattle.value_requests.specs.declared.response.Outcome.{Outcome}
use Rattle.value_requests.specs.Targets.{IsSendable}
use Rattle.book_calls.specs.declared.book.Book.{Book}
use Rattle.book_calls.specs.declared.entry.Entry.{Entry}
use Rattle.book_calls.specs.declared.op.Op.{Op}
use Rattle.book_calls.specs.Book.{after as after_op, empty, reply}
use Rattle.book_calls.specs.Entries.{Legal, LegalFrom, book_after}
use Rattle.fetch_acts.specs.declared.act.Act.{Act}
use Rattle.fetch_acts.specs.declared.act.Act.TheVariants.{Ask, Send, ReadHead, ReadBody, Tell}
use Rattle.fetch_acts.specs.declared.act.Input.{Input}
use Rattle.fetch_acts.specs.declared.act.Input.TheVariants.{Replied, Sent, HeadIs, HeadBad, HeadLong, BodyIs, Fault}
use Rattle.fetch_acts.specs.Process.{Process, act, ended, fits}
use Rattle.fetch_acts.specs.Traces.{Trace, stop, stepped, with_events}
use Rattle.link_http1.specs.Answers.{bad, long}
use Rattle.link_http1.specs.Bodies.{body_end}
use Rattle.link_http1.specs.Framings.{framing_of}
use Rattle.fetch_wire.specs.Exchanges.{Answering, AreToCome, Exchange, FindsBody, FindsHead, HasHead, HasNoHead}
use Rattle.fetch_wire.specs.Exchanges.{IsAnswered, is_fault}
use Rattle.script_events.specs.declared.events.Event.{Event}
use Rattle.script_events.specs.declared.events.Event.TheVariants as event
use Rattle.script_runs.specs.Play.{events_of}
use Rattle.play_definitions.specs.Driving.{LeadsOn}
use Rattle.play_definitions.specs.Worlds.{World, WorldAnswers}

-- ---- a trace by its first act

-- An exchange came of the first act, and the trace leads on from there.
pub record Stepped {W E : Type 0} (exchange : W → Act → Input → List E → W → Type 0) (first : Act)
    (after : Input → Process) (old : W) (tape : List Input) (events : List E) (end : Process) (last : W)
    : Type 0 where
  pub input : Input
  pub mid : W
  pub rest : List Input
  pub made : List E
  pub more : List E
  pub came : exchange old first input made mid
  pub fit : IsTrue (fits first input)
  pub tape_is : tape ≡ input ∷ rest
  pub events_are : events ≡ made ++ more
  pub trace : Trace exchange (after input) mid rest more end last

-- what a trace to an outcome says of its process: it has ended so, or its first act came about
abbrev pub Opened : {W E : Type 0} → (W → Act → Input → List E → W → Type 0) → Process → W → List Input → List E
    → Outcome → W → Type 0
Opened exchange (ended came) old tape events outcome last = came ≡ outcome
Opened exchange (act request first after) old tape events outcome last =
    Stepped exchange first after old tape events (ended outcome) last

module _ {W E : Type 0} (exchange : W → Act → Input → List E → W → Type 0) where
  opened-at : {p q : Process} {old last : W} {tape : List Input} {events : List E}
      → Trace exchange p old tape events q last → (outcome : Outcome) → q ≡ ended outcome
      → Opened exchange p old tape events outcome last
  opened-at {p = p} {old = old} stop outcome is =
      subst (λ (r : Process). Opened exchange r old [] [] outcome old) (sym is) refl
  opened-at {last = last} (stepped {mid = mid} {tape = tape} {made = made} {events = events} request first after input
      came fit x) outcome is = record {
        input = input;
        mid = mid;
        rest = tape;
        made = made;
        more = events;
        came = came;
        fit = fit;
        tape_is = refl;
        events_are = refl;
        trace = subst (λ (r : Process). Trace exchange (after input) mid tape events r last) is x;
      }

  pub opened : {p : Process} {old last : W} {tape : List Input} {events : List E} (outcome : Outcome)
      → Trace exchange p old tape events (ended outcome) last → Opened exchange p old tape events outcome last
  opened outcome x = opened-at x outcome refl

-- ---- what answers an act

-- a request whose state is told was sent, and the answer to it is to come
sent-told : {State : Type 0} (answer : State → List ℕ) (old new : Exchange State) (state : State) (input : Input)
    → old.state ≡ Some state → is_fault input ≡ false → IsAnswered answer old input new
    → (input ≡ Sent) × (new.coming ≡ Some (answer state))
sent-told answer old new state Sent told quiet is = (refl, is.0 ∙ ap (option_map answer) told)
sent-told answer old new state Fault told quiet is = absurd (true≢false quiet)
sent-told answer old new state input told quiet is = absurd is

-- a head came, where the bytes to come have one
head-told : {State : Type 0} (old new : Exchange State) (bytes : List ℕ) (input : Input)
    → old.coming ≡ Some bytes → is_fault input ≡ false → ¬ (HasNoHead (Some bytes) bad)
    → ¬ (HasNoHead (Some bytes) long) → FindsHead old input new
    → (head : Head) × (input ≡ HeadIs head) × HasHead (Some bytes) head new.coming × (new.framing ≡ framing_of head)
head-told old new bytes (HeadIs head) told quiet one few is = (
  head,
  refl,
  subst (λ (c : Option (List ℕ)). HasHead c head new.coming) told is.0,
  is.1,
)
head-told old new bytes HeadBad told quiet one few is =
    absurd (one (subst (λ (c : Option (List ℕ)). HasNoHead c bad) told is.0))
head-told old new bytes HeadLong told quiet one few is =
    absurd (few (subst (λ (c : Option (List ℕ)). HasNoHead c long) told is.0))
head-told old new bytes Fault told quiet one few is = absurd (true≢false quiet)
head-told old new bytes input told quiet one few is = absurd is

-- the body is that of the bytes to come
body-told : {State : Type 0} (limit : ℕ) (old new : Exchange State) (bytes : List ℕ) (input : Input)
    → old.coming ≡ Some bytes → is_fault input ≡ false → FindsBody limit old input new
    → input ≡ BodyIs (body_end old.framing limit bytes)
body-told limit old new bytes (BodyIs (body.Fault n)) told quiet is = absurd (true≢false quiet)
body-told limit old new bytes (BodyIs end) told quiet is =
    let are : is.0.bytes ≡ bytes =
    subst (λ (c : Option (List ℕ)). AreToCome c is.0.bytes) told is.0.are_all in
    ap (λ (e : BodyEnd). BodyIs e) (is.0.ends ∙ ap (body_end old.framing limit) are)
body-told limit old new bytes input told quiet is = absurd is

-- ---- calls of the book

-- each reply in a legal history is that of the book after the entries before it
legal-at : (book : Book) (turn : ℕ) (before more : List Entry) (entry : Entry)
    → LegalFrom book turn (before ++ entry ∷ more) → entry.reply ≡ reply (book_after book before) entry.op
legal-at book turn [] more entry legal = legal.1
legal-at book turn (one ∷ before) more entry legal =
    legal-at (after_op book one.op) (one.turn + 1) before more entry legal.2

module _ {State : Type 0} (by : Answering State) (limit document : ℕ) where
  -- an act adds to the document's calls
  own-after : (a b : World State) (first : Act) (input : Input) → WorldAnswers by limit document a first input b
      → (more : List Entry) × (b.own ≡ a.own ++ more)
  own-after a b (Ask op) input is = (is.asked.entry ∷ [], is.asked.own_is)
  own-after a b (Send hop) input is = ([], is.1.own_is ∙ sym (append-nil a.own))
  own-after a b ReadHead input is = ([], is.own_is ∙ sym (append-nil a.own))
  own-after a b ReadBody input is = ([], is.own_is ∙ sym (append-nil a.own))
  own-after a b (Tell violation) input is =
      ([], ap (λ (w : World State). w.own) is.1 ∙ sym (append-nil a.own))

  -- and so does a trace
  own-grows : {p q : Process} {a b : World State} {tape : List Input} {events : List Event}
      → LeadsOn by limit document p a tape events q b → (more : List Entry) × (b.own ≡ a.own ++ more)
  own-grows {a = a} stop = ([], sym (append-nil a.own))
  own-grows {a = a} (stepped {mid = mid} request first after input came fit x) =
      let here = own-after a mid first input came.0 in
      let later = own-grows x in
      (here.0 ++ later.0, later.1 ∙ ap (λ (l : List Entry). l ++ later.0) here.1 ∙ append_assoc a.own here.0 later.0)

-- ---- what is left of a fetch

-- from this state on, each request that was sent is so in its state
abbrev pub AllSent : {State : Type 0} → Answering State → (State → Hop → Type 0) → State → List Event → Type 0
AllSent by Fine state [] = ⊤
AllSent by Fine state (event.Sent hop ∷ events) = Fine state hop × AllSent by Fine (by.next state hop) events
AllSent by Fine state (one ∷ events) = AllSent by Fine state events

-- and so it is from the state that is told
abbrev pub AllToldSent : {State : Type 0} → Answering State → (State → Hop → Type 0) → Option State → List Event
    → Type 0
AllToldSent {State} by Fine told events = (state : State) → told ≡ Some state → AllSent by Fine state events

module _ {State : Type 0} (by : Answering State) (Fine : State → Hop → Type 0) where
  -- behind a request it is so of the others
  behind-sent : (hop : Hop) (more : List Event) (before after : Option State)
      → after ≡ option_map (λ s. by.next s hop) before → AllToldSent by Fine before (event.Sent hop ∷ more)
      → AllToldSent by Fine after more
  behind-sent hop more None after is all state told = absurd (true≢false (ap is_some (sym told ∙ is)))
  behind-sent hop more (Some first) after is all state told =
      subst (λ (s : State). AllSent by Fine s more) (same_Some (by.next first hop) state (sym is ∙ told))
      (all first refl).1

  -- behind an act it is so of what is left
  behind-act : (limit document : ℕ) (world mid : World State) (first : Act) (input : Input) (more : List Event)
      → WorldAnswers by limit document world first input mid
      → AllToldSent by Fine world.exchange.state (events_of first input ++ more)
      → AllToldSent by Fine mid.exchange.state more
  behind-act limit document world mid (Ask op) input more is all =
      subst (λ (e : Exchange State). AllToldSent by Fine e.state more) (sym is.exchange_is) all
  behind-act limit document world mid (Send hop) input more is all =
      behind-sent hop more world.exchange.state mid.exchange.state is.1.exchanged.state_is all
  behind-act limit document world mid ReadHead input more is all =
      subst (λ (s : Option State). AllToldSent by Fine s more) (sym is.exchanged.state_is) all
  behind-act limit document world mid ReadBody input more is all =
      subst (λ (s : Option State). AllToldSent by Fine s more) (sym is.exchanged.state_is) all
  behind-act limit document world mid (Tell violation) input more is all =
      subst (λ (w : World State). AllToldSent by Fine w.exchange.state more) (sym is.1) all

module _ {State : Type 0} (by : Answering State) (limit document : ℕ) (Fine : State → Hop → Type 0)
    (outcome : Outcome) (last : World State) where
  -- What is left of a fetch comes to the outcome in the last world without a fault, and each request that it sends is
  -- so in its state.
  pub record Goes (process : Process) (world : World State) : Type 0 where
    pub tape : List Input
    pub events : List Event
    pub trace : LeadsOn by limit document process world tape events (ended outcome) last
    pub faultless : list_any is_fault tape ≡ false
    pub sends : AllToldSent by Fine world.exchange.state events

  -- the process, as it is written otherwise
  pub goes-as : (p q : Process) (world : World State) → p ≡ q → Goes p world → Goes q world
  goes-as p q world same goes = subst (λ (r : Process). Goes r world) same goes

  -- it has ended with its outcome
  pub goes-ended : (came : Outcome) (world : World State) → Goes (ended came) world → came ≡ outcome
  goes-ended came world goes = opened (with_events (WorldAnswers by limit document) events_of) outcome goes.trace

  -- What came of the first act, and what is left then.
  record Next (first : Act) (after : Input → Process) (world : World State) : Type 0 where
    input : Input
    mid : World State
    came : WorldAnswers by limit document world first input mid
    quiet : is_fault input ≡ false
    more : List Event
    sends : AllToldSent by Fine world.exchange.state (events_of first input ++ more)
    goes : Goes (after input) mid

  next : (request : Request) (first : Act) (after : Input → Process) (world : World State)
      → Goes (act request first after) world → Next first after world
  next request first after world goes =
      let exchange = with_events (WorldAnswers by limit document) events_of in
      let step : Stepped exchange first after world goes.tape goes.events (ended outcome) last =
      opened exchange outcome goes.trace in
      let quiet : (is_fault step.input ≡ false) × (list_any is_fault step.rest ≡ false) =
      or_parts (is_fault step.input) (list_any is_fault step.rest)
      (subst (λ (t : List Input). list_any is_fault t ≡ false) step.tape_is goes.faultless) in
      let sends : AllToldSent by Fine world.exchange.state (events_of first step.input ++ step.more) =
      subst (AllToldSent by Fine world.exchange.state) (step.events_are
      ∙ ap (λ (e : List Event). e ++ step.more) step.came.1) goes.sends in
      record {
        input = step.input;
        mid = step.mid;
        came = step.came.0;
        quiet = quiet.0;
        more = step.more;
        sends = sends;
        goes = record {
          tape = step.rest;
          events = step.more;
          trace = step.trace;
          faultless = quiet.1;
          sends = behind-act by Fine limit document world step.mid first step.input step.more step.came.0 sends;
        };
      }

  -- ---- a call of the book

  -- The book was called, and what is left then.
  pub record Called (op : Op) (after : Input → Process) (world : World State) : Type 0 where
    pub entry : Entry
    pub op_is : entry.op ≡ op
    pub mid : World State
    pub own_is : mid.own ≡ world.own ++ entry ∷ []
    pub exchange_is : mid.exchange ≡ world.exchange
    pub goes : Goes (after (Replied entry.reply)) mid

  pub called : (request : Request) (op : Op) (after : Input → Process) (world : World State)
      → Goes (act request (Ask op) after) world → Called op after world
  called request op after world goes =
      let step = next request (Ask op) after world goes in
      record {
        entry = step.came.asked.entry;
        op_is = step.came.asked.op_is;
        mid = step.mid;
        own_is = step.came.asked.own_is;
        exchange_is = step.came.exchange_is;
        goes = subst (λ (i : Input). Goes (after i) step.mid) step.came.asked.input_is step.goes;
      }

  -- where the document's calls are all that the book has had, its reply is the book's
  pub replied : (op : Op) (after : Input → Process) (world : World State) (was : Called op after world)
      → Legal empty last.own → was.entry.reply ≡ reply (book_after empty world.own) op
  replied op after world was legal =
      let grew = own-grows by limit document was.goes.trace in
      let whole : last.own ≡ world.own ++ was.entry ∷ grew.0 =
      grew.1 ∙ ap (λ (l : List Entry). l ++ grew.0) was.own_is
      ∙ append_assoc world.own (was.entry ∷ []) grew.0 in
      legal-at empty 0 world.own grew.0 was.entry (subst (LegalFrom empty 0) whole legal)
      ∙ ap (reply (book_after empty world.own)) was.op_is

  -- ---- a request and its answer

  -- The request was sent, and what is left then.
  pub record WasSent (hop : Hop) (state : State) (after : Input → Process) (world : World State) : Type 0 where
    pub mid : World State
    pub coming_is : mid.exchange.coming ≡ Some (by.answer state hop)
    pub told : mid.exchange.state ≡ Some (by.next state hop)
    pub sendable : IsSendable hop
    pub fine : Fine state hop
    pub goes : Goes (after Sent) mid

  pub sent : (request : Request) (hop : Hop) (state : State) (after : Input → Process) (world : World State)
      → world.exchange.state ≡ Some state → Goes (act request (Send hop) after) world
      → WasSent hop state after world
  sent request hop state after world told goes =
      let step = next request (Send hop) after world goes in
      let is = step.came.1.exchanged in
      let came = sent-told (λ s. by.answer s hop) world.exchange step.mid.exchange state step.input told step.quiet
      is.answered in
      record {
        mid = step.mid;
        coming_is = came.1;
        told = is.state_is ∙ ap (option_map (λ s. by.next s hop)) told;
        sendable = step.came.0;
        fine = (step.sends state told).0;
        goes = subst (λ (i : Input). Goes (after i) step.mid) came.0 step.goes;
      }

  -- The head of the answer was read, and what is left then.
  pub record WasHeaded (bytes : List ℕ) (after : Input → Process) (world : World State) : Type 0 where
    pub head : Head
    pub mid : World State
    pub has : HasHead (Some bytes) head mid.exchange.coming
    pub framing_is : mid.exchange.framing ≡ framing_of head
    pub state_is : mid.exchange.state ≡ world.exchange.state
    pub goes : Goes (after (HeadIs head)) mid

  pub headed : (request : Request) (bytes : List ℕ) (after : Input → Process) (world : World State)
      → world.exchange.coming ≡ Some bytes → ¬ (HasNoHead (Some bytes) bad) → ¬ (HasNoHead (Some bytes) long)
      → Goes (act request ReadHead after) world → WasHeaded bytes after world
  headed request bytes after world coming one few goes =
      let step = next request ReadHead after world goes in
      let is = step.came.exchanged in
      let came = head-told world.exchange step.mid.exchange bytes step.input coming step.quiet one few is.head_is in
      record {
        head = came.0;
        mid = step.mid;
        has = came.2;
        framing_is = came.3;
        state_is = is.state_is;
        goes = subst (λ (i : Input). Goes (after i) step.mid) came.1 step.goes;
      }

  -- the body of the answer was read
  pub bodied : (request : Request) (bytes : List ℕ) (after : Input → Process) (world : World State)
      → world.exchange.coming ≡ Some bytes → Goes (act request ReadBody after) world
      → (mid : World State) × Goes (after (BodyIs (body_end world.exchange.framing limit bytes))) mid
  bodied request bytes after world coming goes =
      let step = next request ReadBody after world goes in
      let came = body-told limit world.exchange step.mid.exchange bytes step.input coming step.quiet
      step.came.exchanged.body_is in
      (step.mid, subst (λ (i : Input). Goes (after i) step.mid) came step.goes)
