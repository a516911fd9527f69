-- Reports, delivered one after another.
use Rattle.std.proofs.Common.{◌≡◌, ℕ, List, [], ◌∷◌, ◌++◌, Option, Some, None, refl, ap, sym, subst, ◌∙◌, arith}
use Rattle.std.proofs.Common.{append_assoc, Result, Ok, Err}
use Rattle.std.specs.Result.{IsErr}
use Rattle.value_bytes.specs.declared.memory.OutOfMemory.{OutOfMemory}
use Rattle.std.proofs.lemmas.List.{append-nil}
use Rattle.fetch_acts.specs.declared.act.Input.{Input}
use Rattle.fetch_definitions.specs.Fetch.{fetch}
use Rattle.play_definitions.specs.Driving.{DriveCut, FetchPlayed}
use Rattle.play_definitions.specs.Playing.{PlaysOn, RunPlayed}
use Rattle.play_definitions.specs.Worlds.{Outside, Settles, World, WorldAnswers, WorldRefused, outside_of}
use Rattle.play_definitions.proofs.WorldLemmas.{refuses-none, still}
use Rattle.script_events.specs.declared.events.Ending.{Ending}
use Rattle.script_events.specs.declared.events.Ending.TheVariants as ending
use Rattle.script_events.specs.declared.events.Event.{Event}
use Rattle.script_events.specs.declared.events.Event.TheVariants as event
use Rattle.script_runs.specs.Play.{Play, PlayRun, over, run_play}
use Rattle.script_runs.specs.Runs.{Next, Progress, Setting, after_events, at_time, embed, fetch_limit, fetch_started}
use Rattle.script_runs.specs.Runs.{showing, beginning, document_client, finished, setting, unless_limit}
use Rattle.script_runs.specs.Traces.{stop}
use Rattle.script_runs.proofs.EmbedLemmas.{embedded}
use Rattle.script_runs.proofs.PlayLemmas.{play-append, play-event, play-run}
use Rattle.policy_csp_text.specs.declared.policy.Policy.{Policy}
use Rattle.script_scenarios.specs.declared.document.Document.{Document}
use Rattle.value_requests.specs.declared.client.Client.{Client}
use Rattle.value_requests.specs.declared.client.Cookie.{Cookie}
use Rattle.value_requests.specs.declared.request.Request.{Request}
use Rattle.value_requests.specs.declared.response.Outcome.{Outcome}
use Rattle.fetch_wire.specs.Exchanges.{Answering, IsIdle}
use Rattle.report_delivery.specs.Delivering.{DeliveryCut}
use Rattle.report_delivery.specs.Private.Paths.{HasReached, Path}
use Rattle.report_delivery.specs.Reporting.{report_played, reporting, reports_played}
use Rattle.report_delivery.specs.Reports.{report_requests}

-- a call that passes on want of memory
pub refused : {T : Type 0} (P : Result T OutOfMemory → Type 0) (result : Result T OutOfMemory) → IsErr result
    → ((one : OutOfMemory) → P (Err one)) → P result
refused P (Ok value) is p = absurd cc
refused P (Err one) is p = p one

module _ {State : Type 0} (by : Answering State) (limit document : ℕ) (whole : Play) (old : Outside State) where
  -- at the beginning
  pub reached-none : HasReached by limit document whole old [] whole old
  reached-none last idle is = record { first = last; idle = idle; from = is; tape = []; trace = stop }

  -- what follows the fetch of a report
  onward : Setting → List Request → Next → Outcome → Next
  onward lent requests next came = showing (event.Result came) (reports_played lent requests next)

  -- how far a run has come once a report was played
  abbrev pub reported : List Event → Outcome → Progress → Progress
  reported events outcome progress =
      after_events (event.Result outcome ∷ []) (after_events events (fetch_started progress))

  -- a report is played where no limit is reached
  pub report-begun : (lent : Setting) (request : Request) (requests : List Request) (next : Next) (progress : Progress)
      → fetch_limit progress ≡ None
      → reports_played lent (request ∷ requests) next progress
      ≡ report_played lent request (reports_played lent requests next) progress
  report-begun lent request requests next progress none =
      ap (λ (l : Option Ending). unless_limit l (report_played lent request (reports_played lent requests next))
      progress)
      none

  -- a path that goes on
  path-then : (events more : List Event) (mid rest : Play) (a b : World State) (tape : List Input)
      → Path by limit document whole old events mid a → PlaysOn by limit document mid a tape more rest b
      → Path by limit document whole old (events ++ more) rest b
  path-then events more mid rest a b tape path x = record {
    first = path.first;
    idle = path.idle;
    from = path.from;
    tape = path.tape ++ tape;
    trace = play-append (WorldAnswers by limit document) Settles path.trace x;
  }

  -- a path on which memory was refused
  path-cut : (events : List Event) (place : Play) (last : World State) (new : Outside State)
      → Path by limit document whole old events place last → WorldRefused (outside_of last) new
      → DeliveryCut by limit document whole old new
  path-cut events place last new path left = record {
    events = events;
    began = record {
      first = path.first;
      idle = path.idle;
      from = path.from;
      tape = path.tape;
      missed = [];
      few = omega arith;
      place = place;
      last = last;
      trace = subst (λ (l : List Event). PlaysOn by limit document whole path.first path.tape l place last)
          (sym (append-nil events)) path.trace;
      left = left;
      runs = ap (λ (t : List Input). (run_play whole t).events) (sym (append-nil path.tape))
          ∙ ap (λ (r : PlayRun). r.events) (play-run (WorldAnswers by limit document) Settles path.trace []);
    };
  }

  -- a report was played
  pub reached-report : (shown events : List Event) (lent : Setting) (request : Request) (requests : List Request)
      (next : Next) (progress : Progress) (outcome : Outcome) (now new : Outside State) → fetch_limit progress ≡ None
      → HasReached by limit document whole old shown (reports_played lent (request ∷ requests) next progress) now
      → FetchPlayed by limit document (fetch (at_time lent progress.clock) request) now events outcome new
      → HasReached by limit document whole old (shown ++ (events ++ event.Result outcome ∷ []))
      (reports_played lent requests next (reported events outcome progress)) new
  unfolding onward
  reached-report shown events lent request requests next progress outcome now new none path x last idle is =
      let rest = reports_played lent requests next (reported events outcome progress) in
      let begun : Play = report_played lent request (reports_played lent requests next) progress in
      let to : Path by limit document whole old shown begun x.first =
      subst (λ (p : Play). Path by limit document whole old shown p x.first)
      (report-begun lent request requests next progress none) (path x.first x.idle x.from) in
      path-then shown (events ++ event.Result outcome ∷ []) begun rest x.first last (x.driven.tape ++ []) to
      (play-append (WorldAnswers by limit document) Settles
      (embedded (WorldAnswers by limit document) Settles x.driven.trace (onward lent requests next)
      (fetch_started progress))
      (play-event (WorldAnswers by limit document) Settles (event.Result outcome) rest x.last last
      (record { idle = idle; outside_is = is ∙ sym x.to })))

  -- memory was refused in a report
  pub reached-cut : (shown : List Event) (lent : Setting) (request : Request) (requests : List Request)
      (next : Next) (progress : Progress) (now new : Outside State) → fetch_limit progress ≡ None
      → HasReached by limit document whole old shown (reports_played lent (request ∷ requests) next progress) now
      → DriveCut by limit document (fetch (at_time lent progress.clock) request) now new
      → DeliveryCut by limit document whole old new
  unfolding onward
  reached-cut shown lent request requests next progress now new none path x =
      let place = embed x.place (onward lent requests next) (after_events x.events (fetch_started progress)) in
      let begun : Play = report_played lent request (reports_played lent requests next) progress in
      let to : Path by limit document whole old shown begun x.first =
      subst (λ (p : Play). Path by limit document whole old shown p x.first)
      (report-begun lent request requests next progress none) (path x.first x.idle x.from) in
      path-cut (shown ++ x.events) place x.last new (path-then shown x.events begun place x.first x.last x.tape to
      (embedded (WorldAnswers by limit document) Settles x.trace (onward lent requests next)
      (fetch_started progress))) x.left

  -- memory was refused between reports
  pub reached-refused : (events : List Event) (rest : Play) (now new : Outside State)
      → HasReached by limit document whole old events rest now → new ≡ now
      → DeliveryCut by limit document whole old new
  reached-refused events rest now new path kept =
      path-cut events rest (still now) new (path (still now) (record { end = refl; framing_is = refl }) refl)
      (subst (λ (o : Outside State). WorldRefused now o) (sym kept) (refuses-none now))

  -- a limit is reached before a report
  pub reached-limit : (shown : List Event) (lent : Setting) (request : Request) (requests : List Request)
      (next : Next) (progress : Progress) (ending : Ending) (now : Outside State) → fetch_limit progress ≡ Some ending
      → HasReached by limit document whole old shown (reports_played lent (request ∷ requests) next progress) now
      → HasReached by limit document whole old shown (over ending progress.clock) now
  reached-limit shown lent request requests next progress ending now at path =
      subst (λ (p : Play). HasReached by limit document whole old shown p now)
      (ap (λ (l : Option Ending). unless_limit l (report_played lent request (reports_played lent requests next))
      progress) at) path

  -- the end is reached
  pub reached-end : (events : List Event) (ending : Ending) (clock : ℕ) (now : Outside State)
      → HasReached by limit document whole old events (over ending clock) now
      → RunPlayed by limit document whole old events ending clock now
  reached-end events ending clock now path =
      let idle : IsIdle (still now).exchange = record { end = refl; framing_is = refl } in
      let x : Path by limit document whole old events (over ending clock) (still now) = path (still now) idle refl in
      record {
        first = x.first;
        idle = x.idle;
        from = x.from;
        tape = x.tape;
        last = still now;
        trace = x.trace;
        to = refl;
        runs = ap (run_play whole) (sym (append-nil x.tape))
            ∙ play-run (WorldAnswers by limit document) Settles x.trace []
            ∙ ap (λ (l : List Event). let r : PlayRun = record { events = l; ending = Some (ending, clock) } in r)
            (append-nil events);
      }

  -- ---- the steps of a delivery

  module _ (lent : Setting) (next : Next) where
    -- at the beginning
    pub delivery-start : (log : Progress) (left : List Request) → whole ≡ reports_played lent left next log
        → log.shown ≡ []
        → HasReached by limit document whole old log.shown (reports_played lent left next log) old
    delivery-start log left is none =
        subst (λ (p : Play). HasReached by limit document whole old log.shown p old) is
        (subst (λ (l : List Event). HasReached by limit document whole old l whole old) (sym none) reached-none)

    -- what is left begins with this report
    begins : (log : Progress) (left more : List Request) (request : Request) (now : Outside State)
        → left ≡ request ∷ more
        → HasReached by limit document whole old log.shown (reports_played lent left next log) now
        → HasReached by limit document whole old log.shown (reports_played lent (request ∷ more) next log) now
    begins log left more request now taken path =
        subst (λ (l : List Request). HasReached by limit document whole old log.shown (reports_played lent l next log)
        now) taken path

    -- before a report a limit is reached
    pub delivery-limit : (log : Progress) (left more : List Request) (request : Request) (ending : Ending)
        (events : List Event) (clock : ℕ) (now : Outside State)
        → HasReached by limit document whole old log.shown (reports_played lent left next log) now
        → left ≡ request ∷ more → Some ending ≡ fetch_limit log → events ≡ log.shown → log.clock ≡ clock
        → RunPlayed by limit document whole old events ending clock now
    delivery-limit log left more request ending events clock now path taken at shown ticks =
        rw (shown, ← ticks) (reached-end log.shown ending log.clock now
        (reached-limit log.shown lent request more next log ending now (sym at)
        (begins log left more request now taken path)))

    -- a report was refused memory
    pub delivery-cut : (log : Progress) (left more : List Request) (request : Request) (number time : ℕ)
        (now new : Outside State)
        → HasReached by limit document whole old log.shown (reports_played lent left next log) now
        → left ≡ request ∷ more → None ≡ fetch_limit log → number ≡ document → log.clock ≡ time
        → DriveCut by limit number (fetch (at_time lent time) request) now new
        → DeliveryCut by limit document whole old new
    delivery-cut log left more request number time now new path taken none same ticks x =
        reached-cut log.shown lent request more next log now new (sym none)
        (begins log left more request now taken path)
        (subst (λ (n : ℕ). DriveCut by limit n (fetch (at_time lent log.clock) request) now new) same
        (subst (λ (n : ℕ). DriveCut by limit number (fetch (at_time lent n) request) now new) (sym ticks) x))

    -- a report was played
    pub delivery-report : (log log' : Progress) (left more : List Request) (request : Request) (number time : ℕ)
        (events : List Event) (outcome : Outcome) (now new : Outside State)
        → HasReached by limit document whole old log.shown (reports_played lent left next log) now
        → left ≡ request ∷ more → None ≡ fetch_limit log → number ≡ document → log.clock ≡ time
        → FetchPlayed by limit number (fetch (at_time lent time) request) now events outcome new
        → log' ≡ reported events outcome log
        → HasReached by limit document whole old log'.shown (reports_played lent more next log') new
    delivery-report log log' left more request number time events outcome now new path taken none same ticks x added =
        subst (λ (p : Progress). HasReached by limit document whole old p.shown (reports_played lent more next p) new)
        (sym added)
        (subst (λ (l : List Event). HasReached by limit document whole old l
        (reports_played lent more next (reported events outcome log)) new)
        (sym (append_assoc log.shown events (event.Result outcome ∷ [])))
        (reached-report log.shown events lent request more next log outcome now new (sym none)
        (begins log left more request now taken path)
        (subst (λ (n : ℕ). FetchPlayed by limit n (fetch (at_time lent log.clock) request) now events outcome new) same
        (subst (λ (n : ℕ). FetchPlayed by limit number (fetch (at_time lent n) request) now events outcome new)
        (sym ticks) x))))

    -- a report was played, and memory was refused to what it has shown
    pub delivery-unshown : (log : Progress) (left more : List Request) (request : Request) (number time : ℕ)
        (events : List Event) (outcome : Outcome) (now new : Outside State)
        → HasReached by limit document whole old log.shown (reports_played lent left next log) now
        → left ≡ request ∷ more → None ≡ fetch_limit log → number ≡ document → log.clock ≡ time
        → FetchPlayed by limit number (fetch (at_time lent time) request) now events outcome new
        → DeliveryCut by limit document whole old new
    delivery-unshown log left more request number time events outcome now new path taken none same ticks x =
        reached-refused (reported events outcome log).shown
        (reports_played lent more next (reported events outcome log)) new new
        (delivery-report log (reported events outcome log) left more request number time events outcome now new path
        taken none same ticks x refl) refl

  -- after the last report
  pub delivery-end : (lent : Setting) (log : Progress) (left : List Request) (events : List Event) (clock : ℕ)
      (now : Outside State)
      → HasReached by limit document whole old log.shown (reports_played lent left finished log) now
      → left ≡ [] → events ≡ log.shown → log.clock ≡ clock
      → RunPlayed by limit document whole old events ending.Finished clock now
  delivery-end lent log left events clock now path none shown ticks =
      rw (shown, ← ticks) (reached-end log.shown ending.Finished log.clock now
      (subst (λ (l : List Request). HasReached by limit document whole old log.shown
      (reports_played lent l finished log) now) none path))

-- the reports of a document, by its client and without policies
pub reporting-of : (document one : Document) (client : Client) (policies : List Policy) (cookies : List Cookie)
    (clock : ℕ) (events : List Event) → document ≡ one → client ≡ document_client document → policies ≡ []
    → reports_played (setting client policies cookies) (report_requests document events) finished (beginning clock)
    ≡ reporting cookies one clock events
reporting-of document one client policies cookies clock events same is none =
    ap (λ (c : Client). reports_played (setting c policies cookies) (report_requests document events) finished
    (beginning clock)) is
    ∙ ap (λ (l : List Policy). reports_played (setting (document_client document) l cookies)
    (report_requests document events) finished (beginning clock)) none
    ∙ ap (λ (d : Document). reporting cookies d clock events) same
