-- A run that goes by what a document may learn is the run over the tape that is woven of its views and of whatever says
-- what its calls were replied.
use Rattle.std.proofs.Common.{◌≡◌, Bool, true, false, cond, List, [], ◌∷◌, ◌++◌, Option, refl, ap, subst, sym, ◌∙◌}
use Rattle.std.proofs.Common.{append_assoc}
use Rattle.value_requests.specs.declared.hop.Hop.{Hop}
use Rattle.value_requests.specs.declared.request.Request.{Request}
use Rattle.book_calls.specs.declared.op.Op.{Op}
use Rattle.book_calls.specs.declared.op.Reply.{Reply}
use Rattle.fetch_acts.specs.declared.act.Act.{Act}
use Rattle.fetch_acts.specs.declared.act.Act.TheVariants.{Ask}
use Rattle.fetch_acts.specs.declared.act.Input.{Input}
use Rattle.fetch_acts.specs.declared.act.Input.TheVariants.{Replied}
use Rattle.fetch_acts.specs.Process.{fits}
use Rattle.script_events.specs.declared.events.Event.{Event}
use Rattle.fetch_laws.specs.Apart.{Made, calls_on, replies_on, views_from, with_call, woven}
use Rattle.fetch_laws.specs.Blind.{GoesBlind}
use Rattle.fetch_laws.specs.Seen.{seen, sent_by}
use Rattle.fetch_laws.proofs.ApartLemmas.{SayReplies, BlindPlan, fits-seen, seen-woven, seen_on, woven-seen}
use Rattle.script_runs.specs.Play.{Play, PlayRun, emit, events_of, over, play_on, run_play, shows, step, unseen}
use Rattle.play_isolation.specs.Apart.{apart, plan_of}
use Rattle.play_isolation.specs.Calls.{call_in, calls_in}
use Rattle.play_isolation.proofs.BlindLemmas.{BlindPlay, ShowsNoCall, events-seen}

-- ---- the calls of a run

-- the calls of two parts
pub calls-append : (a b : List Event) → calls_in (a ++ b) ≡ calls_in a ++ calls_in b
calls-append [] b = refl
calls-append (shown ∷ a) b =
    ap (λ (l : List Made). call_in shown ++ l) (calls-append a b)
    ∙ sym (append_assoc (call_in shown) (calls_in a) (calls_in b))

-- an event that is no call, before others
pub calls-silent : (shown : Event) (events : List Event) → call_in shown ≡ []
    → calls_in (shown ∷ events) ≡ calls_in events
calls-silent shown events silent = ap (λ (l : List Made). l ++ calls_in events) silent

-- by whether an input fits
calls-by : (first : Act) (input : Input) (rest : PlayRun) (calls : List Made) (fit : Bool) → fits first input ≡ fit
    → calls_in rest.events ≡ calls
    → calls_in (cond fit (shows (events_of first input) rest) unseen).events ≡ cond fit (with_call first input calls) []
calls-by first input rest calls false fit is = refl
calls-by (Ask op) (Replied reply) rest calls true fit is =
    ap (λ (l : List Made). let call : Made = record { op = op; reply = reply } in call ∷ l) is
calls-by (Ask op) input rest calls true fit is = absurd (cc)
calls-by first input rest calls true fit is = is

-- the calls that a run shows are those on its tape
pub calls-shown : (play : Play) (tape : List Input) → ShowsNoCall play
    → calls_in (run_play play tape).events ≡ calls_on (plan_of play) tape
calls-shown (over ending clock) tape silent = refl
calls-shown (emit shown rest) tape silent =
    calls-silent shown (run_play rest tape).events silent.0 ∙ calls-shown rest tape silent.1
calls-shown (step request first after) [] silent = refl
calls-shown (step request first after) (input ∷ tape) silent =
    calls-by first input (run_play (after input) tape) (calls_on (plan_of (after input)) tape) (fits first input) refl
    (calls-shown (after input) tape (silent input))

-- ---- a run over the tape as it is seen

blind-plan : (sent : Option Hop) (play : Play) → BlindPlay sent play → BlindPlan sent (plan_of play)
blind-plan sent (over ending clock) blind = tt
blind-plan sent (emit shown rest) blind = blind-plan sent rest blind
blind-plan sent (step request first after) blind = (
  λ input fit. ap plan_of (blind.0 input fit),
  λ input. blind-plan (sent_by first sent) (after input) (blind.1 input),
)

run-item : (request : Request) (first : Act) (after : Input → Play) (sent : Option Hop) (input : Input)
    (tape sees : List Input) (fit : Bool) → fits first input ≡ fit → GoesBlind sent request first after
    → run_play (after input) tape ≡ run_play (after input) sees
    → play_on first (λ i. run_play (after i)) (input ∷ tape)
    ≡ play_on first (λ i. run_play (after i)) (cond fit (seen first request sent input ∷ sees) [])
run-item request first after sent input tape sees true fit blind runs =
    rw (fits-seen first request sent input, fit, events-seen first request sent input)
    (rw (blind input fit, runs) refl)
run-item request first after sent input tape sees false fit blind runs = rw fit refl

run-seen : (sent : Option Hop) (play : Play) (tape : List Input) → BlindPlay sent play
    → run_play play tape ≡ run_play play (seen_on sent (plan_of play) tape)
run-seen sent (over ending clock) tape blind = refl
run-seen sent (emit shown rest) tape blind = ap (shows (shown ∷ [])) (run-seen sent rest tape blind)
run-seen sent (step request first after) [] blind = refl
run-seen sent (step request first after) (input ∷ tape) blind =
    run-item request first after sent input tape (seen_on (sent_by first sent) (plan_of (after input)) tape)
    (fits first input) refl blind.0 (run-seen (sent_by first sent) (after input) tape (blind.1 input))

-- so the run is that over its replies and its views
pub run-apart : (sent : Option Hop) (play : Play) (tape : List Input) → BlindPlay sent play
    → run_play play tape ≡ apart play (replies_on (plan_of play) tape) (views_from sent (plan_of play) tape)
run-apart sent play tape blind =
    run-seen sent play tape blind
    ∙ ap (run_play play) (seen-woven sent (plan_of play) tape (blind-plan sent play blind))

-- and that by items which say what its calls were replied
pub run-by : {A : Type 0} (answer : A → Op → Reply) (sent : Option Hop) (play : Play) (tape : List Input)
    (items : List A) → BlindPlay sent play → ShowsNoCall play
    → SayReplies answer items (calls_in (run_play play tape).events)
    → run_play play tape ≡ run_play play (woven answer (plan_of play) items (views_from sent (plan_of play) tape))
run-by answer sent play tape items blind silent is =
    run-seen sent play tape blind
    ∙ ap (run_play play) (sym (woven-seen answer sent (plan_of play) tape items (blind-plan sent play blind)
    (subst (SayReplies answer items) (calls-shown play tape silent) is)))
