-- What is read of a blind process depends on the replies and on the permitted views alone.
use Rattle.std.proofs.Common.{◌≡◌, Bool, true, false, cond, refl, ap, sym, ◌∙◌, List, [], ◌∷◌, map, Option}
use Rattle.value_requests.specs.declared.hop.Hop.{Hop}
use Rattle.value_requests.specs.declared.request.Request.{Request}
use Rattle.book_calls.specs.declared.op.Op.{Op}
use Rattle.book_calls.specs.declared.op.Reply.{Reply}
use Rattle.fetch_acts.specs.declared.act.Act.{Act}
use Rattle.fetch_acts.specs.declared.act.Act.TheVariants.{Ask, ReadHead}
use Rattle.fetch_acts.specs.declared.act.Input.{Input}
use Rattle.fetch_acts.specs.declared.act.Input.TheVariants.{HeadIs, Replied}
use Rattle.fetch_acts.specs.Process.{Process, act, ended, fits, run}
use Rattle.fetch_acts.specs.Readings.{Reading, before, read, read_on, runs, showing}
use Rattle.fetch_acts.proofs.ReadingLemmas.{run-read}
use Rattle.fetch_laws.specs.Apart.{Made, Plan, apart, calls_on, does, if_fits, plan_of, replies_on, stops}
use Rattle.fetch_laws.specs.Apart.{views_from, with_call, with_replies, with_view, woven}
use Rattle.fetch_laws.specs.Blind.{Blind, GoesBlind, IsBlind, ShowsNoHead}
use Rattle.fetch_laws.specs.Seen.{seen, sent_by}

-- what is seen of an input fits where the input does
pub fits-seen : (first : Act) (request : Request) (sent : Option Hop) (input : Input)
    → fits first (seen first request sent input) ≡ fits first input
fits-seen ReadHead request sent (HeadIs head) = refl
fits-seen ReadHead request sent input = refl
fits-seen first request sent input = refl

-- ---- a tape as it is seen

-- of each input, as far as they fit, what is seen of it
abbrev pub seen_on : Option Hop → Plan → List Input → List Input
seen_on sent stops tape = []
seen_on sent (does request first after) tape =
    if_fits first (λ input rest. seen first request sent input ∷ seen_on (sent_by first sent) (after input) rest) tape

-- a plan that goes on so too
abbrev pub BlindPlan : Option Hop → Plan → Type 0
BlindPlan sent stops = Unit {0}
BlindPlan sent (does request first after) =
    GoesBlind sent request first after × ((input : Input) → BlindPlan (sent_by first sent) (after input))

-- the items say what the calls were replied, one each
abbrev pub SayReplies : {A : Type 0} → (A → Op → Reply) → List A → List Made → Type 0
SayReplies answer [] [] = Unit {0}
SayReplies answer [] (call ∷ calls) = ⊥
SayReplies answer (item ∷ items) [] = ⊥
SayReplies answer (item ∷ items) (call ∷ calls) = (answer item call.op ≡ call.reply) × SayReplies answer items calls

-- replies say themselves
say-themselves : (calls : List Made)
    → SayReplies (λ reply op. reply) (map (λ (call : Made). call.reply) calls) calls
say-themselves [] = tt
say-themselves (call ∷ calls) = (refl, say-themselves calls)

module _ {A : Type 0} (answer : A → Op → Reply) where
  -- where no call was made and nothing else came, nothing is left
  woven-none : (request : Request) (first : Act) (after : Input → Plan) (items : List A) → SayReplies answer items []
      → woven answer (does request first after) items [] ≡ []
  woven-none request (Ask op) after [] is = refl
  woven-none request (Ask op) after (item ∷ items) is = absurd is
  woven-none request first after items is = refl

  module _ (sent : Option Hop) (request : Request) (after : Input → Plan) (calls : List Made) (views tape : List Input)
    where
      -- an input that fits
      woven-item : (first : Act) (input : Input) (items : List A) → fits first input ≡ true
          → after (seen first request sent input) ≡ after input → SayReplies answer items (with_call first input calls)
          → ((later : List A) → SayReplies answer later calls → woven answer (after input) later views ≡ tape)
          → woven answer (does request first after) items (with_view first request sent input views)
          ≡ seen first request sent input ∷ tape
      woven-item (Ask op) (Replied reply) [] fit same is goes = absurd is
      woven-item (Ask op) (Replied reply) (item ∷ items) fit same is goes =
          rw is.0 (ap (λ (rest : List Input). Replied reply ∷ rest) (goes items is.1))
      woven-item (Ask op) input items fit same is goes = absurd (cc)
      woven-item first input items fit same is goes =
          rw same (ap (λ (rest : List Input). seen first request sent input ∷ rest) (goes items is))

      -- by whether it fits
      woven-by : (first : Act) (input : Input) (items : List A) (fit : Bool) → fits first input ≡ fit
          → GoesBlind sent request first after → SayReplies answer items (cond fit (with_call first input calls) [])
          → ((later : List A) → SayReplies answer later calls → woven answer (after input) later views ≡ tape)
          → woven answer (does request first after) items (cond fit (with_view first request sent input views) [])
          ≡ cond fit (seen first request sent input ∷ tape) []
      woven-by first input items true fit blind is goes = woven-item first input items fit (blind input fit) is goes
      woven-by first input items false fit blind is goes = woven-none request first after items is

  -- a tape as it is seen is woven of its views and of what says its replies
  pub woven-seen : (sent : Option Hop) (plan : Plan) (tape : List Input) (items : List A) → BlindPlan sent plan
      → SayReplies answer items (calls_on plan tape)
      → woven answer plan items (views_from sent plan tape) ≡ seen_on sent plan tape
  woven-seen sent stops tape items blind is = refl
  woven-seen sent (does request first after) [] items blind is = woven-none request first after items is
  woven-seen sent (does request first after) (input ∷ tape) items blind is =
      woven-by sent request after (calls_on (after input) tape) (views_from (sent_by first sent) (after input) tape)
      (seen_on (sent_by first sent) (after input) tape) first input items (fits first input) refl blind.0 is
      (λ later given. woven-seen (sent_by first sent) (after input) tape later (blind.1 input) given)

-- so it is woven of its views and its replies
pub seen-woven : (sent : Option Hop) (plan : Plan) (tape : List Input) → BlindPlan sent plan
    → seen_on sent plan tape ≡ with_replies plan (replies_on plan tape) (views_from sent plan tape)
seen-woven sent plan tape blind =
    sym (woven-seen (λ reply op. reply) sent plan tape (replies_on plan tape) blind
    (say-themselves (calls_on plan tape)))

-- ---- fetches

blind-plan : (sent : Option Hop) (process : Process) → Blind sent process → BlindPlan sent (plan_of process)
blind-plan sent (ended outcome) blind = tt
blind-plan sent (act request first after) blind = (
  λ input fit. ap plan_of (blind.0 input fit),
  λ input. blind-plan (sent_by first sent) (after input) (blind.1 input),
)

module _ {R : Type 0} (reading : Reading R) (same_seen : IsBlind reading) where
  read-item : (request : Request) (first : Act) (after : Input → Process) (sent : Option Hop) (input : Input)
      (tape sees : List Input) (fit : Bool) → fits first input ≡ fit → GoesBlind sent request first after
      → read reading (after input) tape ≡ read reading (after input) sees
      → read_on reading first (λ i. read reading (after i)) (input ∷ tape)
      ≡ read_on reading first (λ i. read reading (after i)) (cond fit (seen first request sent input ∷ sees) [])
  read-item request first after sent input tape sees true fit blind reads =
      rw (fits-seen first request sent input, fit)
      (rw (blind input fit, same_seen first request sent input, reads) refl)
  read-item request first after sent input tape sees false fit blind reads = rw fit refl

  -- what is read over a tape is what is read over the tape as it is seen
  read-seen : (sent : Option Hop) (process : Process) (tape : List Input) → Blind sent process
      → read reading process tape ≡ read reading process (seen_on sent (plan_of process) tape)
  read-seen sent (ended outcome) tape blind = refl
  read-seen sent (act request first after) [] blind = refl
  read-seen sent (act request first after) (input ∷ tape) blind =
      ap (reading.begun first)
      (read-item request first after sent input tape (seen_on (sent_by first sent) (plan_of (after input)) tape)
      (fits first input) refl blind.0 (read-seen (sent_by first sent) (after input) tape (blind.1 input)))

  -- so it is what is read over its replies and its views
  pub read-apart : (sent : Option Hop) (process : Process) (tape : List Input) → Blind sent process
      → read reading process tape ≡ read reading process
      (with_replies (plan_of process) (replies_on (plan_of process) tape) (views_from sent (plan_of process) tape))
  read-apart sent process tape blind =
      read-seen sent process tape blind
      ∙ ap (read reading process) (seen-woven sent (plan_of process) tape (blind-plan sent process blind))

  -- and equal replies and equal views give equal readings
  pub read-same : (sent : Option Hop) (process : Process) (tape other : List Input) → Blind sent process
      → replies_on (plan_of process) tape ≡ replies_on (plan_of process) other
      → views_from sent (plan_of process) tape ≡ views_from sent (plan_of process) other
      → read reading process tape ≡ read reading process other
  read-same sent process tape other blind replies views =
      rw (read-apart sent process tape blind, read-apart sent process other blind, replies, views) refl

-- ---- runs, and what is shown

-- a run sees no input
runs-blind : IsBlind runs
runs-blind first request sent input rest = refl

-- nor does what is shown, where no act shows a head
pub shows-blind : {Event : Type 0} → (events_of : Act → Input → List Event) → ShowsNoHead events_of
    → IsBlind (showing events_of)
shows-blind events_of none first request sent input rest =
    ap (λ events. before events rest) (none first request sent input)

-- the run over a tape is that over its two lists
pub run-apart : (sent : Option Hop) (process : Process) (tape : List Input) → Blind sent process
    → run process tape
    ≡ apart process (replies_on (plan_of process) tape) (views_from sent (plan_of process) tape)
run-apart sent process tape blind =
    let plan = plan_of process in
    run-read process tape ∙ read-apart runs runs-blind sent process tape blind
    ∙ sym (run-read process (with_replies plan (replies_on plan tape) (views_from sent plan tape)))

-- so equal replies and equal views give equal runs
pub run-same : (sent : Option Hop) (process : Process) (tape other : List Input) → Blind sent process
    → replies_on (plan_of process) tape ≡ replies_on (plan_of process) other
    → views_from sent (plan_of process) tape ≡ views_from sent (plan_of process) other
    → run process tape ≡ run process other
run-same sent process tape other blind replies views =
    run-read process tape ∙ read-same runs runs-blind sent process tape other blind replies views
    ∙ sym (run-read process other)
