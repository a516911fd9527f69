-- A tape in two lists, the replies of the shared book and what a document may learn of all else, and the tape that is
-- woven of two such lists: of a fetch, and of whatever else acts (this project's own definition).
use Rattle.std.specs.Prelude.{List, [], ◌∷◌, map, Option, None, if◌then◌else◌}
use Rattle.value_requests.specs.declared.hop.Hop.{Hop}
use Rattle.value_requests.specs.declared.request.Request.{Request}
use Rattle.book_calls.specs.declared.op.Op.{Op}
use Rattle.book_calls.specs.declared.op.Reply.{Reply}
use Rattle.fetch_acts.specs.declared.act.Act.{Act}
use Rattle.fetch_acts.specs.declared.act.Act.TheVariants.{Ask}
use Rattle.fetch_acts.specs.declared.act.Input.{Input}
use Rattle.fetch_acts.specs.declared.act.Input.TheVariants.{Replied}
use Rattle.fetch_acts.specs.Process.{Process, Run, act, ended, fits, run}
use Rattle.fetch_laws.specs.Seen.{seen, sent_by}

-- What is done, whatever it shows and comes to: it stops, or it does an act for a request and goes on from the input
-- that comes.
pub data Plan : Type 0 where
  stops : Plan
  does : Request → Act → (Input → Plan) → Plan

-- what a fetch does
abbrev pub plan_of : Process → Plan
plan_of (ended outcome) = stops
plan_of (act request first after) = does request first (λ input. plan_of (after input))

-- ---- a tape in two

-- what is made of a tape whose first item fits the act: of that input, and of the rest of the tape; else nothing
abbrev pub if_fits : {A : Type 0} → Act → (Input → List Input → List A) → List Input → List A
if_fits first make [] = []
if_fits first make (input ∷ tape) = if fits first input then make input tape else []

-- An op that was done on the book, and what the book replied.
pub record Made : Type 0 where
  pub op : Op
  pub reply : Reply

-- the call that an act and its input are, where they are one, and those after it
abbrev pub with_call : Act → Input → List Made → List Made
with_call (Ask op) (Replied reply) rest = record { op = op; reply = reply } ∷ rest
with_call _ _ rest = rest

-- the calls of the book on a tape, as far as its items fit
abbrev pub calls_on : Plan → List Input → List Made
calls_on stops tape = []
calls_on (does request first after) tape =
    if_fits first (λ input rest. with_call first input (calls_on (after input) rest)) tape

-- the replies on a tape
abbrev pub replies_on : Plan → List Input → List Reply
replies_on plan tape = map (λ call. call.reply) (calls_on plan tape)

-- what is seen of an input that is no reply, and of those after it
abbrev pub with_view : Act → Request → Option Hop → Input → List Input → List Input
with_view (Ask op) request sent input rest = rest
with_view first request sent input rest = seen first request sent input ∷ rest

-- what a document may learn of a tape besides the replies: of each head its permitted view, that of the request and the
-- hop which it answers; this hop was sent last
abbrev pub views_from : Option Hop → Plan → List Input → List Input
views_from sent stops tape = []
views_from sent (does request first after) tape =
    if_fits first (λ input rest.
    with_view first request sent input (views_from (sent_by first sent) (after input) rest)) tape

-- the same, where nothing was sent before
abbrev pub views_on : Plan → List Input → List Input
views_on = views_from None

-- ---- a tape of two

-- the tape on which a call takes the next item of one list, which says what its op is replied, and each other act the
-- next of the views; it ends where they do
abbrev pub woven : {A : Type 0} → (A → Op → Reply) → Plan → List A → List Input → List Input
woven answer stops items views = []
woven answer (does request (Ask op) after) [] views = []
woven answer (does request (Ask op) after) (item ∷ items) views =
    let input = Replied (answer item op) in input ∷ woven answer (after input) items views
woven answer (does request first after) items [] = []
woven answer (does request first after) items (input ∷ views) = input ∷ woven answer (after input) items views

-- the tape with these replies
abbrev pub with_replies : Plan → List Reply → List Input → List Input
with_replies = woven (λ reply op. reply)

-- a fetch's run over replies and views
abbrev pub apart : Process → List Reply → List Input → Run
apart whole replies views = run whole (with_replies (plan_of whole) replies views)
