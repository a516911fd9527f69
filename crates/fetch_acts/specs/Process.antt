-- A fetch as a tree of acts: what is done next, and how it goes on from each input that comes
-- (Fetch, section 4, where the algorithm waits for the network or the shared book).
use Rattle.std.specs.Prelude.{Bool, true, false, not, List, [], ◌∷◌, Option, Some, None, if◌then◌else◌}
use Rattle.book_calls.specs.declared.op.Op.{Op}
use Rattle.book_calls.specs.declared.op.Reply.{Reply}
use Rattle.book_calls.specs.Ops.{is_answer, is_question}
use Rattle.value_requests.specs.declared.request.Request.{Request}
use Rattle.value_requests.specs.declared.response.Outcome.{Outcome}
use Rattle.value_requests.specs.Targets.{IsSendable}
use Rattle.fetch_acts.specs.declared.act.Act.{Act}
use Rattle.fetch_acts.specs.declared.act.Act.TheVariants.{Ask, Send, ReadHead, ReadBody, Tell}
use Rattle.fetch_acts.specs.declared.act.Input.{Input}
use Rattle.fetch_acts.specs.declared.act.Input.TheVariants.{Replied, Sent, HeadIs, HeadBad, HeadLong, BodyIs, Fault}
use Rattle.fetch_acts.specs.declared.act.Input.TheVariants.{Told}

-- It has ended with an outcome, or it acts for a request, which is kept as it is then, and goes on from the input that
-- comes.
pub data Process : Type 0 where
  ended : Outcome → Process
  act : Request → Act → (Input → Process) → Process

-- the reply is of the op's kind: yes or no to a question, and done to another op
abbrev pub is_reply_to : Op → Reply → Bool
is_reply_to op reply = if is_question op then is_answer reply else not (is_answer reply)

-- the input may follow the act
abbrev pub fits : Act → Input → Bool
fits (Ask op) (Replied reply) = is_reply_to op reply
fits (Send hop) Sent = true
fits (Send hop) Fault = true
fits ReadHead (HeadIs head) = true
fits ReadHead HeadBad = true
fits ReadHead HeadLong = true
fits ReadHead Fault = true
fits ReadBody (BodyIs end) = true
fits (Tell violation) Told = true
fits _ _ = false

-- what is sent has no space in its method and its target
abbrev pub IsPlain : Act → Type 0
IsPlain (Send hop) = IsSendable hop
IsPlain _ = Unit {0}

-- What a run has done, and its outcome where it came to one.
pub record Run : Type 0 where
  pub acts : List Act
  pub outcome : Option Outcome

-- the act, and then what the rest did
abbrev pub began : Act → Run → Run
began first rest = record { acts = first ∷ rest.acts; outcome = rest.outcome }

-- nothing was done
abbrev pub nothing : Run
nothing = record { acts = []; outcome = None }

-- what follows an act over a tape: nothing where the tape ends or its first item does not fit
abbrev pub followed : Act → (Input → List Input → Run) → List Input → Run
followed first after [] = nothing
followed first after (input ∷ tape) = if fits first input then after input tape else nothing

-- the process over a tape, as far as the tape goes and its items fit
abbrev pub run : Process → List Input → Run
run (ended outcome) tape = record { acts = []; outcome = Some outcome }
run (act request first after) tape = began first (followed first (λ input. run (after input)) tape)
