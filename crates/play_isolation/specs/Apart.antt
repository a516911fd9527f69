-- A document's run over the replies of the shared book and what the document may learn of all else (this project's own
-- definition; Fetch, section 4, where a fetch waits for an answer).
use Rattle.std.specs.Prelude.{List}
use Rattle.book_calls.specs.declared.op.Reply.{Reply}
use Rattle.fetch_acts.specs.declared.act.Input.{Input}
use Rattle.script_runs.specs.Play.{Play, PlayRun, over, emit, step, run_play}
use Rattle.fetch_laws.specs.Apart.{Plan, does, stops, with_replies}

-- what a run does
abbrev pub plan_of : Play → Plan
plan_of (over ending clock) = stops
plan_of (emit event rest) = plan_of rest
plan_of (step request first after) = does request first (λ input. plan_of (after input))

-- a run over replies and views
abbrev pub apart : Play → List Reply → List Input → PlayRun
apart whole replies views = run_play whole (with_replies (plan_of whole) replies views)
