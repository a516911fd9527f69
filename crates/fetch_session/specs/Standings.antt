-- Where a whole fetch stands between two calls, and where an input takes it.
use Rattle.std.specs.Prelude.{Bool, false, [], Option, Some, None}
use Rattle.value_text.specs.Texts.{Text}
use Rattle.fetch_acts.specs.Process.{Process, act, ended, fits}
use Rattle.fetch_acts.specs.declared.act.Act.{Act}
use Rattle.fetch_acts.specs.declared.act.Input.{Input}
use Rattle.value_requests.specs.declared.response.Outcome.{Outcome}
use Rattle.fetch_session.specs.Readers.{bodies_after}
use Rattle.fetch_session.specs.declared.reading.Bodies.{Bodies}

-- What is left of the fetch, as a process; all bytes that came so far of the head or the body that its act reads; and
-- how bodies are read.
pub record Standing : Type 0 where
  pub process : Process
  pub read : Text
  pub bodies : Bodies

-- nothing is read yet
abbrev pub begun : Process → Bodies → Standing
begun process bodies = record { process = process; read = []; bodies = bodies }

-- what a process does first, unless it is over
abbrev pub first_act : Process → Option Act
first_act (ended outcome) = None
first_act (act request first after) = Some first

-- the outcome of a process that is over
abbrev pub outcome_at : Process → Option Outcome
outcome_at (ended outcome) = Some outcome
outcome_at (act request first after) = None

-- how a process goes on from an input
abbrev pub branch : Process → Input → Process
branch (ended outcome) input = ended outcome
branch (act request first after) input = after input

-- the input may follow what is done first
abbrev pub fits_act : Option Act → Input → Bool
fits_act None input = false
fits_act (Some first) input = fits first input

-- once an input came the fetch stands at its branch, where nothing is read yet
abbrev pub gone_on : Standing → Input → Standing
gone_on standing input = begun (branch standing.process input) (bodies_after standing.bodies input)
