-- How far a delivery has come in its world (private contracts).
use Rattle.std.specs.Prelude.{◌≡◌, ℕ, List}
use Rattle.fetch_acts.specs.declared.act.Input.{Input}
use Rattle.play_definitions.specs.Playing.{PlaysOn}
use Rattle.play_definitions.specs.Worlds.{Outside, World, outside_of}
use Rattle.script_events.specs.declared.events.Event.{Event}
use Rattle.script_runs.specs.Play.{Play}
use Rattle.fetch_wire.specs.Exchanges.{Answering, IsIdle}

-- From a world in which nothing is to come, for some tape of the world's answers, the run has shown these events and
-- goes on as this one in this world.
pub record Path {State : Type 0} (by : Answering State) (limit document : ℕ) (whole : Play) (old : Outside State)
    (events : List Event) (rest : Play) (last : World State) : Type 0 where
  pub first : World State
  pub idle : IsIdle first.exchange
  pub from : outside_of first ≡ old
  pub tape : List Input
  pub trace : PlaysOn by limit document whole first tape events rest last

-- so in each world in which nothing is to come and outside of which it is so
abbrev pub HasReached : {State : Type 0} → Answering State → ℕ → ℕ → Play → Outside State → List Event → Play
    → Outside State → Type 0
HasReached {State} by limit document whole old events rest now =
    (last : World State) → IsIdle last.exchange → outside_of last ≡ now
    → Path by limit document whole old events rest last
