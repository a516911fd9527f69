-- What the delivery of a document's reports comes to in its world.
use Rattle.std.specs.Prelude.{ℕ, List, Result, Ok, Err}
use Rattle.value_bytes.specs.declared.memory.OutOfMemory.{OutOfMemory}
use Rattle.play_definitions.specs.Playing.{RunCut, RunPlayed}
use Rattle.play_definitions.specs.Worlds.{Outside}
use Rattle.script_events.specs.declared.events.Event.{Event}
use Rattle.script_runs.specs.Play.{Play}
use Rattle.fetch_wire.specs.Exchanges.{Answering}
use Rattle.report_delivery.specs.declared.delivery.Delivered.{Delivered}
use Rattle.report_delivery.specs.Reporting.{ending_of}

-- Memory was refused: some events begin what the run shows, and the calls that were made are those on the way.
pub record DeliveryCut {State : Type 0} (by : Answering State) (limit document : ℕ) (whole : Play)
    (old new : Outside State) : Type 0 where
  pub events : List Event
  pub began : RunCut by limit document whole old events new

-- what the delivery came to, by the clock: the run to its ending, or its beginning where memory was refused
abbrev pub Delivers : {State : Type 0} → Answering State → ℕ → ℕ → Play → Outside State → ℕ
    → Result Delivered OutOfMemory → Outside State → Type 0
Delivers by limit document whole old clock (Ok delivered) new =
    RunPlayed by limit document whole old delivered.events (ending_of delivered.ending) clock new
Delivers by limit document whole old clock (Err refused) new = DeliveryCut by limit document whole old new
