-- The statuses of the program: the line that tells one to the complaints, and the one by what came of writing.
use Rattle.std.specs.Prelude.{[], codes, Option, Some, None, Result, Ok, Err}
use Rattle.value_text.specs.Texts.{Text}
use Rattle.play_text.specs.declared.failure.Failure.{Failure}
use Rattle.play_text.specs.declared.failure.Failure.TheVariants as failure
use Rattle.program_shell.specs.Statuses.{line}
use Rattle.program_shell.specs.declared.status.Status.{Status}
use Rattle.program_shell.specs.declared.status.Status.TheVariants as status
use Rattle.script_reading.specs.declared.place.Place.{Place}

-- the line of a verdict: the number of the fault, and the place of a scenario that is refused; none for Ok, and the
-- program has no fault of its own
abbrev pub complaint : Status Place → Option Text
complaint status.Ok = None
complaint status.Usage = Some (line (codes "cspreport: fault 1") [])
complaint (status.Refused place) = Some (line (codes "cspreport: fault 2 at ") place.text)
complaint status.ReadFault = Some (line (codes "cspreport: fault 3") [])
complaint status.WriteFault = Some (line (codes "cspreport: fault 4") [])
complaint status.OutOfMemory = Some (line (codes "cspreport: fault 5") [])
complaint status.InputTooLong = Some (line (codes "cspreport: fault 6") [])
complaint status.OwnFault = None

-- the status by what came of writing a text
abbrev pub written_status : Result (Unit {0}) Failure → Status Place
written_status (Ok _) = status.Ok
written_status (Err failure.OutOfMemory) = status.OutOfMemory
written_status (Err failure.Fault) = status.WriteFault
written_status (Err failure.TookNothing) = status.WriteFault
