-- The statuses of the program: the line that tells one to the complaints, and the one by what came of writing.
use Rattle.std.specs.Prelude.{[], codes, Option, Some, None, Result, Ok, Err}
use Rattle.value_text.specs.Texts.{Text}
use Rattle.play_text.specs.declared.failure.Failure.{Failure}
use Rattle.play_text.specs.declared.failure.Failure.TheVariants as failure
use Rattle.program_shell.specs.Statuses.{line}
use Rattle.program_shell.specs.declared.status.Status.{Status}
use Rattle.program_shell.specs.declared.status.Status.TheVariants as status
use Rattle.script_reading.specs.declared.place.Place.{Place}

-- the line of a verdict: what is wrong, and the place of a scenario that is refused; none for Ok, and the program has
-- no fault of its own
abbrev pub complaint : Status Place → Option Text
complaint status.Ok = None
complaint status.Usage = Some (line (codes "fetchplay: usage: fetchplay play | net | gen N") [])
complaint (status.Refused place) = Some (line (codes "fetchplay: scenario refused at ") place.text)
complaint status.ReadFault = Some (line (codes "fetchplay: reading failed") [])
complaint status.WriteFault = Some (line (codes "fetchplay: writing failed") [])
complaint status.OutOfMemory = Some (line (codes "fetchplay: out of memory") [])
complaint status.InputTooLong = Some (line (codes "fetchplay: input longer than 4194304 bytes") [])
complaint status.OwnFault = None

-- the status by what came of writing a text
abbrev pub written_status : Result (Unit {0}) Failure → Status Place
written_status (Ok _) = status.Ok
written_status (Err failure.OutOfMemory) = status.OutOfMemory
written_status (Err failure.Fault) = status.WriteFault
written_status (Err failure.TookNothing) = status.WriteFault
