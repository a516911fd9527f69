-- The statuses of programs: their numbers, and what a line of complaint is made of.
use Rattle.std.specs.Prelude.{ℕ, ◌++◌, codes, Result, Ok, Err}
use Rattle.value_text.specs.Texts.{Text}
use Rattle.link_traits.specs.declared.sink.WriteFault.{WriteFault}
use Rattle.program_shell.specs.declared.status.Status.{Status}
use Rattle.program_shell.specs.declared.status.Status.TheVariants as status

-- the number that the program ends with
abbrev pub number : {R : Type 0} → Status R → ℕ
number status.Ok = 0
number status.Usage = 1
number (status.Refused reason) = 2
number status.ReadFault = 3
number status.WriteFault = 4
number status.OutOfMemory = 5
number status.InputTooLong = 6
number status.OwnFault = 7

-- the status by what came of writing a text
abbrev pub written_status : {R : Type 0} → Result (Unit {0}) WriteFault → Status R
written_status (Ok _) = status.Ok
written_status (Err _) = status.WriteFault

-- a line: how it begins, what ends it, and LF
abbrev pub line : Text → Text → Text
line head detail = head ++ (detail ++ codes "\n")
