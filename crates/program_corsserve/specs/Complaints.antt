-- The line by which the program tells a verdict to the complaints.
use Rattle.std.specs.Prelude.{[], codes, decimal, Option, Some, None}
use Rattle.value_text.specs.Texts.{Text}
use Rattle.program_shell.specs.Statuses.{line}
use Rattle.program_shell.specs.declared.status.Status.{Status}
use Rattle.program_shell.specs.declared.status.Status.TheVariants as status
use Rattle.server_tables.specs.declared.read.BadLine.{BadLine}

-- none for Ok
abbrev pub complaint : Status BadLine → Option Text
complaint status.Ok = None
complaint status.Usage = Some (line (codes "corsserve: usage: corsserve ADDRESS N") [])
complaint (status.Refused bad) = Some (line (codes "corsserve: table refused at line ") (decimal bad.line))
complaint status.ReadFault = Some (line (codes "corsserve: fault 3") [])
complaint status.WriteFault = Some (line (codes "corsserve: fault 4") [])
complaint status.OutOfMemory = Some (line (codes "corsserve: fault 5") [])
complaint status.InputTooLong = Some (line (codes "corsserve: fault 6") [])
complaint status.OwnFault = Some (line (codes "corsserve: fault 7") [])
