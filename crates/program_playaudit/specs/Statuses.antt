-- The statuses: the line that each verdict writes to the output, and the line that each status writes to the
-- complaints.
use Rattle.std.specs.Prelude.{ℕ, List, [], ◌++◌, codes, decimal, Option, Some, None}
use Rattle.audit_verdict.specs.declared.verdict.Verdict.{Verdict}
use Rattle.audit_verdict.specs.declared.verdict.Verdict.TheVariants as verdict
use Rattle.program_shell.specs.Statuses.{line}
use Rattle.program_shell.specs.declared.status.Status.{Status}
use Rattle.program_shell.specs.declared.status.Status.TheVariants as status

-- ---- verdicts

-- a name, a space and a value
abbrev pub named : List ℕ → List ℕ → List ℕ
named name value = name ++ (codes " " ++ value)

-- the name of a verdict other than Play, and its value
abbrev pub verdict_text : Verdict → List ℕ
verdict_text verdict.Play = []
verdict_text (verdict.Scenario place) = named (codes "Scenario") place.text
verdict_text (verdict.History number) = named (codes "History") (decimal number)
verdict_text (verdict.Illegal index) = named (codes "Illegal") (decimal index)
verdict_text (verdict.Stranger index) = named (codes "Stranger") (decimal index)
verdict_text (verdict.Calls number) = named (codes "Calls") (decimal number)
verdict_text (verdict.Text offset) = named (codes "Text") (decimal offset)

-- the line of a verdict
abbrev pub verdict_line : Verdict → List ℕ
verdict_line verdict.Play = codes "play\n"
verdict_line other = codes "not a play: " ++ (verdict_text other ++ codes "\n")

-- what the program comes to by a verdict, once its line was written
abbrev pub status_of : Verdict → Status Verdict
status_of verdict.Play = status.Ok
status_of other = status.Refused other

-- ---- complaints

-- the line on the complaints; none for Ok and for a verdict
abbrev pub complaint : Status Verdict → Option (List ℕ)
complaint status.Ok = None
complaint (status.Refused one) = None
complaint status.Usage = Some (line (codes "playaudit: fault 1") [])
complaint status.ReadFault = Some (line (codes "playaudit: fault 3") [])
complaint status.WriteFault = Some (line (codes "playaudit: fault 4") [])
complaint status.OutOfMemory = Some (line (codes "playaudit: fault 5") [])
complaint status.InputTooLong = Some (line (codes "playaudit: fault 6") [])
complaint status.OwnFault = Some (line (codes "playaudit: fault 7") [])
