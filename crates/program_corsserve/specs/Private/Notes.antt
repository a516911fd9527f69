-- What comes of writing the line of a connection.
use Rattle.std.specs.Prelude.{◌≡◌}
use Rattle.link_traits.specs.Sinks.{FailedOnce, NeverFailed, SinkTold, Took, TookPart}
use Rattle.server_tables.specs.declared.serving.Served.{Served}
use Rattle.server_tables.specs.declared.serving.Served.TheVariants as served
use Rattle.program_corsserve.specs.Connections.{line_of}
use Rattle.program_shell.specs.declared.status.Status.{Status}
use Rattle.program_shell.specs.declared.status.Status.TheVariants as status
use Rattle.server_tables.specs.declared.read.BadLine.{BadLine}

-- the line was written whole
pub record HasWritten (old new : SinkTold) (served : Served) : Type 0 where
  pub took : Took old.taken new.taken (line_of served)
  pub whole : NeverFailed old new

-- a part of it was written
pub record HasFailed (old new : SinkTold) (served : Served) : Type 0 where
  pub took : TookPart old.taken new.taken (line_of served)
  pub failed : FailedOnce old new

abbrev pub IsWritten : SinkTold → SinkTold → Served → Status BadLine → Type 0
IsWritten old new served status.Ok = HasWritten old new served
IsWritten old new served status.WriteFault = HasFailed old new served
IsWritten old new served _ = ⊥

-- the line was written, where there is one
abbrev pub IsNoted : SinkTold → SinkTold → Served → Status BadLine → Type 0
IsNoted old new served.OutOfMemory verdict = (verdict ≡ status.OutOfMemory) × (new ≡ old)
IsNoted old new served verdict = IsWritten old new served verdict
