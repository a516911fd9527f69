-- Why a text was not printed whole (the output of `fetchplay play`).
use Rattle.link_traits.specs.declared.sink.WriteFault.{WriteFault}
use Rattle.link_traits.specs.declared.sink.WriteFault.TheVariants as write
use Rattle.play_text.specs.declared.failure.Failure.{Failure}
use Rattle.play_text.specs.declared.failure.Failure.TheVariants as failure

-- the failure by which a write failed
abbrev pub failure_of : WriteFault → Failure
failure_of write.Fault = failure.Fault
failure_of write.TookNothing = failure.TookNothing
