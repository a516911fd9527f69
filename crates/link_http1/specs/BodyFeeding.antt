-- What a piece comes to that is fed to a reader of a body, after all bytes so far.
use Rattle.std.specs.Prelude.{◌≡◌, ◌++◌}
use Rattle.value_text.specs.Texts.{Text}
use Rattle.link_http1.specs.Bodies.{IsDecided, IsOpen}
use Rattle.link_http1.specs.BodyReading.{BodyReading}
use Rattle.link_http1.specs.declared.body.BodyStep.{BodyStep}
use Rattle.link_http1.specs.declared.body.BodyStep.TheVariants as step

-- the bytes decide the body, or they do not and the reader has them
abbrev pub IsFed : BodyReading → Text → BodyStep → Type 0
IsFed reading piece (step.Over end) = IsDecided reading.framing reading.limit (reading.bytes ++ piece) end
IsFed reading piece (step.More reader) =
    (reader ≡ record reading { bytes = reading.bytes ++ piece })
    × IsOpen reading.framing reading.limit (reading.bytes ++ piece)
