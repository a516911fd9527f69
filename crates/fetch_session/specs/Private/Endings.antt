-- What a reader comes to where the answer ends, or the connection fails.
use Rattle.std.specs.Prelude.{◌≡◌}
use Rattle.fetch_acts.specs.declared.act.Input.{Input}
use Rattle.fetch_acts.specs.declared.act.Input.TheVariants.{BodyIs, Fault, HeadBad}
use Rattle.link_http1.specs.Bodies.{body_end}
use Rattle.fetch_session.specs.Feeding.{FailsReading}
use Rattle.fetch_session.specs.declared.reading.Reader.{Reader}
use Rattle.fetch_session.specs.declared.reading.Reader.TheVariants.{Body}

-- where the answer ends
abbrev pub end_of_reader : Reader → Input
end_of_reader (Body reading) = BodyIs (body_end reading.framing reading.limit reading.bytes)
end_of_reader _ = HeadBad

-- where the connection fails
abbrev pub FailsReader : Reader → Input → Type 0
FailsReader (Body reading) input = FailsReading reading.framing reading.limit reading.bytes input
FailsReader _ input = input ≡ Fault
