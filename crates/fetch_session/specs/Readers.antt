-- What reads the bytes that an act awaits.
use Rattle.std.specs.Prelude.{Bool, true, false, []}
use Rattle.fetch_acts.specs.declared.act.Act.{Act}
use Rattle.fetch_acts.specs.declared.act.Act.TheVariants as act
use Rattle.fetch_acts.specs.declared.act.Input.{Input}
use Rattle.fetch_acts.specs.declared.act.Input.TheVariants.{HeadIs}
use Rattle.link_http1.specs.Framings.{framing_of}
use Rattle.fetch_session.specs.declared.reading.Bodies.{Bodies}
use Rattle.fetch_session.specs.declared.reading.Reader.{Reader}
use Rattle.fetch_session.specs.declared.reading.Reader.TheVariants.{Idle, Head, Body}

-- the reader of what an act awaits, before any byte
abbrev pub reader_for : Act → Bodies → Reader
reader_for (act.Ask op) bodies = Idle
reader_for (act.Send hop) bodies = Idle
reader_for act.ReadHead bodies = Head []
reader_for act.ReadBody bodies = Body (record { framing = bodies.framing; limit = bodies.limit; bytes = [] })
reader_for (act.Tell violation) bodies = Idle

-- the reader reads what the act awaits
abbrev pub suits : Act → Reader → Bool
suits act.ReadHead (Head _) = true
suits act.ReadBody (Body _) = true
suits (act.Ask _) Idle = true
suits (act.Send _) Idle = true
suits (act.Tell _) Idle = true
suits _ _ = false

-- behind a head the body is framed as that tells
abbrev pub bodies_after : Bodies → Input → Bodies
bodies_after bodies (HeadIs head) = record bodies { framing = framing_of head }
bodies_after bodies _ = bodies

-- how a reader reads bodies, which are else read so
abbrev pub bodies_read : Reader → Bodies → Bodies
bodies_read Idle bodies = bodies
bodies_read (Head bytes) bodies = bodies
bodies_read (Body reading) bodies = record { framing = reading.framing; limit = reading.limit }
