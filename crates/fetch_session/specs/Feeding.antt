-- What bytes of an answer come to for a fetch that reads them, and what the end of the answer and a failure do.
use Rattle.std.specs.Prelude.{◌≡◌, ◌⊎◌, ℕ, ◌-◌, ◌^◌, Bool, true, false, length, min, Option, Some, None}
use Rattle.value_text.specs.Texts.{Text}
use Rattle.fetch_acts.specs.declared.act.Act.{Act}
use Rattle.fetch_acts.specs.declared.act.Act.TheVariants.{ReadBody, ReadHead, Send}
use Rattle.fetch_acts.specs.declared.act.Input.{Input}
use Rattle.fetch_acts.specs.declared.act.Input.TheVariants.{BodyIs, Fault, HeadBad, HeadIs, HeadLong}
use Rattle.link_http1.specs.Bodies.{IsDecided, IsOpen, body_end}
use Rattle.link_http1.specs.BodyFeeding as bodies
use Rattle.link_http1.specs.BodyReading.{BodyReading}
use Rattle.link_http1.specs.HeadFeeding as heads
use Rattle.link_http1.specs.declared.body.BodyStep.{BodyStep}
use Rattle.link_http1.specs.declared.body.BodyStep.TheVariants as body
use Rattle.link_http1.specs.declared.framing.Framing.{Framing}
use Rattle.link_http1.specs.declared.head.HeadStep.{HeadStep}
use Rattle.link_http1.specs.declared.head.HeadStep.TheVariants as head
use Rattle.value_requests.specs.declared.response.BodyEnd.{BodyEnd}
use Rattle.value_requests.specs.declared.response.BodyEnd.TheVariants as end
use Rattle.fetch_session.specs.Sessions.{Goes, act_of}
use Rattle.fetch_session.specs.Standings.{Standing, first_act, gone_on}
use Rattle.fetch_session.specs.declared.session.Went.{Went}
use Rattle.fetch_session.specs.declared.session.Went.TheVariants as went

-- ---- which acts read, and which may fail

-- bytes of an answer are read
abbrev pub reads_bytes : Option Act → Bool
reads_bytes (Some ReadHead) = true
reads_bytes (Some ReadBody) = true
reads_bytes _ = false

abbrev pub reads : Option Standing → Bool
reads standing = reads_bytes (act_of standing)

-- a connection is used
abbrev pub uses_link : Option Act → Bool
uses_link (Some (Send hop)) = true
uses_link (Some ReadHead) = true
uses_link (Some ReadBody) = true
uses_link _ = false

abbrev pub may_fail : Option Standing → Bool
may_fail standing = uses_link (act_of standing)

-- ---- pieces

-- What a piece of so many bytes of a head came to, of which so many were read: the head is open, or the fetch goes on
-- from it.
abbrev pub HeadGoes : Standing → ℕ → HeadStep → ℕ → Option Standing → Type 0
HeadGoes standing len (head.More bytes) used next = (used ≡ len) × (next ≡ Some (record standing { read = bytes }))
HeadGoes standing len (head.Final final n) used next = (used ≡ n) × (next ≡ Some (gone_on standing (HeadIs final)))
HeadGoes standing len head.Bad used next = (used ≡ len) × (next ≡ Some (gone_on standing HeadBad))
HeadGoes standing len head.TooBig used next = (used ≡ len) × (next ≡ Some (gone_on standing HeadLong))

-- What a piece of a body came to: the body is open, or the fetch goes on from its end.
abbrev pub BodyGoes : Standing → BodyStep → Option Standing → Type 0
BodyGoes standing (body.More reading) next = next ≡ Some (record standing { read = reading.bytes })
BodyGoes standing (body.Over end) next = next ≡ Some (gone_on standing (BodyIs end))

-- the reading of a body, where the fetch stands
abbrev pub reading_at : Standing → BodyReading
reading_at standing =
    record { framing = standing.bodies.framing; limit = standing.bodies.limit; bytes = standing.read }

-- A piece behind all bytes so far comes to what the reader of heads, or of bodies, says of them all.
abbrev pub FedHead : Standing → Text → ℕ → Option Standing → Type 0
FedHead standing piece used next =
    (step : HeadStep) × heads.IsFed standing.read piece step × HeadGoes standing (length piece) step used next

abbrev pub FedBody : Standing → Text → ℕ → Option Standing → Type 0
FedBody standing piece used next =
    (used ≡ length piece)
    × ((step : BodyStep) × bodies.IsFed (reading_at standing) piece step × BodyGoes standing step next)

abbrev pub FedAt : Option Act → Standing → Text → ℕ → Option Standing → Type 0
FedAt (Some ReadHead) standing piece used next = FedHead standing piece used next
FedAt (Some ReadBody) standing piece used next = FedBody standing piece used next
FedAt _ standing piece used next = ⊥

abbrev pub Feeds : Option Standing → Text → ℕ → Option Standing → Type 0
Feeds (Some standing) piece used next = FedAt (first_act standing.process) standing piece used next
Feeds None piece used next = ⊥

-- the piece was read as far as that, or no bytes are awaited, or memory was refused and the fetch is gone
abbrev pub Fed : Text → Option Standing → Went → ℕ → Option Standing → Type 0
Fed piece old went.On used next = (reads old ≡ true) × Feeds old piece used next
Fed piece old went.NotAwaited used next = (reads old ≡ false) × (used ≡ 0) × (next ≡ old)
Fed piece old went.OutOfMemory used next = (reads old ≡ true) × (used ≡ 0) × (next ≡ None)

-- ---- the end of the answer, and failures

-- the end of a body whose answer ends here
abbrev pub end_here : Standing → BodyEnd
end_here standing = body_end standing.bodies.framing standing.bodies.limit standing.read

-- what it comes to where the answer ends here: a head that is open is none
abbrev pub at_end : Option Act → Standing → Input
at_end (Some ReadBody) standing = BodyIs (end_here standing)
at_end _ standing = HeadBad

-- how many bytes a body had that came to this end
abbrev pub count_of : BodyEnd → ℕ
count_of (end.Cut count) = count
count_of (end.Whole bytes) = min (length bytes) (2 ^ 32 - 1)
count_of _ = 0

-- What a failure comes to while a body is read of which these bytes came: the end that they decide; or they decide
-- none, and the body broke off after as many bytes as it would have, had the answer ended there.
abbrev pub FailsReading : Framing → ℕ → Text → Input → Type 0
FailsReading how limit bytes input =
    ((last : BodyEnd) × IsDecided how limit bytes last × (input ≡ BodyIs last))
    ⊎ (IsOpen how limit bytes × (input ≡ BodyIs (end.Fault (count_of (body_end how limit bytes)))))

-- what it comes to where the connection fails here
abbrev pub FailsAt : Option Act → Standing → Input → Type 0
FailsAt (Some ReadBody) standing input =
    FailsReading standing.bodies.framing standing.bodies.limit standing.read input
FailsAt _ standing input = input ≡ Fault

-- the fetch goes on from such an input
abbrev pub FailsTo : Option Standing → Option Standing → Type 0
FailsTo (Some standing) next =
    (input : Input) × FailsAt (first_act standing.process) standing input × (next ≡ Some (gone_on standing input))
FailsTo None next = ⊥

-- how a call went that tells of the end of the answer, where one is read
abbrev pub Ends : Option Standing → Went → Option Standing → Type 0
Ends = Goes reads (λ standing. at_end (first_act standing.process) standing)

-- How a call went that tells of a failure of the connection: the fetch goes on, where one is used; or nothing is
-- changed where none is; or memory was refused, and the fetch is gone.
abbrev pub Fails : Option Standing → Went → Option Standing → Type 0
Fails old went.On next = (may_fail old ≡ true) × FailsTo old next
Fails old went.NotAwaited next = (may_fail old ≡ false) × (next ≡ old)
Fails old went.OutOfMemory next = (may_fail old ≡ true) × (next ≡ None)
