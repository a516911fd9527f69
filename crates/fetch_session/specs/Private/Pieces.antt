-- How a call went that brings a piece to a reader.
use Rattle.std.specs.Prelude.{◌≡◌, ℕ, Option, None}
use Rattle.value_text.specs.Texts.{Text}
use Rattle.fetch_acts.specs.declared.act.Act.{Act}
use Rattle.fetch_session.specs.Feeding.{FedAt, FedBody, FedHead}
use Rattle.fetch_session.specs.Standings.{Standing}
use Rattle.fetch_session.specs.declared.feeding.Fed.{Fed}
use Rattle.fetch_session.specs.declared.session.Went.{Went}
use Rattle.fetch_session.specs.declared.session.Went.TheVariants as went

-- how many bytes of a piece were read, by how the call went
abbrev pub fed_so : Went → ℕ → Fed
fed_so went.On used = record { went = went.On; used = used }
fed_so went.NotAwaited used = record { went = went.NotAwaited; used = 0 }
fed_so went.OutOfMemory used = record { went = went.OutOfMemory; used = 0 }

-- the piece of a head was read, or memory was refused and the fetch is gone
abbrev pub HeadCame : Standing → Text → Went → ℕ → Option Standing → Type 0
HeadCame standing piece went.On used next = FedHead standing piece used next
HeadCame standing piece went.NotAwaited used next = ⊥
HeadCame standing piece went.OutOfMemory used next = (used ≡ 0) × (next ≡ None)

-- the same of a body
abbrev pub BodyCame : Standing → Text → Went → ℕ → Option Standing → Type 0
BodyCame standing piece went.On used next = FedBody standing piece used next
BodyCame standing piece went.NotAwaited used next = ⊥
BodyCame standing piece went.OutOfMemory used next = (used ≡ 0) × (next ≡ None)

-- the same of what the act reads
abbrev pub Came : Option Act → Standing → Text → Went → ℕ → Option Standing → Type 0
Came first standing piece went.On used next = FedAt first standing piece used next
Came first standing piece went.NotAwaited used next = ⊥
Came first standing piece went.OutOfMemory used next = (used ≡ 0) × (next ≡ None)
