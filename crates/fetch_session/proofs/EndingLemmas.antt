-- What a reader comes to where the connection fails is what the act that it reads for comes to.
use Rattle.std.proofs.Common.{◌≡◌, ◌∙◌, ℕ, List, [], ap, inl, inr, refl, subst, sym}
use Rattle.std.proofs.lemmas.List.{append-nil}
use Rattle.std.specs.Prelude.{IsTrue, Some}
use Rattle.link_http1.specs.Bodies.{IsDecided, IsOpen, body_end}
use Rattle.link_http1.specs.BodyFeeding.{IsFed}
use Rattle.link_http1.specs.BodyReading.{BodyReading}
use Rattle.link_http1.specs.declared.body.BodyStep.TheVariants.{More, Over}
use Rattle.fetch_acts.specs.declared.act.Input.TheVariants.{BodyIs}
use Rattle.value_requests.specs.declared.response.BodyEnd.{BodyEnd}
use Rattle.value_requests.specs.declared.response.BodyEnd.TheVariants as end
use Rattle.fetch_acts.specs.declared.act.Act.{Act}
use Rattle.fetch_acts.specs.declared.act.Act.TheVariants as acts
use Rattle.fetch_acts.specs.declared.act.Input.{Input}
use Rattle.fetch_machine.specs.declared.place.Fetching.{Fetching}
use Rattle.fetch_session.specs.Feeding.{FailsAt, FailsReading, count_of}
use Rattle.fetch_session.specs.Private.Endings.{FailsReader}
use Rattle.fetch_session.specs.Readers.{bodies_read, suits}
use Rattle.fetch_session.specs.Sessions.{bytes_of, stands_at}
use Rattle.fetch_session.specs.declared.document.Document.{Document}
use Rattle.fetch_session.specs.declared.reading.Bodies.{Bodies}
use Rattle.fetch_session.specs.declared.reading.Reader.{Reader}
use Rattle.fetch_session.specs.declared.reading.Reader.TheVariants.{Idle, Head, Body}

pub fault_suits : (document : Document) (fetching : Fetching) (first : Act) (reader : Reader) (bodies : Bodies)
    (input : Input) → IsTrue (suits first reader) → bodies_read reader bodies ≡ bodies → FailsReader reader input
    → FailsAt (Some first) (stands_at document fetching first (bytes_of reader) bodies) input
fault_suits document fetching (acts.Ask op) Idle bodies input suited framed fails = fails
fault_suits document fetching (acts.Ask op) (Head bytes) bodies input suited framed fails = cc
fault_suits document fetching (acts.Ask op) (Body reading) bodies input suited framed fails = cc
fault_suits document fetching (acts.Send hop) Idle bodies input suited framed fails = fails
fault_suits document fetching (acts.Send hop) (Head bytes) bodies input suited framed fails = cc
fault_suits document fetching (acts.Send hop) (Body reading) bodies input suited framed fails = cc
fault_suits document fetching acts.ReadHead Idle bodies input suited framed fails = cc
fault_suits document fetching acts.ReadHead (Head bytes) bodies input suited framed fails = fails
fault_suits document fetching acts.ReadHead (Body reading) bodies input suited framed fails = cc
fault_suits document fetching acts.ReadBody Idle bodies input suited framed fails = cc
fault_suits document fetching acts.ReadBody (Head bytes) bodies input suited framed fails = cc
fault_suits document fetching acts.ReadBody (Body reading) bodies input suited framed fails =
    let e : record { framing = reading.framing; limit = reading.limit } ≡ bodies = framed in
    subst (λ (b : Bodies). FailsReading b.framing b.limit reading.bytes input) e fails
fault_suits document fetching (acts.Tell violation) Idle bodies input suited framed fails = fails
fault_suits document fetching (acts.Tell violation) (Head bytes) bodies input suited framed fails = cc
fault_suits document fetching (acts.Tell violation) (Body reading) bodies input suited framed fails = cc

-- ---- an empty piece tells whether the bytes so far decide a body

pub fails_open : (reading next : BodyReading) (last : BodyEnd) (count : ℕ) → IsFed reading [] (More next)
    → last ≡ body_end next.framing next.limit next.bytes → count ≡ count_of last
    → FailsReading reading.framing reading.limit reading.bytes (BodyIs (end.Fault count))
fails_open reading next last count fed finished counted =
    let same : next ≡ reading =
    fed.0 ∙ ap (λ (b : List ℕ). record reading { bytes = b }) (append-nil reading.bytes) in
    inr (
      subst (IsOpen reading.framing reading.limit) (append-nil reading.bytes) fed.1,
      ap (λ (n : ℕ). BodyIs (end.Fault n)) (counted ∙ ap count_of (finished
          ∙ ap (λ (r : BodyReading). body_end r.framing r.limit r.bytes) same)),
    )

pub fails_decided : (reading : BodyReading) (last : BodyEnd) → IsFed reading [] (Over last)
    → FailsReading reading.framing reading.limit reading.bytes (BodyIs last)
fails_decided reading last fed = inl (
  last,
  subst (λ (b : List ℕ). IsDecided reading.framing reading.limit b last) (append-nil reading.bytes) fed,
  refl,
)
