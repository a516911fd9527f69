-- What decides a body, and what does not.
use Rattle.std.proofs.Common.{arith, inl, inr, ◌≡◌, ◌≢◌, ◌≤◌, ◌<◌, ◌⊎◌, ◌+◌, ◌*◌, ℕ, zero, suc, List, [], ◌∷◌, ◌++◌}
use Rattle.std.proofs.Common.{take, length, refl, sym, ap, subst, ◌∙◌, Bool, true, false, nat_le, append_assoc}
use Rattle.std.proofs.Common.{length-append, if◌then◌else◌}
use Rattle.std.proofs.lemmas.Bool.Decides.{leb_tells}
use Rattle.std.proofs.lemmas.List.{append-nil}
use Rattle.value_requests.specs.declared.response.BodyEnd.{BodyEnd}
use Rattle.value_requests.specs.declared.response.BodyEnd.TheVariants.{Whole, Cut, TooBig}
use Rattle.link_http1.specs.Bodies.{ended, body_end, IsOpen}
use Rattle.link_http1.specs.Private.BodyPlaces.{Comes, most_held, IsKept, IsOn, IsReading, IsWaiting, rest_end}
use Rattle.link_http1.specs.BodyReading.{BodyReading}
use Rattle.link_http1.specs.Chunks.{Decoded}
use Rattle.link_http1.specs.Private.Places.{decoded_at}
use Rattle.link_http1.specs.declared.framing.Framing.{Framing}
use Rattle.link_http1.specs.declared.framing.Framing.TheVariants.{Nothing, Chunked, Length, ToEnd, Broken}
use Rattle.link_http1.specs.declared.place.Place.{Place}
use Rattle.link_http1.specs.declared.place.Place.TheVariants.{Size, Blanks, Extension, LineEnd, Data, DataEnd, Trailers}
use Rattle.link_http1.specs.declared.place.Place.TheVariants.{Trailer, TrailerEnd, LastEnd}
use Rattle.link_http1.specs.declared.taking.Found.{Found}
use Rattle.link_http1.specs.declared.taking.Found.TheVariants.{Open}
use Rattle.link_http1.proofs.ChunkLemmas.{data-byte, decoded-chunks, fails_eq}

-- ---- ends are told apart

-- how far an end goes: by the bytes of the body, and then by whether they are all
abbrev reach : ℕ → BodyEnd → ℕ
reach limit (Whole bytes) = 2 * length bytes + 1
reach limit (Cut n) = 2 * n
reach limit TooBig = 2 * limit + 2
reach limit _ = 0

reach-cut : (limit : ℕ) (held : List ℕ) → length held ≤ limit → reach limit (ended limit false held) ≡ 2 * length held
reach-cut limit held within =
    elim (leb_tells (suc limit) (length held)) [
      | inl beyond ↦ absurd (omega (arith, beyond.1, within))
      | inr below ↦
          rw below.0 refl
    ]

reach-more : (limit : ℕ) (held data_ : List ℕ) → length held ≤ limit → 0 < length data_ → (complete : Bool)
    → 2 * length held + 2 ≤ reach limit (ended limit complete (held ++ data_))
reach-more limit held data_ within some complete =
    elim (leb_tells (suc limit) (length (held ++ data_))) [
      | inl beyond ↦ rw beyond.0 (omega (arith, within))
      | inr below ↦ rw below.0 (shown complete)
    ]
  where
    shown : (b : Bool) → 2 * length held + 2 ≤ reach limit (if b then Whole (held ++ data_)
        else Cut (length (held ++ data_)))
    shown true = omega (arith, some, length-append held data_)
    shown false = omega (arith, some, length-append held data_)

reach-whole : (limit : ℕ) (held data_ : List ℕ) → length held ≤ limit
    → 2 * length held + 1 ≤ reach limit (ended limit true (held ++ data_))
reach-whole limit held data_ within =
    elim (leb_tells (suc limit) (length (held ++ data_))) [
      | inl beyond ↦ rw beyond.0 (omega (arith, within))
      | inr below ↦ rw below.0 (omega (arith, length-append held data_))
    ]

-- ---- a place leads on

-- data, or the end of all data
abbrev IsProgress : Decoded → Type 0
IsProgress decoded = (0 < length decoded.data_is) ⊎ (decoded.complete ≡ true)

-- some bytes that may follow decode to more
abbrev LeadsOn : Place → Type 0
LeadsOn place = (more : List ℕ) × IsProgress (decoded_at place more)

one-byte : (n : ℕ) → IsProgress (decoded_at (Data (suc n)) (0 ∷ []))
one-byte n = rw (data-byte n 0 []) (inl (omega arith))

line_end-leads : (size : ℕ) → LeadsOn (LineEnd size)
line_end-leads zero = (10 ∷ 13 ∷ 10 ∷ [], inr refl)
line_end-leads (suc n) = (10 ∷ 0 ∷ [], rw (fails_eq (suc n) 0 (λ e. omega (arith, e))) (one-byte n))

size-leads : (digits value : ℕ) → LeadsOn (Size digits value)
size-leads zero value = let on = line_end-leads (value * 16 + 0) in (48 ∷ 13 ∷ on.0, on.1)
size-leads (suc n) value = let on = line_end-leads value in
    (13 ∷ on.0, rw (fails_eq (suc n) 0 (λ e. omega (arith, e))) on.1)

leads-on : (place : Place) → LeadsOn place
leads-on (Size digits value) = size-leads digits value
leads-on (Blanks size line) = let on = line_end-leads size in (13 ∷ on.0, on.1)
leads-on (Extension size line) = let on = line_end-leads size in (13 ∷ on.0, on.1)
leads-on (LineEnd size) = line_end-leads size
leads-on (Data zero) = (13 ∷ 10 ∷ 48 ∷ 13 ∷ 10 ∷ 13 ∷ 10 ∷ [], inr refl)
leads-on (Data (suc n)) = (0 ∷ [], one-byte n)
leads-on DataEnd = (10 ∷ 48 ∷ 13 ∷ 10 ∷ 13 ∷ 10 ∷ [], inr refl)
leads-on (Trailers bytes) = (13 ∷ 10 ∷ [], inr refl)
leads-on (Trailer bytes) = (13 ∷ 10 ∷ 13 ∷ 10 ∷ [], inr refl)
leads-on (TrailerEnd bytes) = (10 ∷ 13 ∷ 10 ∷ [], inr refl)
leads-on LastEnd = (10 ∷ [], inr refl)

-- ---- so the body is open

-- two ways to go on that come to different ends
abbrev Differ : Framing → ℕ → List ℕ → Place → Type 0
Differ how limit held place = (more : List ℕ) × (rest_end how limit held place [] ≢ rest_end how limit held place more)

progress-differs : (limit : ℕ) (held : List ℕ) (decoded : Decoded) → length held ≤ limit → IsProgress decoded
    → ended limit false (held ++ []) ≢ ended limit decoded.complete (held ++ decoded.data_is)
progress-differs limit held decoded within (inl some) same =
    omega (
      arith,
      ap (reach limit) same,
      ap (λ l. reach limit (ended limit false l)) (append-nil held),
      reach-cut limit held within,
      reach-more limit held decoded.data_is within some decoded.complete,
    )
progress-differs limit held decoded within (inr whole) same =
    omega (
      arith,
      ap (reach limit) same,
      ap (λ l. reach limit (ended limit false l)) (append-nil held),
      reach-cut limit held within,
      ap (λ b. reach limit (ended limit b (held ++ decoded.data_is))) whole,
      reach-whole limit held decoded.data_is within,
    )

pub take-short : (n : ℕ) (l : List ℕ) → length l ≤ n → take n l ≡ l
take-short zero [] h = refl
take-short zero (x ∷ l) h = absurd (omega (arith, h))
take-short (suc n) [] h = refl
take-short (suc n) (x ∷ l) h = ap (λ r. x ∷ r) (take-short n l (omega (arith, h)))

differ : (how : Framing) (limit : ℕ) (held : List ℕ) (place : Place) → length held ≤ limit → IsWaiting how held place
    → Differ how limit held place
differ Nothing limit held place within waiting = absurd waiting
differ Broken limit held place within waiting = absurd waiting
differ ToEnd limit held place within waiting = (
  0 ∷ [],
  λ same. omega (
    arith,
    ap (reach limit) same,
    ap (λ l. reach limit (ended limit true l)) (append-nil held),
    reach-here,
    reach-more limit held (0 ∷ []) within (omega arith) true,
  ),
)
  where
    reach-here : reach limit (ended limit true held) ≡ 2 * length held + 1
    reach-here = elim (leb_tells (suc limit) (length held)) [
      | inl beyond ↦ absurd (omega (arith, beyond.1, within))
      | inr below ↦ rw below.0 refl
    ]
differ (Length total) limit held place within waiting =
    let none : take total (held ++ []) ≡ held = ap (take total) (append-nil held)
    ∙ take-short total held (omega (arith, waiting)) in
    let one : take total (held ++ 0 ∷ []) ≡ held ++ 0 ∷ [] =
    take-short total (held ++ 0 ∷ []) (omega (arith, waiting, length-append held (0 ∷ []))) in
    let complete : Bool = nat_le total (length (held ++ 0 ∷ [])) in (
      0 ∷ [],
      λ same.
          omega (
            arith,
            ap (reach limit) (sym (ap (ended limit (nat_le total (length (held ++ [])))) none) ∙ same
                ∙ ap (ended limit complete) one),
            ap (λ b. reach limit (ended limit b held)) open_here,
            reach-cut limit held within,
            reach-more limit held (0 ∷ []) within (omega arith) complete,
          ),
    )
  where
    open_here : nat_le total (length (held ++ [])) ≡ false
    open_here = elim (leb_tells total (length (held ++ []))) [
      | inl h ↦
          absurd (omega (arith, h.1, waiting, ap length (append-nil held)))
      | inr h ↦ h.0
    ]
differ Chunked limit held place within waiting =
    let on = leads-on place in (on.0, progress-differs limit held (decoded_at place on.0) within on.1)

pub stays-open : (how : Framing) (limit : ℕ) (bytes held : List ℕ) (room : ℕ) (place : Place)
    → IsReading how limit bytes held room place → IsWaiting how held place → IsOpen how limit bytes
stays-open how limit bytes held room place reading waiting end decides =
    let two = differ how limit held place reading.within waiting in
    two.1 (sym (reading.meaning []) ∙ decides [] ∙ sym (decides two.0) ∙ reading.meaning two.0)

-- ---- a piece more

-- what is held keeps to the framing while it waits
kept-waiting : (how : Framing) (held : List ℕ) (place : Place) → IsWaiting how held place → IsKept how held place
kept-waiting Nothing held place waiting = absurd waiting
kept-waiting Broken held place waiting = absurd waiting
kept-waiting ToEnd held place waiting = tt
kept-waiting (Length total) held place waiting = omega (arith, waiting)
kept-waiting Chunked held place waiting = waiting

pub read-on : (how : Framing) (limit : ℕ) (bytes piece held held' : List ℕ) (room room' : ℕ) (place place' : Place)
    → IsReading how limit bytes held room place
    → IsOn how limit (λ more. rest_end how limit held place (piece ++ more)) held' room' place' []
    → IsReading how limit (bytes ++ piece) held' room' place'
read-on how limit bytes piece held held' room room' place place' reading on = record {
  meaning = λ more. ap (body_end how limit) (append_assoc bytes piece more) ∙ reading.meaning (piece ++ more)
      ∙ on.meaning more;
  within = on.within;
  reserved = on.reserved;
  kept = kept-waiting how held' place' on.waiting;
}

-- a reader that begins
pub begins : (how : Framing) (limit : ℕ) (bytes held : List ℕ) (room : ℕ) → bytes ≡ [] → held ≡ []
    → most_held how limit ≤ room
    → IsReading how limit bytes held room (Size 0 0)
begins how limit bytes held room no_bytes none reserved = rw (no_bytes, none) record {
  meaning = meaning how;
  within = omega arith;
  reserved = reserved;
  kept = kept how;
}
  where
    meaning : (f : Framing) (more : List ℕ) → body_end f limit ([] ++ more) ≡ rest_end f limit [] (Size 0 0) more
    meaning Nothing more = refl
    meaning Broken more = refl
    meaning ToEnd more = refl
    meaning (Length total) more = refl
    meaning Chunked more = ap (λ (d : Decoded). ended limit d.complete d.data_is) (decoded-chunks more)

    kept : (f : Framing) → IsKept f [] (Size 0 0)
    kept Nothing = refl
    kept Broken = refl
    kept ToEnd = tt
    kept (Length total) = omega arith
    kept Chunked = (omega arith, omega arith)

-- a piece that leaves the body open
pub open-behind : (how : Framing) (limit : ℕ) (bytes piece held held' : List ℕ) (room room' : ℕ)
    (place place' : Place) (found : Found) → IsReading how limit bytes held room place
    → Comes how limit (λ more. rest_end how limit held place (piece ++ more)) held' room' place' found → found ≡ Open
    → IsOpen how limit (bytes ++ piece)
open-behind how limit bytes piece held held' room room' place place' found reading comes same =
    let on : IsOn how limit (λ more. rest_end how limit held place (piece ++ more)) held' room' place' [] =
    subst (Comes how limit (λ more. rest_end how limit held place (piece ++ more)) held' room' place') same comes in
    stays-open how limit (bytes ++ piece) held' room' place'
    (read-on how limit bytes piece held held' room room' place place' reading on) on.waiting

-- and the reader then
pub opened : (self : BodyReading) (how : Framing) (limit : ℕ) (bytes bytes' piece held held' : List ℕ)
    (room room' : ℕ) (place place' : Place) (found : Found)
    → record { framing = how; limit = limit; bytes = bytes } ≡ self → bytes' ≡ bytes ++ piece
    → IsReading how limit bytes held room place
    → Comes how limit (λ more. rest_end how limit held place (piece ++ more)) held' room' place' found → found ≡ Open
    → (record { framing = how; limit = limit; bytes = bytes' } ≡ record self { bytes = self.bytes ++ piece })
    × IsOpen self.framing self.limit (self.bytes ++ piece)
opened self how limit bytes bytes' piece held held' room room' place place' found seen now reading comes same =
    let P : BodyReading → Type 0 =
    λ s. (record { framing = how; limit = limit; bytes = bytes' } ≡ record s { bytes = s.bytes ++ piece })
    × IsOpen s.framing s.limit (s.bytes ++ piece) in
    subst P seen (
      ap (λ b. record { framing = how; limit = limit; bytes = b }) now,
      open-behind how limit bytes piece held held' room room' place place' found reading comes same,
    )

-- ---- fewer bytes than may decide the body

-- bytes that are held as they are, and leave room for more
held-open : (how : Framing) (limit : ℕ) (bytes piece held : List ℕ) (room : ℕ) (place : Place)
    → IsReading how limit bytes held room place
    → ((more : List ℕ) → rest_end how limit held place (piece ++ more) ≡ rest_end how limit (held ++ piece) place more)
    → length (held ++ piece) ≤ limit → IsWaiting how (held ++ piece) place → IsOpen how limit (bytes ++ piece)
held-open how limit bytes piece held room place reading on within waiting =
    stays-open how limit (bytes ++ piece) (held ++ piece) room place
    (read-on how limit bytes piece held (held ++ piece) room room place place reading (record {
      meaning = on;
      within = within;
      reserved = reading.reserved;
      waiting = waiting;
    })) waiting

-- fewer than the length and the limit leave
pub fewer-length : (self : BodyReading) (how : Framing) (total limit : ℕ) (bytes piece held : List ℕ) (room : ℕ)
    (place : Place) → record { framing = how; limit = limit; bytes = bytes } ≡ self → how ≡ Length total
    → IsReading how limit bytes held room place → length held + length piece < total
    → length held + length piece ≤ limit → IsOpen self.framing self.limit (self.bytes ++ piece)
fewer-length self how total limit bytes piece held room place seen is reading few within =
    subst (λ (s : BodyReading). IsOpen s.framing s.limit (s.bytes ++ piece)) seen
    (subst (λ (f : Framing). IsOpen f limit (bytes ++ piece)) (sym is)
    (held-open (Length total) limit bytes piece held room place
    (subst (λ (f : Framing). IsReading f limit bytes held room place) is reading)
    (λ more. ap (body_end (Length total) limit) (sym (append_assoc held piece more)))
    (omega (arith, within, length-append held piece)) (omega (arith, few, length-append held piece))))

-- fewer than the limit leaves
pub fewer-to_end : (self : BodyReading) (how : Framing) (limit : ℕ) (bytes piece held : List ℕ) (room : ℕ)
    (place : Place) → record { framing = how; limit = limit; bytes = bytes } ≡ self → how ≡ ToEnd
    → IsReading how limit bytes held room place → length held + length piece ≤ limit
    → IsOpen self.framing self.limit (self.bytes ++ piece)
fewer-to_end self how limit bytes piece held room place seen is reading within =
    subst (λ (s : BodyReading). IsOpen s.framing s.limit (s.bytes ++ piece)) seen
    (subst (λ (f : Framing). IsOpen f limit (bytes ++ piece)) (sym is)
    (held-open ToEnd limit bytes piece held room place
    (subst (λ (f : Framing). IsReading f limit bytes held room place) is reading)
    (λ more. ap (body_end ToEnd limit) (sym (append_assoc held piece more)))
    (omega (arith, within, length-append held piece)) tt))
