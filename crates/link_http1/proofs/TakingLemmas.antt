-- Where a byte or data are taken from a piece, what is left comes to the same end as the piece did.
use Rattle.std.proofs.Common.{arith, inl, inr, ◌≡◌, ◌≤◌, ◌<◌, ◌+◌, ◌-◌, ◌==◌, ℕ, zero, suc, List, [], ◌∷◌, ◌++◌, take}
use Rattle.std.proofs.Common.{drop, length, refl, sym, ap, subst, ◌∙◌, Bool, true, false, nat_le, min, get_or}
use Rattle.std.proofs.Common.{true≢false, append_assoc, length-append, if◌then◌else◌}
use Rattle.std.proofs.lemmas.Bool.{leb-false}
use Rattle.std.proofs.lemmas.Bool.Decides.{eqb_tells, leb_tells}
use Rattle.std.proofs.lemmas.List.{length-take-le, take-append-drop}
use Rattle.std.proofs.Math.Seq.{take-length}
use Rattle.value_requests.specs.declared.response.BodyEnd.{BodyEnd}
use Rattle.value_requests.specs.declared.response.BodyEnd.TheVariants.{TooBig}
use Rattle.link_http1.specs.Bodies.{ended}
use Rattle.link_http1.specs.Private.BodyPlaces.{IsOn}
use Rattle.link_http1.specs.Chunks.{Decoded, onto}
use Rattle.link_http1.specs.Private.Places.{decoded_at, behind_turn, data_left, turn}
use Rattle.link_http1.specs.declared.framing.Framing.TheVariants.{Chunked}
use Rattle.link_http1.specs.declared.place.Place.{Place}
use Rattle.link_http1.specs.declared.place.Place.TheVariants.{Size, Blanks, Extension, LineEnd, Data, DataEnd, Trailers}
use Rattle.link_http1.specs.declared.place.Place.TheVariants.{Trailer, TrailerEnd, LastEnd}
use Rattle.link_http1.specs.declared.place.Turn.{Turn}
use Rattle.link_http1.specs.declared.place.Turn.TheVariants.{To}
use Rattle.link_http1.proofs.ChunkLemmas.{data-byte}
use Rattle.link_http1.proofs.PlaceLemmas.{IsTurnLive, turn-live}

-- ---- ends

-- beyond it, whatever follows
pub ended-beyond : (limit : ℕ) (complete : Bool) (held more : List ℕ) → limit < length held
    → ended limit complete (held ++ more) ≡ TooBig
ended-beyond limit complete held more beyond =
    elim (leb_tells (suc limit) (length (held ++ more))) [
      | inl over ↦ rw over.0 refl
      | inr below ↦ absurd (omega (arith, beyond, below.1, length-append held more))
    ]

-- how a body ends, of which bytes are held and more are decoded
abbrev pub chunks_end : ℕ → List ℕ → Decoded → BodyEnd
chunks_end limit held decoded = ended limit decoded.complete (held ++ decoded.data_is)

-- ---- a byte that is no data

pub turned : (place : Place) (byte : ℕ) (bytes : List ℕ) (to : Turn) → data_left place ≡ 0 → turn place byte ≡ to
    → decoded_at place (byte ∷ bytes) ≡ behind_turn (λ next. decoded_at next bytes) to
turned place byte bytes to none same =
    let test : (data_left place == 0) ≡ true =
    elim (eqb_tells (data_left place) 0) [ inl h ↦ h.0 | inr other ↦ absurd (other.1 none) ] in
    ap (λ b. if b then behind_turn (λ next. decoded_at next bytes) (turn place byte)
    else onto (byte ∷ []) (decoded_at (Data (data_left place - 1)) bytes)) test
    ∙ ap (behind_turn (λ next. decoded_at next bytes)) same

pub goes : (limit byte : ℕ) (after : List ℕ → BodyEnd) (held rest : List ℕ) (room : ℕ) (place next : Place)
    → IsOn Chunked limit after held room place (byte ∷ rest)
    → data_left place ≡ 0 → turn place byte ≡ To next → IsOn Chunked limit after held room next rest
goes limit byte after held rest room place next on none same = record {
  meaning = λ more. on.meaning more ∙ ap (chunks_end limit held) (turned place byte (rest ++ more) (To next) none same);
  within = on.within;
  reserved = on.reserved;
  waiting = subst IsTurnLive same (turn-live place byte on.waiting);
}

-- ---- data

-- where data are left the place says no more than how many
pub is-data : (place : Place) → 0 < data_left place → place ≡ Data (data_left place)
is-data (Data left) some = refl
is-data (Size digits value) some = absurd (omega (arith, some))
is-data (Blanks size line) some = absurd (omega (arith, some))
is-data (Extension size line) some = absurd (omega (arith, some))
is-data (LineEnd size) some = absurd (omega (arith, some))
is-data DataEnd some = absurd (omega (arith, some))
is-data (Trailers bytes) some = absurd (omega (arith, some))
is-data (Trailer bytes) some = absurd (omega (arith, some))
is-data (TrailerEnd bytes) some = absurd (omega (arith, some))
is-data LastEnd some = absurd (omega (arith, some))

data-bytes : (bytes more : List ℕ) (left : ℕ) → length bytes ≤ left → decoded_at (Data left) (bytes ++ more)
    ≡ onto bytes (decoded_at (Data (left - length bytes)) more)
data-bytes [] more left within = let same : left ≡ left - 0 = omega arith in ap (λ n. decoded_at (Data n) more) same
data-bytes (byte ∷ bytes) more zero within = absurd (omega (arith, within))
data-bytes (byte ∷ bytes) more (suc left) within =
    let same : left - length bytes ≡ suc left - length (byte ∷ bytes) = omega arith in
    data-byte left byte (bytes ++ more)
    ∙ ap (onto (byte ∷ [])) (data-bytes bytes more left (omega (arith, within)))
    ∙ ap (λ n. onto (byte ∷ bytes) (decoded_at (Data n) more)) same

-- the data at the front of what is left
front-decoded : (limit count : ℕ) (after : List ℕ → BodyEnd) (held rest : List ℕ) (room : ℕ) (place : Place)
    → IsOn Chunked limit after held room place rest
    → 0 < data_left place → count ≤ data_left place → count ≤ length rest → (more : List ℕ)
    → after more ≡ chunks_end limit (held
    ++ take count rest) (decoded_at (Data (data_left place - count)) (drop count rest ++ more))
front-decoded limit count after held rest room place on some within short more =
    let bytes : List ℕ = take count rest in
    let behind : List ℕ = drop count rest ++ more in
    let many : length bytes ≡ count = length-take-le count rest short in
    let whole : rest ++ more ≡ bytes ++ behind = ap (λ l. l ++ more) (sym (take-append-drop count rest))
    ∙ append_assoc bytes (drop count rest) more in
    let d : Decoded = decoded_at (Data (data_left place - count)) behind in
    on.meaning more
    ∙ ap (chunks_end limit held) (ap (λ p. decoded_at p (rest ++ more)) (is-data place some)
    ∙ ap (decoded_at (Data (data_left place))) whole
    ∙ data-bytes bytes behind (data_left place) (omega (arith, many, within))
    ∙ ap (λ n. onto bytes (decoded_at (Data (data_left place - n)) behind)) many)
    ∙ ap (ended limit d.complete) (sym (append_assoc held bytes d.data_is))

pub goes-data : (limit count : ℕ) (after : List ℕ → BodyEnd) (held rest : List ℕ) (room room' : ℕ) (place : Place)
    → IsOn Chunked limit after held room place rest
    → 0 < data_left place → count ≤ data_left place → count ≤ length rest → length (held ++ take count rest) ≤ limit
    → limit ≤ room'
    → IsOn Chunked limit after (held ++ take count rest) room' (Data (data_left place - count)) (drop count rest)
goes-data limit count after held rest room room' place on some within short fits reserved = record {
  meaning = λ more. front-decoded limit count after held rest room place on some within short more;
  within = fits;
  reserved = reserved;
  waiting = tt;
}

pub exceeds-data : (limit count : ℕ) (after : List ℕ → BodyEnd) (held rest : List ℕ) (room : ℕ) (place : Place)
    → IsOn Chunked limit after held room place rest
    → 0 < data_left place → count ≤ data_left place → count ≤ length rest → limit < length (held ++ take count rest)
    → (more : List ℕ) → after more ≡ TooBig
exceeds-data limit count after held rest room place on some within short beyond more =
    let d : Decoded = decoded_at (Data (data_left place - count)) (drop count rest ++ more) in
    front-decoded limit count after held rest room place on some within short more
    ∙ ended-beyond limit d.complete (held ++ take count rest) d.data_is beyond

-- ---- the same in the code's words

-- the first byte and those after it
front-and-behind : (rest : List ℕ) → 1 ≤ length rest → rest ≡ get_or rest 0 0 ∷ take (length rest - 1) (drop 1 rest)
front-and-behind [] some = absurd (omega (arith, some))
front-and-behind (byte ∷ rest) some =
    let count : length rest ≡ length (byte ∷ rest) - 1 = omega arith in
    ap (λ l. byte ∷ l) (sym (take-length rest) ∙ ap (λ n. take n rest) count)

pub goes-front : (limit : ℕ) (after : List ℕ → BodyEnd) (held rest : List ℕ) (room : ℕ) (place next : Place)
    → IsOn Chunked limit after held room place rest
    → 1 ≤ length rest → data_left place ≡ 0 → turn place (get_or rest 0 0) ≡ To next
    → IsOn Chunked limit after held room next (take (length rest - 1) (drop 1 rest))
goes-front limit after held rest room place next on some none same =
    goes limit (get_or rest 0 0) after held (take (length rest - 1) (drop 1 rest)) room place next
    (subst (λ (l : List ℕ). IsOn Chunked limit after held room place l) (front-and-behind rest some) on) none same

-- a test of the room tells the length
taken-length : (limit : ℕ) (held bytes front : List ℕ) → nat_le (length held + length bytes) limit ≡ true → bytes
    ≡ front → length (held ++ front) ≤ limit
taken-length limit held bytes front test same =
    elim (leb_tells (length held + length bytes) limit) [
      | inl below ↦ omega (arith, below.1, ap length same, length-append held front)
      | inr beyond ↦ absurd (true≢false (sym test ∙ beyond.0))
    ]

over-length : (limit : ℕ) (held bytes front : List ℕ) → nat_le (length held + length bytes) limit ≡ false → bytes
    ≡ front → limit < length (held ++ front)
over-length limit held bytes front test same =
    omega (arith, leb-false (length held + length bytes) limit test, ap length same, length-append held front)

pub data-exceeds : (limit count left : ℕ) (after : List ℕ → BodyEnd) (held rest bytes : List ℕ) (room : ℕ)
    (place : Place) (fits : Bool) → IsOn Chunked limit after held room place rest
    → left ≡ data_left place → 0 < left → count ≡ min left (length rest) → bytes ≡ take count rest → fits
    ≡ nat_le (length held + length bytes) limit → fits ≡ false
    → (more : List ℕ) → after more ≡ TooBig
data-exceeds limit count left after held rest bytes room place fits on left_is some count_is bytes_are fits_is none =
    exceeds-data limit count after held rest room place on (omega (arith, left_is, some))
    (omega (arith, left_is, count_is)) (omega (arith, count_is))
    (over-length limit held bytes (take count rest) (sym fits_is ∙ none) bytes_are)

pub data-goes : (limit count left : ℕ) (after : List ℕ → BodyEnd) (held rest held' bytes behind : List ℕ)
    (room room' : ℕ) (place : Place) (fits : Bool) → IsOn Chunked limit after held room place rest
    → left ≡ data_left place → 0 < left → count ≡ min left (length rest) → bytes ≡ take count rest → behind
    ≡ drop count rest → fits ≡ nat_le (length held + length bytes) limit → fits ≡ true
    → held' ≡ (if fits then held ++ bytes else held) → limit ≤ room'
    → IsOn Chunked limit after held' room' (Data (left - length bytes)) behind
data-goes limit count left after held rest held' bytes behind room room' place fits on left_is some count_is bytes_are
    behind_is fits_is yes_fits held_is reserved =
    let short : count ≤ length rest = omega (arith, count_is) in
    let now_held : held' ≡ held ++ take count rest = held_is ∙ ap (λ b. if b then held ++ bytes else held) yes_fits
    ∙ ap (λ l. held ++ l) bytes_are in
    let now_left : left - length bytes ≡ data_left place - count = ap (λ l. left - length l) bytes_are
    ∙ ap (λ n. left - n) (length-take-le count rest short) ∙ ap (λ n. n - count) left_is in
    rw (now_held, now_left, behind_is)
    (goes-data limit count after held rest room room' place on (omega (arith, left_is, some))
    (omega (arith, left_is, count_is)) short
    (taken-length limit held bytes (take count rest) (sym fits_is ∙ yes_fits) bytes_are) reserved)
