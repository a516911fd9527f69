-- Bytes that leave a body open are so many at most: each byte that does not decide it raises what is spent.
use Rattle.std.proofs.Common.{arith, inl, inr, ◌≡◌, ◌≤◌, ◌<◌, ◌⊎◌, ◌+◌, ◌-◌, ◌*◌, ◌==◌, ◌||◌, ℕ, zero, suc, List, []}
use Rattle.std.proofs.Common.{◌∷◌, ◌++◌, take, length, refl, sym, ap, subst, ◌∙◌, true, false, nat_le}
use Rattle.std.proofs.Common.{length-append}
use Rattle.std.proofs.lemmas.Bool.Decides.{leb_tells}
use Rattle.std.proofs.lemmas.List.{take-append-le}
use Rattle.std.specs.Char.{is_ascii_hexdigit}
use Rattle.value_requests.specs.declared.response.BodyEnd.{BodyEnd}
use Rattle.value_requests.specs.declared.response.BodyEnd.TheVariants as end
use Rattle.link_http1.specs.Bodies.{ended, body_end, IsDecided}
use Rattle.link_http1.specs.BodyLaws.{most_open, OpenBodiesAreShort}
use Rattle.link_http1.specs.Private.BodyPlaces.{IsOn}
use Rattle.link_http1.specs.Private.Places.{IsLive, turn, in_size, in_extension, behind_digits, behind_line, at_trailer}
use Rattle.link_http1.specs.Private.Places.{data_left}
use Rattle.link_http1.specs.declared.framing.Framing.{Framing}
use Rattle.link_http1.specs.declared.framing.Framing.TheVariants.{Nothing, Chunked, Length, ToEnd, Broken}
use Rattle.link_http1.specs.declared.place.Place.{Place}
use Rattle.link_http1.specs.declared.place.Place.TheVariants.{Size, Blanks, Extension, LineEnd, Data, DataEnd, Trailers}
use Rattle.link_http1.specs.declared.place.Place.TheVariants.{Trailer, TrailerEnd, LastEnd}
use Rattle.link_http1.specs.declared.place.Turn.{Turn}
use Rattle.link_http1.specs.declared.place.Turn.TheVariants.{To, Ended, Broken as Refused}
use Rattle.link_http1.proofs.ChunkLemmas.{decoded-chunks, fails_eq}
use Rattle.link_http1.proofs.PlaceLemmas.{choice}
use Rattle.link_http1.proofs.TakingLemmas.{chunks_end, ended-beyond, exceeds-data, goes, goes-data, is-data, turned}

-- ---- what is spent at a place

-- how many bytes of the body came at most where so many are decoded, and two more
abbrev pub spent : ℕ → Place → ℕ
spent held (Size digits value) = 4099 * held + digits + 2
spent held (Blanks size line) = 4099 * held + line + 2
spent held (Extension size line) = 4099 * held + line + 2
spent held (LineEnd size) = 4099 * held + 4097
spent held (Data zero) = 4099 * held
spent held (Data (suc left)) = 4099 * held + 4098
spent held DataEnd = 4099 * held + 1
spent held (Trailers bytes) = 4099 * held + 4098 + bytes
spent held (Trailer bytes) = 4099 * held + 4098 + bytes
spent held (TrailerEnd bytes) = 4099 * held + 4099 + bytes
spent held LastEnd = 4099 * held + 12289

spent-most : (held limit : ℕ) (place : Place) → held ≤ limit → IsLive place → spent held place ≤ 4099 * limit + 12289
spent-most held limit (Size digits value) within live = omega (arith, within, live.0)
spent-most held limit (Blanks size line) within live = omega (arith, within, live)
spent-most held limit (Extension size line) within live = omega (arith, within, live)
spent-most held limit (LineEnd size) within live = omega (arith, within)
spent-most held limit (Data zero) within live = omega (arith, within)
spent-most held limit (Data (suc left)) within live = omega (arith, within)
spent-most held limit DataEnd within live = omega (arith, within)
spent-most held limit (Trailers bytes) within live = omega (arith, within, live)
spent-most held limit (Trailer bytes) within live = omega (arith, within, live)
spent-most held limit (TrailerEnd bytes) within live = omega (arith, within, live)
spent-most held limit LastEnd within live = omega (arith, within)

-- ---- a byte that is no data spends

-- what a turn leads to spends more
abbrev SpendsMore : ℕ → ℕ → Turn → Type 0
SpendsMore before held (To next) = before < spent held next
SpendsMore before held _ = Unit {0}

behind_digits-spends : (held before size line byte : ℕ) → before ≡ 4099 * held + line + 2 → line ≤ 4094
    → SpendsMore before held (behind_digits size line byte)
behind_digits-spends held before size line byte is within =
    choice (SpendsMore before held) (byte == 13) _ _ (λ _. omega (arith, is, within)) (λ _.
    choice (SpendsMore before held) (nat_le 4094 line) _ _ (λ _. tt) (λ _.
    choice (SpendsMore before held) (byte == 9 || byte == 32) _ _ (λ _. omega (arith, is)) (λ _.
    choice (SpendsMore before held) (byte == 59) _ _ (λ _. omega (arith, is)) (λ _. tt))))

in_size-spends : (held before digits value byte : ℕ) → before ≡ 4099 * held + digits + 2 → digits ≤ 16
    → SpendsMore before held (in_size digits value byte)
in_size-spends held before digits value byte is within =
    choice (SpendsMore before held) (is_ascii_hexdigit byte) _ _
    (λ _. choice (SpendsMore before held) (digits == 16) _ _ (λ _. tt) (λ _. omega (arith, is)))
    (λ _. choice (SpendsMore before held) (digits == 0) _ _ (λ _. tt)
    (λ _. behind_digits-spends held before value digits byte is (omega (arith, within))))

in_extension-spends : (held before size line byte : ℕ) → before ≡ 4099 * held + line + 2 → line ≤ 4094
    → SpendsMore before held (in_extension size line byte)
in_extension-spends held before size line byte is within =
    choice (SpendsMore before held) (byte == 13) _ _ (λ _. omega (arith, is, within)) (λ _.
    choice (SpendsMore before held) (byte == 10) _ _ (λ _. tt) (λ _.
    choice (SpendsMore before held) (nat_le 4094 line) _ _ (λ _. tt) (λ _. omega (arith, is))))

behind-some : (size : ℕ) → behind_line (suc size) ≡ Data (suc size)
behind-some size = rw (fails_eq (suc size) 0 (λ e. omega (arith, e))) refl

behind_line-spends : (held size : ℕ) → 4099 * held + 4097 < spent held (behind_line size)
behind_line-spends held zero = omega arith
behind_line-spends held (suc size) =
    subst (λ (p : Place). 4099 * held + 4097 < spent held p) (sym (behind-some size)) (omega arith)

at_trailer-spends : (held before byte bytes : ℕ) (last : Place) → before ≡ 4099 * held + 4098 + bytes
    → before < spent held last → SpendsMore before held (at_trailer byte bytes last)
at_trailer-spends held before byte bytes last is ends =
    choice (SpendsMore before held) (byte == 13) _ _ (λ _. ends) (λ _.
    choice (SpendsMore before held) (byte == 10) _ _ (λ _. tt) (λ _.
    choice (SpendsMore before held) (nat_le 8188 bytes) _ _ (λ _. tt) (λ _. omega (arith, is))))

turn-spends : (held byte : ℕ) (place : Place) → IsLive place → data_left place ≡ 0
    → SpendsMore (spent held place) held (turn place byte)
turn-spends held byte (Size digits value) live none = in_size-spends held _ digits value byte refl live.0
turn-spends held byte (Blanks size line) live none = behind_digits-spends held _ size line byte refl live
turn-spends held byte (Extension size line) live none = in_extension-spends held _ size line byte refl live
turn-spends held byte (LineEnd size) live none =
    choice (SpendsMore (spent held (LineEnd size)) held) (byte == 10) _ _ (λ _. behind_line-spends held size) (λ _. tt)
turn-spends held byte (Data zero) live none =
    choice (SpendsMore (spent held (Data zero)) held) (byte == 13) (To DataEnd) _ (λ _. omega arith) (λ _. tt)
turn-spends held byte (Data (suc left)) live none = absurd (omega (arith, none))
turn-spends held byte DataEnd live none =
    choice (SpendsMore (spent held DataEnd) held) (byte == 10) (To (Size 0 0)) _ (λ _. omega arith) (λ _. tt)
turn-spends held byte (Trailers bytes) live none =
    at_trailer-spends held _ byte bytes LastEnd refl (omega (arith, live))
turn-spends held byte (Trailer bytes) live none =
    at_trailer-spends held _ byte bytes (TrailerEnd bytes) refl (omega arith)
turn-spends held byte (TrailerEnd bytes) live none =
    choice (SpendsMore (spent held (TrailerEnd bytes)) held) (byte == 10) (To (Trailers (bytes + 2))) _
    (λ _. omega arith) (λ _. tt)
turn-spends held byte LastEnd live none =
    choice (SpendsMore (spent held LastEnd) held) (byte == 10) _ _ (λ _. tt) (λ _. tt)

data-spends : (held left : ℕ) → spent held (Data (suc left)) < spent (held + 1) (Data left)
data-spends held zero = omega arith
data-spends held (suc left) = omega arith

-- ---- chunks

-- what follows comes to one end, whatever it is; or what is left is short
abbrev IsOver : (List ℕ → BodyEnd) → Type 0
IsOver after = (last : BodyEnd) × ((more : List ℕ) → after more ≡ last)

abbrev IsShort : ℕ → List ℕ → Place → List ℕ → Type 0
IsShort limit held place rest = length rest + spent (length held) place ≤ 4099 * limit + 12289

turned-over : (limit byte : ℕ) (after : List ℕ → BodyEnd) (held rest : List ℕ) (room : ℕ) (place : Place)
    → IsOn Chunked limit after held room place (byte ∷ rest) → data_left place ≡ 0 → (to : Turn)
    → turn place byte ≡ to → SpendsMore (spent (length held) place) (length held) to
    → ((next : Place) → IsOn Chunked limit after held room next rest
    → IsOver after ⊎ IsShort limit held next rest)
    → IsOver after ⊎ IsShort limit held place (byte ∷ rest)
turned-over limit byte after held rest room place on none (To next) same more later =
    elim (later next (goes limit byte after held rest room place next on none same)) [
      | inl over ↦ inl over
      | inr short ↦ inr (omega (arith, more, short))
    ]
turned-over limit byte after held rest room place on none Ended same more later = inl (
  chunks_end limit held (record { data_is = []; complete = true }),
  λ behind. on.meaning behind ∙ ap (chunks_end limit held) (turned place byte (rest ++ behind) Ended none same),
)
turned-over limit byte after held rest room place on none Refused same more later = inl (
  chunks_end limit held (record { data_is = []; complete = false }),
  λ behind. on.meaning behind ∙ ap (chunks_end limit held) (turned place byte (rest ++ behind) Refused none same),
)

-- one byte of data more
data-goes-on : (limit byte left : ℕ) (after : List ℕ → BodyEnd) (held rest : List ℕ) (room : ℕ)
    → IsOn Chunked limit after held room (Data (suc left)) (byte ∷ rest) → length (held ++ byte ∷ []) ≤ limit
    → IsOn Chunked limit after (held ++ byte ∷ []) room (Data left) rest
data-goes-on limit byte left after held rest room on within =
    let same : suc left - 1 ≡ left = omega arith in
    subst (λ (n : ℕ). IsOn Chunked limit after (held ++ byte ∷ []) room (Data n) rest) same
    (goes-data limit 1 after held (byte ∷ rest) room room (Data (suc left)) on (omega arith) (omega arith)
    (omega arith) within on.reserved)

data-over : (limit byte left : ℕ) (after : List ℕ → BodyEnd) (held rest : List ℕ) (room : ℕ)
    → IsOn Chunked limit after held room (Data (suc left)) (byte ∷ rest)
    → (IsOn Chunked limit after (held ++ byte ∷ []) room (Data left) rest
    → IsOver after ⊎ IsShort limit (held ++ byte ∷ []) (Data left) rest)
    → IsOver after ⊎ IsShort limit held (Data (suc left)) (byte ∷ rest)
data-over limit byte left after held rest room on later =
    elim (leb_tells (suc limit) (length (held ++ byte ∷ []))) [
      | inl beyond ↦ inl (
        end.TooBig,
        exceeds-data limit 1 after held (byte ∷ rest) room (Data (suc left)) on (omega arith) (omega arith)
            (omega arith) beyond.1,
      )
      | inr within ↦
          elim (later (data-goes-on limit byte left after held rest room on (omega (arith, within.1)))) [
            | inl over ↦ inl over
            | inr short ↦
                inr (omega (
                  arith,
                  short,
                  data-spends (length held) left,
                  ap (λ n. spent n (Data left)) (length-append held (byte ∷ [])),
                ))
          ]
    ]

byte-over : (limit byte : ℕ) (after : List ℕ → BodyEnd) (held rest : List ℕ) (room : ℕ) (place : Place)
    → IsOn Chunked limit after held room place (byte ∷ rest)
    → ((held' : List ℕ) (next : Place) → IsOn Chunked limit after held' room next rest
    → IsOver after ⊎ IsShort limit held' next rest)
    → (left : ℕ) → left ≡ data_left place → IsOver after ⊎ IsShort limit held place (byte ∷ rest)
byte-over limit byte after held rest room place on later zero is =
    turned-over limit byte after held rest room place on (sym is) (turn place byte) refl
    (turn-spends (length held) byte place on.waiting (sym is)) (λ next on'. later held next on')
byte-over limit byte after held rest room place on later (suc left) is =
    let at : place ≡ Data (suc left) = is-data place (omega (arith, is)) ∙ ap Data (sym is) in
    subst (λ (p : Place). IsOver after ⊎ IsShort limit held p (byte ∷ rest)) (sym at)
    (data-over limit byte left after held rest room
    (subst (λ (p : Place). IsOn Chunked limit after held room p (byte ∷ rest)) at on)
    (λ on'. later (held ++ byte ∷ []) (Data left) on'))

chunks-over : (limit : ℕ) (after : List ℕ → BodyEnd) (held rest : List ℕ) (room : ℕ) (place : Place)
    → IsOn Chunked limit after held room place rest → IsOver after ⊎ IsShort limit held place rest
chunks-over limit after held [] room place on =
    inr (omega (arith, spent-most (length held) limit place on.within on.waiting))
chunks-over limit after held (byte ∷ rest) room place on =
    byte-over limit byte after held rest room place on
    (λ held' next on'. chunks-over limit after held' rest room next on') (data_left place) refl

-- ---- each framing

-- the bytes decide the body, or they are so many at most
abbrev IsDecidedOrShort : Framing → ℕ → List ℕ → Type 0
IsDecidedOrShort how limit bytes =
    ((last : BodyEnd) × IsDecided how limit bytes last) ⊎ (length bytes ≤ most_open how limit)

chunked-short : (limit : ℕ) (bytes : List ℕ) → IsDecidedOrShort Chunked limit bytes
chunked-short limit bytes =
    elim (chunks-over limit (λ more. body_end Chunked limit (bytes ++ more)) [] bytes limit (Size 0 0) (record {
      meaning = λ more. ap (chunks_end limit []) (decoded-chunks (bytes ++ more));
      within = omega arith;
      reserved = omega arith;
      waiting = (omega arith, omega arith);
    })) [ inl over ↦ inl over | inr short ↦ inr (omega (arith, short)) ]

to_end-short : (limit : ℕ) (bytes : List ℕ) → IsDecidedOrShort ToEnd limit bytes
to_end-short limit bytes =
    elim (leb_tells (suc limit) (length bytes)) [
      | inl beyond ↦ inl (end.TooBig, λ more. ended-beyond limit true bytes more beyond.1)
      | inr within ↦ inr (omega (arith, within.1))
    ]

-- a text of more bytes than are taken
taken-front : (total : ℕ) (bytes more : List ℕ) → length bytes ≤ total
    → take total (bytes ++ more) ≡ bytes ++ take (total - length bytes) more
taken-front total [] more within = let same : total ≡ total - 0 = omega arith in ap (λ n. take n more) same
taken-front zero (byte ∷ bytes) more within = absurd (omega (arith, within))
taken-front (suc total) (byte ∷ bytes) more within =
    let same : total - length bytes ≡ suc total - length (byte ∷ bytes) = omega arith in
    ap (λ l. byte ∷ l) (taken-front total bytes more (omega (arith, within)))
    ∙ ap (λ n. byte ∷ (bytes ++ take n more)) same

length-beyond : (total limit : ℕ) (bytes more : List ℕ) → length bytes ≤ total → limit < length bytes
    → body_end (Length total) limit (bytes ++ more) ≡ end.TooBig
length-beyond total limit bytes more within beyond =
    ap (ended limit (nat_le total (length (bytes ++ more)))) (taken-front total bytes more within)
    ∙ ended-beyond limit (nat_le total (length (bytes ++ more))) bytes (take (total - length bytes) more) beyond

length-whole : (total limit : ℕ) (bytes more : List ℕ) → total ≤ length bytes
    → body_end (Length total) limit (bytes ++ more) ≡ ended limit true (take total bytes)
length-whole total limit bytes more whole =
    let complete : nat_le total (length (bytes ++ more)) ≡ true =
    elim (leb_tells total (length (bytes ++ more))) [
      | inl all ↦ all.0
      | inr fewer ↦ absurd (omega (arith, fewer.1, whole, length-append bytes more))
    ] in
    ap (λ b. ended limit b (take total (bytes ++ more))) complete
    ∙ ap (ended limit true) (take-append-le total bytes more whole)

length-short : (total limit : ℕ) (bytes : List ℕ) → IsDecidedOrShort (Length total) limit bytes
length-short total limit bytes =
    elim (leb_tells total (length bytes)) [
      | inl whole ↦ inl (ended limit true (take total bytes), λ more. length-whole total limit bytes more whole.1)
      | inr part ↦
          elim (leb_tells (suc limit) (length bytes)) [
            | inl beyond ↦ inl (
              end.TooBig,
              λ more. length-beyond total limit bytes more (omega (arith, part.1)) beyond.1,
            )
            | inr within ↦ inr (omega (arith, part.1, within.1))
          ]
    ]

decided-or-short : (how : Framing) (limit : ℕ) (bytes : List ℕ) → IsDecidedOrShort how limit bytes
decided-or-short Nothing limit bytes = inl (end.Null, λ more. refl)
decided-or-short Broken limit bytes = inl (end.Cut 0, λ more. refl)
decided-or-short ToEnd limit bytes = to_end-short limit bytes
decided-or-short (Length total) limit bytes = length-short total limit bytes
decided-or-short Chunked limit bytes = chunked-short limit bytes

pub bodies-short : OpenBodiesAreShort
bodies-short how limit bytes waits =
    elim (decided-or-short how limit bytes) [
      | inl decided ↦ absurd (waits decided.0 decided.1)
      | inr short ↦ short
    ]
