-- The places of a reader of chunks decode what the chunked coding says.
use Rattle.std.proofs.Common.{arith, inl, inr, ◌≡◌, ◌≢◌, ◌≤◌, ◌<◌, ◌⊎◌, ◌+◌, ◌*◌, ◌-◌, ◌==◌, ◌&&◌, ◌||◌, ℕ, zero, suc}
use Rattle.std.proofs.Common.{List, [], ◌∷◌, take, drop, length, refl, sym, ap, ◌∙◌, Bool, true, false, not, nat_le}
use Rattle.std.proofs.Common.{Option, Some, None, option_map, length-drop, if◌then◌else◌}
use mathlib.Core.Bool.{and-false}
use Rattle.std.proofs.lemmas.Bool.{le-leb, lt-leb}
use Rattle.std.specs.Option.{option_and_then}
use Rattle.std.proofs.lemmas.Bool.Decides.{eqb_tells, leb_tells}
use Rattle.std.proofs.lemmas.Grind.{common_steps}
use Rattle.std.proofs.lemmas.List.Sums.{take_while-cons}
use Rattle.std.specs.Char.{digit_value, is_ascii_hexdigit}
use Rattle.std.specs.Str.Parse.{digits_value_after}
use Rattle.value_text.specs.Trims.{tab_or_space, trimmed_start}
use Rattle.link_http1.specs.Chunks.{Decoded, behind_crlf, line_of, cut_line, size_digits, is_extension, is_size_line}
use Rattle.link_http1.specs.Chunks.{size_and_rest, cut_size, behind_trailer, trailers_length, are_short, has_trailers}
use Rattle.link_http1.specs.Chunks.{broken, onto, behind_data, behind_size, decoded_from, decoded}
use Rattle.link_http1.specs.declared.place.Place.{Place}
use Rattle.link_http1.specs.declared.place.Place.TheVariants.{Size, Blanks, Extension, LineEnd, Data, Trailers, Trailer}
use Rattle.link_http1.specs.declared.place.Place.TheVariants.{TrailerEnd, LastEnd}
use Rattle.link_http1.specs.declared.place.Turn.{Turn}
use Rattle.link_http1.specs.declared.place.Turn.TheVariants.{To, Broken}
use Rattle.link_http1.specs.Private.Places.{decoded_at, behind_turn, behind_line, behind_digits, in_size, in_extension}
use Rattle.link_http1.specs.Private.Places.{at_trailer}
use Rattle.link_http1.proofs.PlaceLemmas.{choice}

-- ---- tests

pub fails_eq : (m n : ℕ) → m ≢ n → (m == n) ≡ false
fails_eq m n other = elim (eqb_tells m n) [ inl h ↦ absurd (other h.1) | inr h ↦ h.0 ]

-- ---- lines

-- what follows the CR of a CRLF
abbrev behind_lf : List ℕ → Option (List ℕ)
behind_lf [] = None
behind_lf (byte ∷ rest) = if byte == 10 then Some rest else None

-- what follows the line at the front
abbrev tail_of : List ℕ → Option (List ℕ)
tail_of bytes = behind_crlf (drop (length (line_of bytes)) bytes)

line_of-more : (byte : ℕ) (bytes : List ℕ) → byte ≢ 13 → byte ≢ 10 → line_of (byte ∷ bytes) ≡ byte ∷ line_of bytes
line_of-more byte bytes no_cr no_lf =
    take_while-cons (λ b. not (b == 13 || b == 10)) byte bytes
    ∙ rw (fails_eq byte 13 no_cr, fails_eq byte 10 no_lf) refl

-- a byte that ends no line is the first of its line
cut_line-more : (byte : ℕ) (bytes : List ℕ) → byte ≢ 13 → byte ≢ 10 → cut_line (byte ∷ bytes)
    ≡ option_map (λ rest. (byte ∷ line_of bytes, rest)) (tail_of bytes)
cut_line-more byte bytes no_cr no_lf = rw (line_of-more byte bytes no_cr no_lf) refl

cut_line-cr : (rest : List ℕ) → cut_line (13 ∷ rest) ≡ option_map (λ r. ([], r)) (behind_lf rest)
cut_line-cr [] = refl
cut_line-cr (byte ∷ rest) = refl

cut_line-lf : (rest : List ℕ) → cut_line (10 ∷ rest) ≡ None
cut_line-lf [] = refl
cut_line-lf (byte ∷ rest) = refl

-- two readings of what follows two lines agree
through : {A : Type 0} (f g : List ℕ × List ℕ → Option A) (l m : List ℕ) (o : Option (List ℕ))
    → ((rest : List ℕ) → f (l, rest) ≡ g (m, rest))
    → option_and_then f (option_map (λ rest. (l, rest)) o) ≡ option_and_then g (option_map (λ rest. (m, rest)) o)
through f g l m None same = refl
through f g l m (Some rest) same = same rest

nothing : {A : Type 0} (f : List ℕ × List ℕ → Option A) (l : List ℕ) (o : Option (List ℕ))
    → ((rest : List ℕ) → f (l, rest) ≡ None)
    → option_and_then f (option_map (λ rest. (l, rest)) o) ≡ None
nothing f l None none = refl
nothing f l (Some rest) none = none rest

-- ---- data

abbrev chunks : List ℕ → Decoded
chunks bytes = decoded_at (Size 0 0) bytes

pub data-byte : (n byte : ℕ) (bytes : List ℕ) → decoded_at (Data (suc n)) (byte ∷ bytes)
    ≡ onto (byte ∷ []) (decoded_at (Data n) bytes)
data-byte n byte bytes =
    let test : (suc n == 0) ≡ false = fails_eq (suc n) 0 (λ e. omega (arith, e)) in
    let less : suc n - 1 ≡ n = omega arith in
    rw (test, less) refl

behind-data : (bytes : List ℕ) → decoded_at (Data 0) bytes ≡ behind_data chunks (behind_crlf bytes)
behind-data [] = refl
behind-data (byte ∷ []) = elim (eqb_tells byte 13) [ inl cr ↦ rw cr.0 refl | inr other ↦ rw other.0 refl ]
behind-data (byte ∷ next ∷ rest) =
    elim (eqb_tells byte 13) [
      | inl cr ↦ elim (eqb_tells next 10) [ inl lf ↦ rw (cr.0, lf.0) refl | inr other ↦ rw (cr.0, other.0) refl ]
      | inr other ↦ rw other.0 refl
    ]

data-decoded : (n : ℕ) (bytes : List ℕ) → decoded_at (Data n) bytes
    ≡ onto (take n bytes) (behind_data chunks (behind_crlf (drop n bytes)))
data-decoded zero bytes = behind-data bytes
data-decoded (suc n) [] = refl
data-decoded (suc n) (byte ∷ bytes) = data-byte n byte bytes ∙ ap (onto (byte ∷ [])) (data-decoded n bytes)

-- ---- the trailers

-- so many bytes more
abbrev plus : ℕ → Option ℕ → Option ℕ
plus n None = None
plus n (Some m) = Some (n + m)

-- the trailers end after so many bytes, where they end
abbrev trailers_end : Option ℕ → Decoded
trailers_end o = record { data_is = []; complete = are_short o }

-- how many bytes a line and the lines after it have, with so many before them
abbrev line_and_more : ℕ → ℕ → Option (List ℕ × List ℕ) → Option ℕ
line_and_more n most None = None
line_and_more n most (Some cut) = plus (n + length cut.0 + 2) (trailers_length most cut.1)

-- the empty line has two bytes
at_least_two : (most : ℕ) (cut : Option (List ℕ × List ℕ)) (m : ℕ) → behind_trailer (trailers_length most) cut
    ≡ Some m → 2 ≤ m
at_least_two most None m e = absurd (grind arith)
at_least_two most (Some cut) m e =
    choice (λ o. o ≡ Some m → 2 ≤ m) (length cut.0 == 0) (Some 2)
    (option_map (λ n. length cut.0 + 2 + n) (trailers_length most cut.1))
    (λ _ h. grind arith) (λ _. longer (trailers_length most cut.1)) e
  where
    longer : (o : Option ℕ) → option_map (λ n. length cut.0 + 2 + n) o ≡ Some m → 2 ≤ m
    longer None h = absurd (grind arith)
    longer (Some n) h = grind arith

trailers-two : (most : ℕ) (bytes : List ℕ) (m : ℕ) → trailers_length most bytes ≡ Some m → 2 ≤ m
trailers-two zero bytes m e = absurd (grind arith)
trailers-two (suc most) bytes m e = at_least_two most (cut_line bytes) m e

abbrev ended_as : Bool → Decoded
ended_as complete = record { data_is = []; complete = complete }

-- too many bytes before a line leave no room
too-long : (n most : ℕ) (byte : ℕ) (line : List ℕ) (o : Option (List ℕ)) → 8188 ≤ n
    → are_short (line_and_more n most (option_map (λ rest. (byte ∷ line, rest)) o)) ≡ false
too-long n most byte line None full = refl
too-long n most byte line (Some rest) full = from (trailers_length most rest) refl
  where
    from : (o : Option ℕ) → trailers_length most rest ≡ o → are_short (plus (n + length (byte ∷ line) + 2) o) ≡ false
    from None e = refl
    from (Some m) e = lt-leb (n + length (byte ∷ line) + 2 + m) 8192 (omega (arith, full, trailers-two most rest m e))

-- a byte of a line counts as one before it
one-more : (n most : ℕ) (byte : ℕ) (line : List ℕ) (o : Option (List ℕ))
    → line_and_more n most (option_map (λ rest. (byte ∷ line, rest)) o)
    ≡ line_and_more (n + 1) most (option_map (λ rest. (line, rest)) o)
one-more n most byte line None = refl
one-more n most byte line (Some rest) =
    let same : n + length (byte ∷ line) + 2 ≡ n + 1 + length line + 2 = omega arith in
    ap (λ k. plus k (trailers_length most rest)) same

-- a line that is not empty, and more lines
longer-line : (n most : ℕ) (byte : ℕ) (line : List ℕ) (o : Option (List ℕ))
    → plus n (behind_trailer (trailers_length most) (option_map (λ rest. (byte ∷ line, rest)) o))
    ≡ line_and_more n most (option_map (λ rest. (byte ∷ line, rest)) o)
longer-line n most byte line None = refl
longer-line n most byte line (Some rest) =
    let test : (length (byte ∷ line) == 0) ≡ false = fails_eq (length (byte ∷ line)) 0 (λ e. omega (arith, e)) in
    rw test (from (trailers_length most rest))
  where
    from : (o : Option ℕ) → plus n (option_map (λ m. length (byte ∷ line) + 2 + m) o)
        ≡ plus (n + length (byte ∷ line) + 2) o
    from None = refl
    from (Some m) = let same : n + (length (byte ∷ line) + 2 + m) ≡ n + length (byte ∷ line) + 2 + m = omega arith in
        ap Some same

-- after the CR of the empty line
last-decoded : (n most : ℕ) (rest : List ℕ) → n ≤ 8190
    → decoded_at LastEnd rest
    ≡ trailers_end (plus n (behind_trailer (trailers_length most) (option_map (λ r. ([], r)) (behind_lf rest))))
last-decoded n most [] within = refl
last-decoded n most (byte ∷ rest) within =
    elim (eqb_tells byte 10) [
      | inl lf ↦ let short : nat_le (n + 2) 8192 ≡ true = le-leb (n + 2) 8192 (omega (arith, within)) in
          rw (lf.0, short) refl
      | inr other ↦ rw other.0 refl
    ]

-- a byte of a line
trailer-goes : (byte n : ℕ) (end : Place) → byte ≢ 13 → byte ≢ 10 → n < 8188 → at_trailer byte n end
    ≡ To (Trailer (n + 1))
trailer-goes byte n end no_cr no_lf free =
    rw (fails_eq byte 13 no_cr, fails_eq byte 10 no_lf, lt-leb 8188 n free) refl

trailer-full : (byte n : ℕ) (end : Place) → byte ≢ 13 → byte ≢ 10 → 8188 ≤ n → at_trailer byte n end ≡ Broken
trailer-full byte n end no_cr no_lf full =
    rw (fails_eq byte 13 no_cr, fails_eq byte 10 no_lf, le-leb 8188 n full) refl

-- what is decoded after a turn, where these bytes follow
abbrev behind : List ℕ → Turn → Decoded
behind bytes to = behind_turn (λ next. decoded_at next bytes) to

empty-line : (n : ℕ) → n + 2 ≡ n + 0 + 2
empty-line n = omega arith

mutual
  -- before a line
  trailers-decoded : (bytes : List ℕ) (n most : ℕ) → length bytes ≤ most → n ≤ 8190 → decoded_at (Trailers n) bytes
      ≡ trailers_end (plus n (trailers_length most bytes))
  trailers-decoded [] n zero room within = refl
  trailers-decoded [] n (suc most) room within = refl
  trailers-decoded (byte ∷ bytes) n zero room within = absurd (omega (arith, room))
  trailers-decoded (byte ∷ bytes) n (suc most) room within =
      let room' : length bytes ≤ most = omega (arith, room) in
      elim (eqb_tells byte 13) [
        | inl cr ↦ rw (cr.1, cut_line-cr bytes) (last-decoded n most bytes within)
        | inr no_cr ↦
            elim (eqb_tells byte 10) [
              | inl lf ↦ rw (lf.1, cut_line-lf bytes) refl
              | inr no_lf ↦
                  let whole =
                  ap trailers_end
                  (ap (λ o. plus n (behind_trailer (trailers_length most) o))
                  (cut_line-more byte bytes no_cr.1 no_lf.1)
                  ∙ longer-line n most byte (line_of bytes) (tail_of bytes)) in
                  elim (leb_tells 8188 n) [
                    | inl full ↦
                        let none = too-long n most byte (line_of bytes) (tail_of bytes) full.1 in
                        ap (behind bytes) (trailer-full byte n LastEnd no_cr.1 no_lf.1 full.1)
                        ∙ sym (whole ∙ ap ended_as none)
                    | inr free ↦
                        ap (behind bytes) (trailer-goes byte n LastEnd no_cr.1 no_lf.1 free.1)
                        ∙ (trailer-decoded bytes (n + 1) most room' (omega (arith, free.1))
                        ∙ sym (whole ∙ ap trailers_end (one-more n most byte (line_of bytes) (tail_of bytes))))
                  ]
            ]
      ]

  -- in a line
  trailer-decoded : (bytes : List ℕ) (n most : ℕ) → length bytes ≤ most → n ≤ 8188 → decoded_at (Trailer n) bytes
      ≡ trailers_end (line_and_more n most (cut_line bytes))
  trailer-decoded [] n most room within = refl
  trailer-decoded (byte ∷ []) n most room within =
      elim (eqb_tells byte 13) [
        | inl cr ↦ rw (cr.1) refl
        | inr no_cr ↦
            elim (eqb_tells byte 10) [
              | inl lf ↦ rw (lf.1) refl
              | inr no_lf ↦
                  elim (leb_tells 8188 n) [
                    | inl full ↦ ap (behind []) (trailer-full byte n (TrailerEnd n) no_cr.1 no_lf.1 full.1)
                        ∙ sym (ap (λ o. trailers_end (line_and_more n most o)) (cut_line-more byte [] no_cr.1 no_lf.1))
                    | inr free ↦ ap (behind []) (trailer-goes byte n (TrailerEnd n) no_cr.1 no_lf.1 free.1)
                        ∙ sym (ap (λ o. trailers_end (line_and_more n most o)) (cut_line-more byte [] no_cr.1 no_lf.1))
                  ]
            ]
      ]
  trailer-decoded (byte ∷ next ∷ rest) n most room within =
      elim (eqb_tells byte 13) [
        | inl cr ↦
            elim (eqb_tells next 10) [
              | inl lf ↦
                  rw (cr.1, lf.1) (trailers-decoded rest (n + 2) most (omega (arith, room)) (omega (arith, within))
                  ∙ ap (λ k. trailers_end (plus k (trailers_length most rest))) (empty-line n))
              | inr other ↦ rw (cr.1, cut_line-cr (next ∷ rest), other.0) refl
            ]
        | inr no_cr ↦
            elim (eqb_tells byte 10) [
              | inl lf ↦ rw (lf.1) refl
              | inr no_lf ↦
                  let whole =
                  ap (λ o. trailers_end (line_and_more n most o))
                  (cut_line-more byte (next ∷ rest) no_cr.1 no_lf.1) in
                  elim (leb_tells 8188 n) [
                    | inl full ↦
                        let none = too-long n most byte (line_of (next ∷ rest)) (tail_of (next ∷ rest)) full.1 in
                        ap (behind (next ∷ rest)) (trailer-full byte n (TrailerEnd n) no_cr.1 no_lf.1 full.1)
                        ∙ sym (whole ∙ ap ended_as none)
                    | inr free ↦
                        ap (behind (next ∷ rest)) (trailer-goes byte n (TrailerEnd n) no_cr.1 no_lf.1 free.1)
                        ∙ (trailer-decoded (next ∷ rest) (n + 1) most (omega (arith, room)) (omega (arith, free.1))
                        ∙ sym (whole
                        ∙ ap trailers_end (one-more n most byte (line_of (next ∷ rest)) (tail_of (next ∷ rest)))))
                  ]
            ]
      ]

trailers-whole : (bytes : List ℕ) → decoded_at (Trailers 0) bytes
    ≡ record { data_is = []; complete = has_trailers bytes }
trailers-whole bytes = trailers-decoded bytes 0 (length bytes) (omega arith) (omega arith)
    ∙ ap trailers_end (none-more (trailers_length (length bytes) bytes))
  where
    none-more : (o : Option ℕ) → plus 0 o ≡ o
    none-more None = refl
    none-more (Some m) = let same : 0 + m ≡ m = omega arith in ap Some same

-- ---- the line of a chunk

-- after the line of a chunk
behind-line : (size : ℕ) (rest : List ℕ) → decoded_at (behind_line size) rest ≡ behind_size chunks (Some (size, rest))
behind-line size rest =
    elim (eqb_tells size 0) [
      | inl none ↦ let whole = trailers-whole rest in rw none.0 whole
      | inr some ↦ let data_ = data-decoded size rest in rw some.0 data_
    ]

line_end-decoded : (size : ℕ) (rest : List ℕ) → decoded_at (LineEnd size) rest
    ≡ behind_size chunks (option_map (λ r. (size, r)) (behind_lf rest))
line_end-decoded size [] = refl
line_end-decoded size (byte ∷ rest) =
    elim (eqb_tells byte 10) [
      | inl lf ↦ let whole = behind-line size rest in rw lf.0 whole
      | inr other ↦ rw other.0 refl
    ]

-- the size and the rest, where the line of a chunk is short enough, the bytes before these included
abbrev in_line : ℕ → ℕ → List ℕ × List ℕ → Option (ℕ × List ℕ)
in_line size line cut = if nat_le (line + length cut.0 + 2) 4096 then Some (size, cut.1) else None

abbrev in_blanks : ℕ → ℕ → List ℕ × List ℕ → Option (ℕ × List ℕ)
in_blanks size line cut =
    if is_extension (trimmed_start tab_or_space cut.0) && nat_le (line + length cut.0 + 2) 4096
    then Some (size, cut.1) else None

abbrev in_digits : ℕ → ℕ → List ℕ × List ℕ → Option (ℕ × List ℕ)
in_digits digits value cut =
    if nat_le 1 (digits + length (size_digits cut.0)) && nat_le (digits + length (size_digits cut.0)) 16
    && is_extension (trimmed_start tab_or_space (drop (length (size_digits cut.0)) cut.0))
    && nat_le (digits + length cut.0 + 2) 4096
    then Some (digits_value_after 16 value (size_digits cut.0), cut.1) else None

-- at the end of the line
ends : (f : List ℕ × List ℕ → Option (ℕ × List ℕ)) (size : ℕ) (rest : List ℕ)
    → ((r : List ℕ) → f ([], r) ≡ Some (size, r))
    → decoded_at (LineEnd size) rest ≡ behind_size chunks (option_and_then f (cut_line (13 ∷ rest)))
ends f size rest same =
    line_end-decoded size rest
    ∙ ap (behind_size chunks) (sym (ap (option_and_then f) (cut_line-cr rest) ∙ shown (behind_lf rest)))
  where
    shown : (o : Option (List ℕ)) → option_and_then f (option_map (λ r. ([], r)) o) ≡ option_map (λ r. (size, r)) o
    shown None = refl
    shown (Some r) = same r

-- a line that does not fit
misfits : (f : List ℕ × List ℕ → Option (ℕ × List ℕ)) (byte : ℕ) (rest : List ℕ) → byte ≢ 13 → byte ≢ 10
    → ((r : List ℕ) → f (byte ∷ line_of rest, r) ≡ None)
    → broken ≡ behind_size chunks (option_and_then f (cut_line (byte ∷ rest)))
misfits f byte rest no_cr no_lf none =
    ap (behind_size chunks) (sym (ap (option_and_then f) (cut_line-more byte rest no_cr no_lf)
    ∙ nothing f (byte ∷ line_of rest) (tail_of rest) none))

-- a line that goes on
goes-on : (f g : List ℕ × List ℕ → Option (ℕ × List ℕ)) (byte : ℕ) (rest : List ℕ) → byte ≢ 13 → byte ≢ 10
    → ((r : List ℕ) → f (byte ∷ line_of rest, r) ≡ g (line_of rest, r))
    → behind_size chunks (option_and_then g (cut_line rest))
    ≡ behind_size chunks (option_and_then f (cut_line (byte ∷ rest)))
goes-on f g byte rest no_cr no_lf same =
    ap (behind_size chunks) (sym (ap (option_and_then f) (cut_line-more byte rest no_cr no_lf)
    ∙ through f g (byte ∷ line_of rest) (line_of rest) (tail_of rest) same))

abbrev at_line_feed : (f : List ℕ × List ℕ → Option (ℕ × List ℕ)) (rest : List ℕ) → Type 0
at_line_feed f rest = broken ≡ behind_size chunks (option_and_then f (cut_line (10 ∷ rest)))

line-feed : (f : List ℕ × List ℕ → Option (ℕ × List ℕ)) (rest : List ℕ) → at_line_feed f rest
line-feed f rest = ap (behind_size chunks) (sym (ap (option_and_then f) (cut_line-lf rest)))

-- the counts of one more byte
room-more : (line : ℕ) (byte : ℕ) (text : List ℕ) → nat_le (line + length (byte ∷ text) + 2) 4096
    ≡ nat_le (line + 1 + length text + 2) 4096
room-more line byte text = let same : line + length (byte ∷ text) + 2 ≡ line + 1 + length text + 2 = omega arith in
    ap (λ n. nat_le n 4096) same

room-none : (line : ℕ) (byte : ℕ) (text : List ℕ) → 4094 ≤ line → nat_le (line + length (byte ∷ text) + 2) 4096 ≡ false
room-none line byte text full = lt-leb (line + length (byte ∷ text) + 2) 4096 (omega (arith, full))

room-end : (line : ℕ) → line ≤ 4094 → nat_le (line + 0 + 2) 4096 ≡ true
room-end line within = le-leb (line + 0 + 2) 4096 (omega (arith, within))

in_line-more : (size line byte : ℕ) (text r : List ℕ) → in_line size line (byte ∷ text, r)
    ≡ in_line size (line + 1) (text, r)
in_line-more size line byte text r = ap (λ b. if b then Some (size, r) else None) (room-more line byte text)

in_line-none : (size line byte : ℕ) (text r : List ℕ) → 4094 ≤ line → in_line size line (byte ∷ text, r) ≡ None
in_line-none size line byte text r full = ap (λ b. if b then Some (size, r) else None) (room-none line byte text full)

in_extension-full : (size line byte : ℕ) → byte ≢ 13 → byte ≢ 10 → 4094 ≤ line → in_extension size line byte ≡ Broken
in_extension-full size line byte no_cr no_lf full =
    rw (fails_eq byte 13 no_cr, fails_eq byte 10 no_lf, le-leb 4094 line full) refl

in_extension-goes : (size line byte : ℕ) → byte ≢ 13 → byte ≢ 10 → line < 4094 → in_extension size line byte
    ≡ To (Extension size (line + 1))
in_extension-goes size line byte no_cr no_lf free =
    rw (fails_eq byte 13 no_cr, fails_eq byte 10 no_lf, lt-leb 4094 line free) refl

extension-decoded : (bytes : List ℕ) (size line : ℕ) → line ≤ 4094 → decoded_at (Extension size line) bytes
    ≡ behind_size chunks (option_and_then (in_line size line) (cut_line bytes))
extension-decoded [] size line within = refl
extension-decoded (byte ∷ rest) size line within =
    elim (eqb_tells byte 13) [
      | inl cr ↦
          rw cr.1 (ends (in_line size line) size rest
          (λ r. ap (λ b. if b then Some (size, r) else None) (room-end line within)))
      | inr no_cr ↦
          elim (eqb_tells byte 10) [
            | inl lf ↦ rw lf.1 (line-feed (in_line size line) rest)
            | inr no_lf ↦
                elim (leb_tells 4094 line) [
                  | inl full ↦ ap (behind rest) (in_extension-full size line byte no_cr.1 no_lf.1 full.1)
                      ∙ misfits (in_line size line) byte rest no_cr.1 no_lf.1
                      (λ r. in_line-none size line byte (line_of rest) r full.1)
                  | inr free ↦
                      ap (behind rest) (in_extension-goes size line byte no_cr.1 no_lf.1 free.1)
                      ∙ extension-decoded rest size (line + 1) (omega (arith, free.1))
                      ∙ goes-on (in_line size line) (in_line size (line + 1)) byte rest no_cr.1 no_lf.1
                      (λ r. in_line-more size line byte (line_of rest) r)
                ]
          ]
    ]

-- ---- blanks

-- a blank in front is trimmed
trimmed-blank : (byte : ℕ) (text : List ℕ) → (byte ≡ 9) ⊎ (byte ≡ 32) → trimmed_start tab_or_space (byte ∷ text)
    ≡ trimmed_start tab_or_space text
trimmed-blank byte text (inl tab) = rw tab refl
trimmed-blank byte text (inr space) = rw space refl

trimmed-other : (byte : ℕ) (text : List ℕ) → byte ≢ 9 → byte ≢ 32 → trimmed_start tab_or_space (byte ∷ text) ≡ byte
    ∷ text
trimmed-other byte text no_tab no_space =
    rw (fails_eq 9 byte (λ e. no_tab (sym e)), fails_eq 32 byte (λ e. no_space (sym e))) refl

-- the size and the rest, where a test holds
abbrev given : ℕ → List ℕ → Bool → Option (ℕ × List ℕ)
given size r test = if test then Some (size, r) else None

blanks-blank : (size line byte : ℕ) (text r : List ℕ) → (byte ≡ 9) ⊎ (byte ≡ 32)
    → in_blanks size line (byte ∷ text, r) ≡ in_blanks size (line + 1) (text, r)
blanks-blank size line byte text r blank =
    ap (given size r) (ap (λ t. is_extension t && nat_le (line + length (byte ∷ text) + 2) 4096)
    (trimmed-blank byte text blank)
    ∙ ap (λ b. is_extension (trimmed_start tab_or_space text) && b) (room-more line byte text))

blanks-semicolon : (size line : ℕ) (text r : List ℕ) → in_blanks size line (59 ∷ text, r)
    ≡ in_line size (line + 1) (text, r)
blanks-semicolon size line text r =
    ap (given size r) (room-more line 59 text)

blanks-other : (size line byte : ℕ) (text r : List ℕ) → byte ≢ 9 → byte ≢ 32 → byte ≢ 59
    → in_blanks size line (byte ∷ text, r) ≡ None
blanks-other size line byte text r no_tab no_space no_semicolon =
    ap (given size r) (ap (λ t. is_extension t && nat_le (line + length (byte ∷ text) + 2) 4096)
    (trimmed-other byte text no_tab no_space)
    ∙ ap (λ b. b && nat_le (line + length (byte ∷ text) + 2) 4096) (fails_eq byte 59 no_semicolon))

blanks-none : (size line byte : ℕ) (text r : List ℕ) → 4094 ≤ line → in_blanks size line (byte ∷ text, r) ≡ None
blanks-none size line byte text r full =
    ap (given size r) (ap (λ b. is_extension (trimmed_start tab_or_space (byte ∷ text))
    && b) (room-none line byte text full) ∙ and-false (is_extension (trimmed_start tab_or_space (byte ∷ text))))

digits-full : (size line byte : ℕ) → byte ≢ 13 → 4094 ≤ line → behind_digits size line byte ≡ Broken
digits-full size line byte no_cr full = rw (fails_eq byte 13 no_cr, le-leb 4094 line full) refl

digits-blank : (size line byte : ℕ) → byte ≢ 13 → line < 4094 → (byte ≡ 9) ⊎ (byte ≡ 32)
    → behind_digits size line byte ≡ To (Blanks size (line + 1))
digits-blank size line byte no_cr free (inl tab) = rw (tab, lt-leb 4094 line free) refl
digits-blank size line byte no_cr free (inr space) = rw (space, lt-leb 4094 line free) refl

digits-semicolon : (size line : ℕ) → line < 4094 → behind_digits size line 59 ≡ To (Extension size (line + 1))
digits-semicolon size line free = rw (lt-leb 4094 line free) refl

digits-other : (size line byte : ℕ) → byte ≢ 13 → byte ≢ 9 → byte ≢ 32 → byte ≢ 59 → behind_digits size line byte
    ≡ Broken
digits-other size line byte no_cr no_tab no_space no_semicolon =
    elim (leb_tells 4094 line) [
      | inl full ↦ digits-full size line byte no_cr full.1
      | inr free ↦ rw (
        fails_eq byte 13 no_cr,
        lt-leb 4094 line free.1,
        fails_eq byte 9 no_tab,
        fails_eq byte 32 no_space,
        fails_eq byte 59 no_semicolon,
      ) refl
    ]

-- after the digits, or after blanks
blanks-decoded : (bytes : List ℕ) (size line : ℕ) → line ≤ 4094 → decoded_at (Blanks size line) bytes
    ≡ behind_size chunks (option_and_then (in_blanks size line) (cut_line bytes))
blanks-decoded [] size line within = refl
blanks-decoded (byte ∷ rest) size line within =
    let f : List ℕ × List ℕ → Option (ℕ × List ℕ) = in_blanks size line in
    elim (eqb_tells byte 13) [
      | inl cr ↦ rw cr.1 (ends f size rest (λ r. ap (given size r) (room-end line within)))
      | inr no_cr ↦
          elim (eqb_tells byte 10) [
            | inl lf ↦
                rw lf.1 (ap (behind rest)
                (digits-other size line 10 (λ e. omega (arith, e)) (λ e. omega (arith, e)) (λ e. omega (arith, e))
                (λ e. omega (arith, e))) ∙ line-feed f rest)
            | inr no_lf ↦
                elim (leb_tells 4094 line) [
                  | inl full ↦ ap (behind rest) (digits-full size line byte no_cr.1 full.1)
                      ∙ misfits f byte rest no_cr.1 no_lf.1 (λ r. blanks-none size line byte (line_of rest) r full.1)
                  | inr free ↦
                      let blank : (byte ≡ 9) ⊎ (byte ≡ 32) → decoded_at (Blanks size line) (byte ∷ rest)
                      ≡ behind_size chunks (option_and_then f (cut_line (byte ∷ rest))) =
                      λ b. ap (behind rest) (digits-blank size line byte no_cr.1 free.1 b)
                      ∙ blanks-decoded rest size (line + 1) (omega (arith, free.1))
                      ∙ goes-on f (in_blanks size (line + 1)) byte rest no_cr.1 no_lf.1
                      (λ r. blanks-blank size line byte (line_of rest) r b) in
                      elim (eqb_tells byte 9) [
                        | inl tab ↦ blank (inl tab.1)
                        | inr no_tab ↦
                            elim (eqb_tells byte 32) [
                              | inl space ↦ blank (inr space.1)
                              | inr no_space ↦
                                  elim (eqb_tells byte 59) [
                                    | inl semicolon ↦
                                        rw semicolon.1 (ap (behind rest) (digits-semicolon size line free.1)
                                        ∙ extension-decoded rest size (line + 1) (omega (arith, free.1))
                                        ∙ goes-on f (in_line size (line + 1)) 59 rest (λ e. omega (arith, e))
                                        (λ e. omega (arith, e)) (λ r. blanks-semicolon size line (line_of rest) r))
                                    | inr no_semicolon ↦
                                        ap (behind rest)
                                        (digits-other size line byte no_cr.1 no_tab.1 no_space.1 no_semicolon.1)
                                        ∙ misfits f byte rest no_cr.1 no_lf.1
                                        (λ r. blanks-other size line byte (line_of rest) r no_tab.1 no_space.1
                                        no_semicolon.1)
                                  ]
                            ]
                      ]
                ]
          ]
    ]

-- ---- digits

size_digits-more : (byte : ℕ) (text : List ℕ) → is_ascii_hexdigit byte ≡ true → size_digits (byte ∷ text) ≡ byte
    ∷ size_digits text
size_digits-more byte text digit = take_while-cons is_ascii_hexdigit byte text ∙ rw digit refl

size_digits-end : (byte : ℕ) (text : List ℕ) → is_ascii_hexdigit byte ≡ false → size_digits (byte ∷ text) ≡ []
size_digits-end byte text other = take_while-cons is_ascii_hexdigit byte text ∙ rw other refl

-- the same with the digits at hand
abbrev with_digits : ℕ → ℕ → List ℕ → List ℕ × List ℕ → Option (ℕ × List ℕ)
with_digits digits value front cut =
    if nat_le 1 (digits + length front) && nat_le (digits + length front) 16
    && is_extension (trimmed_start tab_or_space (drop (length front) cut.0)) && nat_le (digits + length cut.0 + 2) 4096
    then Some (digits_value_after 16 value front, cut.1) else None

digit-more : (digits value byte : ℕ) (text r : List ℕ) → is_ascii_hexdigit byte ≡ true
    → in_digits digits value (byte ∷ text, r) ≡ in_digits (digits + 1) (value * 16 + digit_value byte) (text, r)
digit-more digits value byte text r digit =
    let front : List ℕ = size_digits text in
    let count : digits + length (byte ∷ front) ≡ digits + 1 + length front = omega arith in
    let test : Bool = is_extension (trimmed_start tab_or_space (drop (length front) text)) in
    ap (λ d. with_digits digits value d (byte ∷ text, r)) (size_digits-more byte text digit)
    ∙ ap (given (digits_value_after 16 (value * 16 + digit_value byte) front) r)
    (ap (λ n. nat_le 1 n && nat_le n 16 && test && nat_le (digits + length (byte ∷ text) + 2) 4096) count
    ∙ ap (λ b. nat_le 1 (digits + 1 + length front) && nat_le (digits + 1 + length front) 16 && test
    && b) (room-more digits byte text))

digit-none : (value byte : ℕ) (text r : List ℕ) → is_ascii_hexdigit byte ≡ true → in_digits 16 value (byte ∷ text, r)
    ≡ None
digit-none value byte text r digit =
    let front : List ℕ = size_digits text in
    let test : Bool = is_extension (trimmed_start tab_or_space (drop (length front) text)) in
    let more : Bool = nat_le (16 + length (byte ∷ text) + 2) 4096 in
    let full : nat_le (16 + length (byte ∷ front)) 16 ≡ false = lt-leb (16 + length (byte ∷ front)) 16 (omega arith)
    in
    ap (λ d. with_digits 16 value d (byte ∷ text, r)) (size_digits-more byte text digit)
    ∙ ap (given (digits_value_after 16 (value * 16 + digit_value byte) front) r)
    (ap (λ b. nat_le 1 (16 + length (byte ∷ front)) && b && test && more) full
    ∙ ap (λ b. b && test && more) (and-false (nat_le 1 (16 + length (byte ∷ front)))))

-- after one digit or more, what follows is read as after blanks
no-digit : (digits value : ℕ) (text r : List ℕ) → 1 ≤ digits → digits ≤ 16 → size_digits text ≡ []
    → in_digits digits value (text, r) ≡ in_blanks value digits (text, r)
no-digit digits value text r some few none =
    let first : nat_le 1 (digits + 0) ≡ true = le-leb 1 (digits + 0) (omega (arith, some)) in
    let second : nat_le (digits + 0) 16 ≡ true = le-leb (digits + 0) 16 (omega (arith, few)) in
    ap (λ d. with_digits digits value d (text, r)) none
    ∙ ap (given value r) (ap (λ b. b && nat_le (digits + 0) 16 && is_extension (trimmed_start tab_or_space text)
    && nat_le (digits + length text + 2) 4096) first
    ∙ ap (λ b. b && is_extension (trimmed_start tab_or_space text) && nat_le (digits + length text + 2) 4096) second)

-- and without a digit nothing fits
first-no-digit : (value : ℕ) (text r : List ℕ) → size_digits text ≡ [] → in_digits 0 value (text, r) ≡ None
first-no-digit value text r none = ap (λ d. with_digits 0 value d (text, r)) none

-- a line that begins with a byte that is no digit has no digits in front
front-none : (byte : ℕ) (rest : List ℕ) → is_ascii_hexdigit byte ≡ false → size_digits (line_of (byte ∷ rest)) ≡ []
front-none byte rest other =
    elim (eqb_tells byte 13) [
      | inl cr ↦ rw cr.1 refl
      | inr no_cr ↦
          elim (eqb_tells byte 10) [
            | inl lf ↦ rw lf.1 refl
            | inr no_lf ↦ ap size_digits (line_of-more byte rest no_cr.1 no_lf.1)
                ∙ size_digits-end byte (line_of rest) other
          ]
    ]

digit-no-end : (byte : ℕ) → is_ascii_hexdigit byte ≡ true → (byte ≢ 13) × (byte ≢ 10)
digit-no-end byte digit = ((λ e. grind (arith, common_steps)), (λ e. grind (arith, common_steps)))

in_size-digit : (digits value byte : ℕ) → is_ascii_hexdigit byte ≡ true → digits ≢ 16 → in_size digits value byte
    ≡ To (Size (digits + 1) (value * 16 + digit_value byte))
in_size-digit digits value byte digit fewer = rw (digit, fails_eq digits 16 fewer) refl

in_size-full : (value byte : ℕ) → is_ascii_hexdigit byte ≡ true → in_size 16 value byte ≡ Broken
in_size-full value byte digit = rw digit refl

in_size-first : (value byte : ℕ) → is_ascii_hexdigit byte ≡ false → in_size 0 value byte ≡ Broken
in_size-first value byte other = rw other refl

in_size-behind : (digits value byte : ℕ) → is_ascii_hexdigit byte ≡ false → digits ≢ 0 → in_size digits value byte
    ≡ behind_digits value digits byte
in_size-behind digits value byte other some = rw (other, fails_eq digits 0 some) refl

-- what is to be shown in the digits
abbrev InDigits : ℕ → ℕ → List ℕ → Type 0
InDigits digits value bytes = decoded_at (Size digits value) bytes
    ≡ behind_size chunks (option_and_then (in_digits digits value) (cut_line bytes))

size-cases : (digits value byte : ℕ) (rest : List ℕ) → digits ≤ 16 → ((d v : ℕ) → d ≤ 16 → InDigits d v rest)
    → (test : Bool) → is_ascii_hexdigit byte ≡ test → InDigits digits value (byte ∷ rest)
size-cases digits value byte rest few later true digit =
    let f : List ℕ × List ℕ → Option (ℕ × List ℕ) = in_digits digits value in
    let no_end = digit-no-end byte digit in
    elim (eqb_tells digits 16) [
      | inl full ↦
          let same : digits ≡ 16 = full.1 in
          ap (λ d. behind rest (in_size d value byte)) same ∙ ap (behind rest) (in_size-full value byte digit)
          ∙ misfits f byte rest no_end.0 no_end.1 (λ r. ap (λ d. in_digits d value (byte ∷ line_of rest, r)) same
          ∙ digit-none value byte (line_of rest) r digit)
      | inr fewer ↦
          ap (behind rest) (in_size-digit digits value byte digit fewer.1)
          ∙ later (digits + 1) (value * 16 + digit_value byte) (omega (arith, few, fewer.1))
          ∙ goes-on f (in_digits (digits + 1) (value * 16 + digit_value byte)) byte rest no_end.0 no_end.1
          (λ r. digit-more digits value byte (line_of rest) r digit)
    ]
size-cases digits value byte rest few later false other =
    let f : List ℕ × List ℕ → Option (ℕ × List ℕ) = in_digits digits value in
    let front = front-none byte rest other in
    elim (eqb_tells digits 0) [
      | inl none ↦
          let same : digits ≡ 0 = none.1 in
          ap (λ d. behind rest (in_size d value byte)) same ∙ ap (behind rest) (in_size-first value byte other)
          ∙ ap (behind_size chunks)
          (sym (nothing f (line_of (byte ∷ rest)) (tail_of (byte ∷ rest))
          (λ r. ap (λ d. in_digits d value (line_of (byte ∷ rest), r)) same
          ∙ first-no-digit value (line_of (byte ∷ rest)) r front)))
      | inr some ↦
          ap (behind rest) (in_size-behind digits value byte other some.1)
          ∙ blanks-decoded (byte ∷ rest) value digits (omega (arith, few))
          ∙ ap (behind_size chunks)
          (sym (through f (in_blanks value digits) (line_of (byte ∷ rest)) (line_of (byte ∷ rest))
          (tail_of (byte ∷ rest))
          (λ r. no-digit digits value (line_of (byte ∷ rest)) r (omega (arith, some.1)) few front)))
    ]

size-decoded : (bytes : List ℕ) (digits value : ℕ) → digits ≤ 16 → InDigits digits value bytes
size-decoded [] digits value few = refl
size-decoded (byte ∷ rest) digits value few =
    size-cases digits value byte rest few (λ d v h. size-decoded rest d v h) (is_ascii_hexdigit byte) refl

-- ---- the whole

-- without digits so far the line is a whole one
first-line : (cut : List ℕ × List ℕ) → in_digits 0 0 cut ≡ size_and_rest cut
first-line cut =
    let count : 0 + length (size_digits cut.0) ≡ length (size_digits cut.0) = omega arith in
    let whole : 0 + length cut.0 ≡ length cut.0 = omega arith in
    ap (given (digits_value_after 16 0 (size_digits cut.0)) cut.1)
    (ap (λ n. nat_le 1 n && nat_le n 16
    && is_extension (trimmed_start tab_or_space (drop (length (size_digits cut.0)) cut.0))
    && nat_le (0 + length cut.0 + 2) 4096) count
    ∙ ap (λ n. nat_le 1 (length (size_digits cut.0)) && nat_le (length (size_digits cut.0)) 16
    && is_extension (trimmed_start tab_or_space (drop (length (size_digits cut.0)) cut.0))
    && nat_le (n + 2) 4096) whole)

chunks-step : (bytes : List ℕ) → chunks bytes ≡ behind_size chunks (cut_size bytes)
chunks-step bytes =
    size-decoded bytes 0 0 (omega arith)
    ∙ ap (behind_size chunks) (through (in_digits 0 0) size_and_rest (line_of bytes) (line_of bytes) (tail_of bytes)
    (λ r. first-line (line_of bytes, r)))

-- two ways to go on that agree on what is shorter
module _ (f g : List ℕ → Decoded) (most : ℕ) (same : (rest : List ℕ) → length rest ≤ most → f rest ≡ g rest) where
  same-behind-data : (bytes : List ℕ) → length bytes ≤ most → behind_data f (behind_crlf bytes)
      ≡ behind_data g (behind_crlf bytes)
  same-behind-data [] room = refl
  same-behind-data (byte ∷ []) room = refl
  same-behind-data (byte ∷ next ∷ rest) room =
      choice (λ o. behind_data f o ≡ behind_data g o) (byte == 13
      && next == 10) (Some rest) None (λ _. same rest (omega (arith, room))) (λ _. refl)

  same-behind-size : (size : ℕ) (rest : List ℕ) → length rest ≤ most → behind_size f (Some (size, rest))
      ≡ behind_size g (Some (size, rest))
  same-behind-size size rest room =
      let shorter : length (drop size rest) ≤ most = omega (arith, room, length-drop size rest) in
      ap (λ d. if size == 0 then record { data_is = []; complete = has_trailers rest }
      else onto (take size rest) d) (same-behind-data (drop size rest) shorter)

  same-behind-line : (line bytes : List ℕ) → length bytes ≤ suc most
      → behind_size f (option_and_then size_and_rest (option_map (λ r. (line, r)) (behind_crlf bytes)))
      ≡ behind_size g (option_and_then size_and_rest (option_map (λ r. (line, r)) (behind_crlf bytes)))
  same-behind-line line [] room = refl
  same-behind-line line (byte ∷ []) room = refl
  same-behind-line line (byte ∷ next ∷ rest) room =
      choice (λ o. behind_size f (option_and_then size_and_rest (option_map (λ r. (line, r)) o))
      ≡ behind_size g (option_and_then size_and_rest (option_map (λ r. (line, r)) o)))
      (byte == 13 && next == 10) (Some rest) None
      (λ _. choice (λ o. behind_size f o ≡ behind_size g o) (is_size_line line) _ None
      (λ _. same-behind-size _ rest (omega (arith, room))) (λ _. refl)) (λ _. refl)

  same-step : (bytes : List ℕ) → length bytes ≤ suc most → behind_size f (cut_size bytes)
      ≡ behind_size g (cut_size bytes)
  same-step bytes room =
      same-behind-line (line_of bytes) (drop (length (line_of bytes)) bytes)
      (omega (arith, room, length-drop (length (line_of bytes)) bytes))

decoded_from-chunks : (most : ℕ) (bytes : List ℕ) → length bytes ≤ most → decoded_from most bytes ≡ chunks bytes
decoded_from-chunks zero [] room = refl
decoded_from-chunks zero (byte ∷ bytes) room = absurd (omega (arith, room))
decoded_from-chunks (suc most) bytes room =
    same-step (decoded_from most) chunks most (λ rest h. decoded_from-chunks most rest h) bytes room
    ∙ sym (chunks-step bytes)

-- The bytes of a chunked body decode to what the reader's places make of them.
pub decoded-chunks : (bytes : List ℕ) → decoded bytes ≡ decoded_at (Size 0 0) bytes
decoded-chunks bytes = decoded_from-chunks (length bytes) bytes (omega arith)
