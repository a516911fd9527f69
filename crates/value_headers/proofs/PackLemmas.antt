-- Headers that stand one behind the other: what stays of them, and what one more makes of them.
use Rattle.std.proofs.Common.{◌≡◌, ℕ, ◌≤◌, ◌+◌, ◌-◌, List, [], ◌∷◌, ◌++◌, length, take, drop, map, refl, ap, ◌∙◌, arith}
use Rattle.std.proofs.Common.{All, length-append, suc, zero, true, false}
use Rattle.std.proofs.Common.{◌≢◌, ◌<◌, nat_eq, slice_index_or, sym}
use Rattle.std.specs.Char.{to_ascii_lowercase}
use Rattle.std.specs.Cmp.Lexicographic.{unequal}
use Rattle.std.specs.Str.{str_eq_ignore_ascii_case, str_to_ascii_lowercase}
use Rattle.std.proofs.Math.Seq.{drop-append_seam, take-length}
use Rattle.std.proofs.lemmas.List.{at_drop_more, drop-drop, drop-take}
use Rattle.std.proofs.lemmas.List.{length-drop, length-map, length-take-le, take-take}
use Rattle.std.proofs.lemmas.List.Elements.{All-append, All-cons, All-head, All-nil, All-tail}
use Rattle.value_lemmas.proofs.Lists.{take-drop-append}
use Rattle.value_headers.specs.Headers.{is_named, values_of}
use Rattle.value_headers.specs.Private.Packs.{IsWithin, header_at}
use Rattle.value_headers.specs.declared.headers.Header.{Header}
use Rattle.value_headers.specs.declared.packed.Place.{Place}

-- the bytes that are added are the last part
last-part : (bytes part : List ℕ) (start end : ℕ) → start ≡ length bytes → end ≡ length bytes + length part
    → take (end - start) (drop start (bytes ++ part)) ≡ part
last-part bytes part start end is to =
    let count : end - start ≡ length part = omega arith in
    rw (count, is, drop-append_seam bytes part) (take-length part)

-- a header stays
header-stays : (bytes more : List ℕ) (place : Place) → IsWithin (length bytes) place
    → header_at (bytes ++ more) place ≡ header_at bytes place
header-stays bytes more place within =
    rw (
      take-drop-append bytes more place.start place.middle within.0 (omega (arith, within.1.0, within.1.1)),
      take-drop-append bytes more place.middle place.end within.1.0 within.1.1,
    ) refl

-- headers stay where bytes are added behind them
pub headers_stay : (bytes more : List ℕ) (places : List Place) → All (IsWithin (length bytes)) places
    → map (header_at (bytes ++ more)) places ≡ map (header_at bytes) places
headers_stay bytes more [] within = refl
headers_stay bytes more (place ∷ places) within =
    rw (
      header-stays bytes more place (All-head (IsWithin (length bytes)) place places within),
      headers_stay bytes more places (All-tail (IsWithin (length bytes)) place places within),
    ) refl

-- what was within the bytes is within more of them
within-more : (count more : ℕ) (places : List Place) → count ≤ more → All (IsWithin count) places
    → All (IsWithin more) places
within-more count more [] few within = All-nil (IsWithin more)
within-more count more (place ∷ places) few within =
    let first = All-head (IsWithin count) place places within in
    All-cons (IsWithin more) place places (first.0, (first.1.0, omega (arith, first.1.1)))
    (within-more count more places few (All-tail (IsWithin count) place places within))

-- and where more is added behind these
pub headers_stay_twice : (bytes more last : List ℕ) (places : List Place) → All (IsWithin (length bytes)) places
    → map (header_at ((bytes ++ more) ++ last)) places ≡ map (header_at bytes) places
headers_stay_twice bytes more last places within =
    headers_stay (bytes ++ more) last places
    (within-more (length bytes) (length (bytes ++ more)) places (omega (arith, length-append bytes more)) within)
    ∙ headers_stay bytes more places within

-- the header that was added
added : (bytes name value : List ℕ) (place : Place) → place.start ≡ length bytes → place.middle ≡ length (bytes ++ name)
    → place.end ≡ length ((bytes ++ name) ++ value)
    → header_at ((bytes ++ name) ++ value) place ≡ record { name = name; value = value }
added bytes name value place starts turns ends =
    let middle : place.middle ≡ length bytes + length name = turns ∙ length-append bytes name in
    let end : place.end ≡ length (bytes ++ name) + length value = ends ∙ length-append (bytes ++ name) value in
    rw (
      take-drop-append (bytes ++ name) value place.start place.middle (omega arith) (omega arith),
      last-part bytes name place.start place.middle starts middle,
      last-part (bytes ++ name) value place.middle place.end turns end,
    ) refl

-- one header more
pub one_more : (bytes name value : List ℕ) (places : List Place) (place : Place) → All (IsWithin (length bytes)) places
    → place.start ≡ length bytes → place.middle ≡ length (bytes ++ name)
    → place.end ≡ length ((bytes ++ name) ++ value)
    → map (header_at ((bytes ++ name) ++ value)) (places ++ place ∷ [])
    ≡ map (header_at bytes) places ++ record { name = name; value = value } ∷ []
one_more bytes name value [] place within starts turns ends =
    ap (λ (header : Header). header ∷ []) (added bytes name value place starts turns ends)
one_more bytes name value (first ∷ places) place within starts turns ends =
    let here = All-head (IsWithin (length bytes)) first places within in
    let later : IsWithin (length (bytes ++ name)) first =
    (here.0, (here.1.0, omega (arith, here.1.1, length-append bytes name))) in
    rw (
      header-stays (bytes ++ name) value first later,
      header-stays bytes name first here,
      one_more bytes name value places place (All-tail (IsWithin (length bytes)) first places within) starts turns ends,
    ) refl

-- and all are within the bytes
pub one_more_within : (bytes name value : List ℕ) (places : List Place) (place : Place)
    → All (IsWithin (length bytes)) places → place.start ≡ length bytes → place.middle ≡ length (bytes ++ name)
    → place.end ≡ length ((bytes ++ name) ++ value)
    → All (IsWithin (length ((bytes ++ name) ++ value))) (places ++ place ∷ [])
one_more_within bytes name value places place within starts turns ends =
    let count = length ((bytes ++ name) ++ value) in
    let more : length bytes ≤ count =
    omega (arith, length-append (bytes ++ name) value, length-append bytes name) in
    All-append (IsWithin count) places (place ∷ []) (within-more (length bytes) count places more within)
    (All-cons (IsWithin count) place []
    (omega (arith, length-append bytes name), (omega (arith, length-append (bytes ++ name) value), omega arith))
    (All-nil (IsWithin count)))

-- the values from a place on, where the header there has the name
pub values_named : (name bytes : List ℕ) (places : List Place) (i : ℕ) (d : Place) → i < length places
    → is_named name (header_at bytes (slice_index_or places i d)) ≡ true
    → values_of name (map (header_at bytes) (drop i places))
    ≡ (header_at bytes (slice_index_or places i d)).value ∷ values_of name (map (header_at bytes) (drop (i + 1) places))
values_named name bytes places i d less is =
    at_drop_more (λ (l : List Place). values_of name (map (header_at bytes) l)) places i d less ∙ rw is refl

-- and where it has another
pub values_other : (name bytes : List ℕ) (places : List Place) (i : ℕ) (d : Place) → i < length places
    → is_named name (header_at bytes (slice_index_or places i d)) ≡ false
    → values_of name (map (header_at bytes) (drop i places)) ≡ values_of name (map (header_at bytes) (drop (i + 1) places))
values_other name bytes places i d less is =
    at_drop_more (λ (l : List Place). values_of name (map (header_at bytes) l)) places i d less ∙ rw is refl

-- the headers before a place, and the one there
pub taken : (bytes : List ℕ) (places : List Place) (i : ℕ) (d : Place) → i < length places
    → take i (map (header_at bytes) places) ++ header_at bytes (slice_index_or places i d) ∷ []
    ≡ take (suc i) (map (header_at bytes) places)
taken bytes [] i d less = grind (arith, less)
taken bytes (place ∷ places) zero d less = refl
taken bytes (place ∷ places) (suc i) d less =
    ap (λ (l : List Header). header_at bytes place ∷ l) (taken bytes places i d (omega (arith, less)))

-- the header at a place, by its name and its value in one piece
pub of_both : (bytes : List ℕ) (place : Place) → IsWithin (length bytes) place
    → (let both : List ℕ = take (place.end - place.start) (drop place.start bytes) in
    let header : Header = record {
      name = take (place.middle - place.start) both;
      value = drop (place.middle - place.start) both;
    } in header ≡ header_at bytes place)
of_both bytes place within =
    let start = place.start in
    let named = place.middle - start in
    let long = place.end - place.middle in
    let whole : place.end - start ≡ named + long = omega (arith, within.0, within.1.0) in
    let middle : start + named ≡ place.middle = omega (arith, within.0) in
    let front = take-take named (place.end - start) (drop start bytes) (omega (arith, within.0, within.1.0)) in
    let behind = ap (λ (n : ℕ). drop named (take n (drop start bytes))) whole ∙ drop-take named long (drop start bytes)
    ∙ ap (take long) (drop-drop named start bytes ∙ ap (λ (n : ℕ). drop n bytes) middle) in
    rw (front, behind) refl

-- names of different lengths are not equal
unequal-lengths : (a b : List ℕ) → length a ≢ length b → str_eq_ignore_ascii_case a b ≡ false
unequal-lengths a b differ =
    unequal nat_eq (str_to_ascii_lowercase a) (str_to_ascii_lowercase b)
    (λ same. differ (sym (length-map a to_ascii_lowercase) ∙ same ∙ length-map b to_ascii_lowercase))

-- a header does not have a name of another length than its own
pub other_length : (name bytes : List ℕ) (place : Place) → IsWithin (length bytes) place
    → place.middle - place.start ≢ length name → is_named name (header_at bytes place) ≡ false
other_length name bytes place within differ =
    let long = length-take-le (place.middle - place.start) (drop place.start bytes)
    (omega (arith, within.0, within.1.0, within.1.1, length-drop place.start bytes)) in
    unequal-lengths (header_at bytes place).name name (λ same. differ (sym long ∙ same))
