-- The text of a host that a text gives is visible, as is that of an origin.
use Rattle.std.proofs.Common.{◌≡◌, ℕ, zero, suc, ◌<◌, ◌≤◌, ◌^◌, ◌+◌, ◌*◌, ◌-◌, ◌/◌, ◌⊎◌, Bool, true, false, cond, List, [], ◌∷◌, ◌++◌, length, replicate}
use Rattle.std.proofs.Common.{get_or, Option, Some, None, Result, Ok, Err, refl, sym, ap, subst, ◌∙◌, arith, inl, inr, length-append}
use Rattle.std.specs.Prelude.{IfOk, ◌==◌, slice_range}
use Rattle.percent_encoding.specs.Percent.{percent_decode}
use Rattle.url.specs.declared.error.ParseError.TheVariants.{EmptyHost, IdnaError, InvalidIpv6Address}
use Rattle.std.specs.Int.{byte_at, bytes_high_first}
use Rattle.std.specs.List.{list_any}
use Rattle.std.specs.Net.Addr.{IsIpv4Addr, IsIpv6Addr, ipv4_octets, ipv6_segments, segments_of}
use Rattle.std.specs.Net.Grammar.{IsColonHex, IsGroupsAfter}
use Rattle.std.specs.Net.Reader.{read_ipv6, whole_value}
use Rattle.std.specs.Net.Text.{hex_groups_text, ipv4_text}
use Rattle.std.specs.Str.Parse.{digits_value}
use Rattle.std.proofs.NetLemmas.Alphabet.{All-hex_groups_text, All-ipv4_text, IsDigitOrDot, IsHexOrColon}
use Rattle.std.proofs.NetLemmas.Ipv6.{read_ipv6_sound}
use Rattle.std.proofs.lemmas.Bool.{cond_both}
use Rattle.std.proofs.lemmas.Bool.Decides.{nat_tests}
use Rattle.std.proofs.lemmas.Int.Digits.{digits_value-lt}
use Rattle.std.proofs.Math.Nat.{mod-lt}
use Rattle.std.proofs.lemmas.List.{length-replicate}
use Rattle.std.proofs.lemmas.List.Elements.{All-append, All-cons, All-nil, All-weaker}
use Rattle.url.specs.declared.error.ParseError.{ParseError}
use Rattle.url.specs.declared.host.Host.{Host}
use Rattle.url.specs.declared.host.Host.TheVariants.{Domain, Ipv4, Ipv6}
use Rattle.url.specs.declared.sets.TheConstants.{FORBIDDEN_DOMAIN}
use Rattle.url.specs.Host.{ascii_domain, host_of_ascii, host_text, ipv4_host, ipv6_host, is_forbidden_in_domain}
use Rattle.url.specs.Host.{parse_bracketed, parse_domain, parse_special_host}
use Rattle.url.specs.Input.{is_empty}
use Rattle.url.specs.Ipv4.{ends_in_a_number, parse_ipv4}
use Rattle.url.proofs.HostLemmas.{none_from_list_any}
use Rattle.url.proofs.InputLemmas.{Passes}
use Rattle.url.proofs.PiecesLemmas.{option_cases}
use Rattle.url.proofs.SetLemmas.{passes_from_kept}
use Rattle.play_text.specs.Words.{is_visible}
use Rattle.play_words.proofs.PathWordLemmas.{AreVisible}

-- a domain of visible bytes, or an address
abbrev pub IsWordHost : Host (List ℕ) → Type 0
IsWordHost (Domain name) = AreVisible name
IsWordHost (Ipv4 address) = IsIpv4Addr address
IsWordHost (Ipv6 address) = IsIpv6Addr address

digit-visible : (byte : ℕ) → IsDigitOrDot byte → Passes is_visible byte
digit-visible byte is = grind (arith, nat_tests)

hex-visible : (byte : ℕ) → IsHexOrColon byte → Passes is_visible byte
hex-visible byte is = grind (arith, nat_tests)

pub ipv4-visible : (octets : List ℕ) → ((k : ℕ) → get_or octets k 0 < 2 ^ 8) → AreVisible (ipv4_text octets)
ipv4-visible octets small =
    All-weaker IsDigitOrDot (Passes is_visible) digit-visible (ipv4_text octets) (All-ipv4_text octets small)

pub ipv6-visible : (segments : List ℕ) → ((k : ℕ) → get_or segments k 0 < 2 ^ 16)
    → AreVisible (91 ∷ (hex_groups_text segments ++ 93 ∷ []))
ipv6-visible segments small =
    let P = Passes is_visible in
    All-cons P 91 (hex_groups_text segments ++ 93 ∷ []) refl
    (All-append P (hex_groups_text segments) (93 ∷ [])
    (All-weaker IsHexOrColon P hex-visible (hex_groups_text segments) (All-hex_groups_text segments small))
    (All-cons P 93 [] refl (All-nil P)))

pub host-visible : (host : Host (List ℕ)) → IsWordHost host → AreVisible (host_text host)
host-visible (Domain name) is = is
host-visible (Ipv4 address) is = ipv4-visible (ipv4_octets address) is.1
host-visible (Ipv6 address) is = ipv6-visible (ipv6_segments address) is.1

-- ---- addresses that are read

byte-small : (i n : ℕ) → byte_at i n < 256
byte-small zero n = omega arith
byte-small (suc i) n = mod-lt (n / 256 ^ suc i) (omega arith)

bytes-small : (count n k : ℕ) → get_or (bytes_high_first count n) k 0 < 2 ^ 8
bytes-small zero n k = grind arith
bytes-small (suc count) n zero = byte-small count n
bytes-small (suc count) n (suc k) = bytes-small count n k

-- the segments are numbers of 16 bits
abbrev AreSmall : List ℕ → Type 0
AreSmall segments = (k : ℕ) → get_or segments k 0 < 2 ^ 16

small-cons : (segment : ℕ) (segments : List ℕ) → segment < 2 ^ 16 → AreSmall segments → AreSmall (segment ∷ segments)
small-cons segment segments here all zero = here
small-cons segment segments here all (suc k) = all k

small-nil : AreSmall []
small-nil k = grind arith

small-append : (segments more : List ℕ) → AreSmall segments → AreSmall more → AreSmall (segments ++ more)
small-append [] more all others = others
small-append (segment ∷ segments) more all others =
    small-cons segment (segments ++ more) (all 0) (small-append segments more (λ k. all (suc k)) others)

small-zeros : (count : ℕ) → AreSmall (replicate count 0)
small-zeros zero = small-nil
small-zeros (suc count) = small-cons 0 (replicate count 0) (omega arith) (small-zeros count)

groups-small : (ipv4 : Bool) (lead text segments : List ℕ) → IsGroupsAfter ipv4 lead text segments → AreSmall segments
groups-small ipv4 lead text [] are = small-nil
groups-small ipv4 lead text (segment ∷ segments) (inl are) =
    let number = are.3 in
    let small : digits_value 16 are.0 < 16 ^ length are.0 = digits_value-lt 16 are.0 number.0.0.1 in
    small-cons segment segments (short (length are.0) number.1 (digits_value 16 are.0) number.0.1 small)
    (groups-small ipv4 (58 ∷ []) are.1 segments are.4)
  where
    short : (digits : ℕ) → digits ≤ 4 → (value : ℕ) → value ≡ segment → value < 16 ^ digits → segment < 2 ^ 16
    short zero few value is below = omega (arith, is, below)
    short (suc zero) few value is below = omega (arith, is, below)
    short (suc (suc zero)) few value is below = omega (arith, is, below)
    short (suc (suc (suc zero))) few value is below = omega (arith, is, below)
    short (suc (suc (suc (suc zero)))) few value is below = omega (arith, is, below)
    short (suc (suc (suc (suc (suc more))))) few value is below = absurd (omega (arith, few))
groups-small ipv4 lead text (segment ∷ segments) (inr are) =
    let dotted = are.4 in
    let whole : segment ∷ segments ≡ (dotted.a * 256 + dotted.b) ∷ (dotted.c * 256 + dotted.d) ∷ [] =
    are.5 ∙ ap segments_of dotted.value in
    subst AreSmall (sym whole)
    (small-cons (dotted.a * 256 + dotted.b) ((dotted.c * 256 + dotted.d) ∷ [])
    (omega (arith, dotted.fit.0, dotted.fit.1))
    (small-cons (dotted.c * 256 + dotted.d) [] (omega (arith, dotted.fit.2, dotted.fit.3)) small-nil))

colon-small : (text segments : List ℕ) → IsColonHex text segments → (length segments ≡ 8) × AreSmall segments
colon-small text segments (inl are) = (are.1, groups-small true [] text segments are.0)
colon-small text segments (inr are) =
    let zeros : List ℕ = replicate (8 - length are.head - length are.tail) 0 in (
      omega (
        arith,
        ap length are.value,
        are.room,
        length-append (are.head ++ zeros) are.tail,
        length-append are.head zeros,
        length-replicate {A = ℕ} (8 - length are.head - length are.tail) 0,
      ),
      subst AreSmall (sym are.value)
          (small-append (are.head ++ zeros) are.tail
          (small-append are.head zeros (groups-small false [] are.head_text are.head are.head_groups)
          (small-zeros (8 - length are.head - length are.tail)))
          (groups-small true [] are.tail_text are.tail are.tail_groups)),
    )

whole-small : (text segments : List ℕ) → whole_value (read_ipv6 text) ≡ Some segments
    → (length segments ≡ 8) × AreSmall segments
whole-small text segments is = by (option_cases (read_ipv6 text))
  where
    ended : (pair : List ℕ × List ℕ) → read_ipv6 text ≡ Some pair → whole_value (Some pair) ≡ Some segments
        → pair.0 ≡ segments
    ended pair read whole = grind (arith, nat_tests)

    by : (read_ipv6 text ≡ None) ⊎ ((pair : List ℕ × List ℕ) × (read_ipv6 text ≡ Some pair))
        → (length segments ≡ 8) × AreSmall segments
    by (inl none) = absurd (let no : None ≡ Some segments = sym (ap whole_value none) ∙ is in cc)
    by (inr some) =
        let pair = some.0 in
        let sound = read_ipv6_sound text pair.0 pair.1 some.1 in
        subst (λ (l : List ℕ). (length l ≡ 8) × AreSmall l)
        (ended pair some.1 (sym (ap whole_value some.1) ∙ is)) (colon-small sound.0 pair.0 sound.2)

-- ---- the parser

-- a host that it gives is such a one
abbrev GivesHost : Result (Host (List ℕ)) ParseError → Type 0
GivesHost read = IfOk read IsWordHost

ipv6-gives : (text : List ℕ) (read : Option (List ℕ)) → whole_value (read_ipv6 text) ≡ read
    → GivesHost (ipv6_host read)
ipv6-gives text None is = tt
ipv6-gives text (Some segments) is = whole-small text segments is

bracketed-gives : (bytes : List ℕ) → GivesHost (parse_bracketed bytes)
unfolding parse_bracketed
bracketed-gives bytes =
    let text = slice_range bytes 1 (length bytes - 1) in
    let read = whole_value (read_ipv6 text) in
    cond_both (get_or bytes (length bytes - 1) 0 == 93) (ipv6_host read) (Err InvalidIpv6Address) GivesHost
    (λ _. ipv6-gives text read refl) (λ _. tt)

ipv4-gives : (read : Option ℕ) → GivesHost (ipv4_host read)
ipv4-gives None = tt
ipv4-gives (Some bits) = (refl, bytes-small 4 bits)

ascii-gives : (domain : Option (List ℕ)) → GivesHost (host_of_ascii domain)
ascii-gives None = tt
ascii-gives (Some domain) =
    let forbidden = list_any is_forbidden_in_domain domain in
    let named = cond (ends_in_a_number domain) (ipv4_host (parse_ipv4 domain)) (Ok (Domain domain)) in
    cond_both (is_empty domain) (Err EmptyHost) (cond forbidden (Err IdnaError) named) GivesHost (λ _. tt)
    (λ _. cond_both forbidden (Err IdnaError) named GivesHost (λ _. tt)
    (λ allowed. cond_both (ends_in_a_number domain) (ipv4_host (parse_ipv4 domain)) (Ok (Domain domain)) GivesHost
    (λ _. ipv4-gives (parse_ipv4 domain))
    (λ _. All-weaker (λ byte. is_forbidden_in_domain byte ≡ false) (Passes is_visible)
    (passes_from_kept FORBIDDEN_DOMAIN is_visible refl) domain
    (none_from_list_any is_forbidden_in_domain domain allowed))))

pub special-gives : (bytes : List ℕ) → GivesHost (parse_special_host bytes)
unfolding parse_special_host
special-gives bytes =
    cond_both (get_or bytes 0 0 == 91) (parse_bracketed bytes) (parse_domain (percent_decode bytes)) GivesHost
    (λ _. bracketed-gives bytes) (λ _. ascii-gives (ascii_domain (percent_decode bytes)))
