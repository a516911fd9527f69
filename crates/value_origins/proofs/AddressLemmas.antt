-- An IPv6 address as a number, and back to its segments.
use Rattle.std.proofs.Common.{arith, ◌≡◌, ◌+◌, ◌*◌, ◌/◌, ◌%◌, ◌^◌, ◌<◌, ℕ, List, [], ◌∷◌, length, get_or, ap, sym}
use Rattle.std.proofs.Common.{refl, ◌∙◌}
use Rattle.std.proofs.lemmas.Nat.{be_bytes_4, div-mul-add}
use Rattle.std.proofs.Math.Nat.{div-div-eq-div-mul}
use Rattle.std.specs.Int.{w32, w128, from_be_bytes, to_be_bytes}
use Rattle.std.specs.Net.Addr.{IsIpv4Addr, IsIpv6Addr, ipv4_bits, ipv4_octets, ipv6_bits, ipv6_segments, octets_of}
use Rattle.std.specs.Net.Addr.{segments_of}
use Rattle.std.specs.declared.net.ipv4_addr.Ipv4Addr.{Ipv4Addr}
use Rattle.std.specs.declared.net.ipv6_addr.Ipv6Addr.{Ipv6Addr}

-- a segment of 16 bits after others
segment-whole : (high segment : ℕ) → segment < 65536
    → (high * 65536 + segment) / 256 % 256 * 256 + (high * 65536 + segment) % 256 ≡ segment
segment-whole high segment small = omega arith

-- two bytes of a number are the segment at their place
segment_at : (place high segment low n : ℕ) → low < place → segment < 65536
    → n ≡ (high * 65536 + segment) * place + low → n / (place * 256) % 256 * 256 + n / place % 256 ≡ segment
segment_at place high segment low n below small is =
    let front : n / place ≡ high * 65536 + segment =
    ap (λ m. m / place) is ∙ div-mul-add (high * 65536 + segment) place low below in
    let more : n / (place * 256) ≡ (high * 65536 + segment) / 256 =
    sym (div-div-eq-div-mul n place 256) ∙ ap (λ m. m / 256) front in
    ap (λ m. m % 256 * 256 + n / place % 256) more
    ∙ ap (λ m. (high * 65536 + segment) / 256 % 256 * 256 + m % 256) front
    ∙ segment-whole high segment small

-- the last segment
last_segment : (high segment n : ℕ) → segment < 65536 → n ≡ high * 65536 + segment
    → n / 256 % 256 * 256 + n % 256 ≡ segment
last_segment high segment n small is =
    ap (λ m. m / 256 % 256 * 256 + m % 256) is ∙ segment-whole high segment small

-- the number that eight segments make
number_of : (s0 s1 s2 s3 s4 s5 s6 s7 : ℕ)
    → from_be_bytes w128 (octets_of (s0 ∷ s1 ∷ s2 ∷ s3 ∷ s4 ∷ s5 ∷ s6 ∷ s7 ∷ []))
    ≡ s0 * 5192296858534827628530496329220096 + s1 * 79228162514264337593543950336 + s2 * 1208925819614629174706176 +
    s3 * 18446744073709551616
    + s4 * 281474976710656 + s5 * 4294967296 + s6 * 65536 + s7
number_of s0 s1 s2 s3 s4 s5 s6 s7 = omega arith

segments_back : (s0 s1 s2 s3 s4 s5 s6 s7 n : ℕ) → s0 < 65536 → s1 < 65536 → s2 < 65536 → s3 < 65536 → s4 < 65536
    → s5 < 65536 → s6 < 65536 → s7 < 65536
    → n ≡ s0 * 5192296858534827628530496329220096 + s1 * 79228162514264337593543950336 + s2 *
    1208925819614629174706176 + s3 * 18446744073709551616
    + s4 * 281474976710656 + s5 * 4294967296 + s6 * 65536 + s7
    → segments_of (to_be_bytes w128 n) ≡ s0 ∷ s1 ∷ s2 ∷ s3 ∷ s4 ∷ s5 ∷ s6 ∷ s7 ∷ []
segments_back s0 s1 s2 s3 s4 s5 s6 s7 n l0 l1 l2 l3 l4 l5 l6 l7 is =
    let at0 = segment_at 5192296858534827628530496329220096 (0) s0
    (s1 * 79228162514264337593543950336 + s2 * 1208925819614629174706176 + s3 * 18446744073709551616 + s4 *
    281474976710656 + s5 * 4294967296 + s6 * 65536 + s7) n (omega arith) l0 (omega arith) in
    let at1 = segment_at 79228162514264337593543950336 (s0) s1
    (s2 * 1208925819614629174706176 + s3 * 18446744073709551616 + s4 * 281474976710656 + s5 * 4294967296 + s6 * 65536
    + s7) n (omega arith) l1 (omega arith) in
    let at2 = segment_at 1208925819614629174706176 (s0 * 65536 + s1) s2
    (s3 * 18446744073709551616 + s4 * 281474976710656 + s5 * 4294967296 + s6 * 65536 + s7) n (omega arith) l2
    (omega arith) in
    let at3 = segment_at 18446744073709551616 (s0 * 4294967296 + s1 * 65536 + s2) s3
    (s4 * 281474976710656 + s5 * 4294967296 + s6 * 65536 + s7) n (omega arith) l3 (omega arith) in
    let at4 = segment_at 281474976710656 (s0 * 281474976710656 + s1 * 4294967296 + s2 * 65536 + s3) s4
    (s5 * 4294967296 + s6 * 65536 + s7) n (omega arith) l4 (omega arith) in
    let at5 = segment_at 4294967296
    (s0 * 18446744073709551616 + s1 * 281474976710656 + s2 * 4294967296 + s3 * 65536 + s4) s5
    (s6 * 65536 + s7) n (omega arith) l5 (omega arith) in
    let at6 =
    segment_at 65536 (s0 * 1208925819614629174706176 + s1 * 18446744073709551616 + s2 * 281474976710656 + s3 *
    4294967296 + s4 * 65536 + s5) s6
    (s7) n (omega arith) l6 (omega arith) in
    let at7 =
    last_segment (s0 * 79228162514264337593543950336 + s1 * 1208925819614629174706176 + s2 * 18446744073709551616
    + s3 * 281474976710656 + s4 * 4294967296 + s5 * 65536 + s6) s7 n l7 (omega arith) in
    λ i. at0 i ∷ at1 i ∷ at2 i ∷ at3 i ∷ at4 i ∷ at5 i ∷ at6 i ∷ at7 i ∷ []

-- eight segments of 16 bits, as a number and back
back_by_parts : (segments : List ℕ) → length segments ≡ 8 → ((k : ℕ) → get_or segments k 0 < 2 ^ 16)
    → segments_of (to_be_bytes w128 (from_be_bytes w128 (octets_of segments))) ≡ segments
back_by_parts [] l small = absurd (omega (arith, l))
back_by_parts (s0 ∷ []) l small = absurd (omega (arith, l))
back_by_parts (s0 ∷ s1 ∷ []) l small = absurd (omega (arith, l))
back_by_parts (s0 ∷ s1 ∷ s2 ∷ []) l small = absurd (omega (arith, l))
back_by_parts (s0 ∷ s1 ∷ s2 ∷ s3 ∷ []) l small = absurd (omega (arith, l))
back_by_parts (s0 ∷ s1 ∷ s2 ∷ s3 ∷ s4 ∷ []) l small = absurd (omega (arith, l))
back_by_parts (s0 ∷ s1 ∷ s2 ∷ s3 ∷ s4 ∷ s5 ∷ []) l small = absurd (omega (arith, l))
back_by_parts (s0 ∷ s1 ∷ s2 ∷ s3 ∷ s4 ∷ s5 ∷ s6 ∷ []) l small = absurd (omega (arith, l))
back_by_parts (s0 ∷ s1 ∷ s2 ∷ s3 ∷ s4 ∷ s5 ∷ s6 ∷ s7 ∷ []) l small =
    segments_back s0 s1 s2 s3 s4 s5 s6 s7 (from_be_bytes w128 (octets_of (s0 ∷ s1 ∷ s2 ∷ s3 ∷ s4 ∷ s5 ∷ s6 ∷ s7 ∷ [])))
    (small 0) (small 1) (small 2) (small 3) (small 4) (small 5) (small 6) (small 7) (number_of s0 s1 s2 s3 s4 s5 s6 s7)
back_by_parts (s0 ∷ s1 ∷ s2 ∷ s3 ∷ s4 ∷ s5 ∷ s6 ∷ s7 ∷ s8 ∷ rest) l small = absurd (omega (arith, l))

pub ipv6-back : (address : Ipv6Addr) → IsIpv6Addr address
    → segments_of (to_be_bytes w128 (ipv6_bits address)) ≡ ipv6_segments address
unfolding ipv6_bits
ipv6-back address valid = back_by_parts (ipv6_segments address) valid.0 valid.1

pub ipv4-back : (address : Ipv4Addr) → IsIpv4Addr address → to_be_bytes w32 (ipv4_bits address) ≡ ipv4_octets address
unfolding ipv4_bits
ipv4-back address valid = be_bytes_4 (ipv4_octets address) (ipv4_bits address) valid.0 valid.1 refl
