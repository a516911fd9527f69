-- The definitions, computed on examples that were written down by hand.
use Rattle.std.proofs.Common.{◌≡◌, ℕ, List, [], ◌∷◌, ◌++◌, codes, replicate, true, false, refl}
use Rattle.value_headers.specs.declared.headers.Header.{Header}
use Rattle.policy_safelist.specs.declared.guard.Appended.TheVariants.{Kept, Ignored, BadName, BadValue}
use Rattle.policy_safelist.specs.declared.guard.Guard.TheVariants.{Request, NoCors}
use Rattle.policy_safelist.specs.Guards.{outcome}
use Rattle.policy_safelist.specs.Safelisted.{is_safelisted}
use Rattle.policy_safelist.specs.UnsafeNames.{unsafe_names}

abbrev header : List ℕ → List ℕ → Header
header name value = record { name = name; value = value }

-- a value of this many bytes `a`
abbrev long_value : ℕ → List ℕ
long_value length = replicate length 97

pub computes-safelisted : (is_safelisted (codes "Accept") (long_value 128) ≡ true)
    × (is_safelisted (codes "Accept") (long_value 129) ≡ false)
    × (is_safelisted (codes "range") (codes "bytes=00500-500") ≡ true)
    × (is_safelisted (codes "Range") (codes "bytes=340282366920938463463374607431768211456-9") ≡ false)
    × (is_safelisted (codes "Range") (codes "bytes=-9") ≡ false)
    × (is_safelisted (codes "Content-Type") (codes "Text/Plain;charset=UTF-8") ≡ true)
    × (is_safelisted (codes "Content-Type") (codes "text/plain;a=\"b\"") ≡ false)
computes-safelisted = (refl, refl, refl, refl, refl, refl, refl)

-- eight headers of 128 bytes
abbrev eight : List Header
eight = replicate 8 (header (codes "Accept") (long_value 128))

pub computes-unsafe_names : (unsafe_names eight ≡ [])
    × (unsafe_names (eight ++ header (codes "Content-Language") (codes "a") ∷ []) ≡ codes "accept"
    ∷ codes "content-language" ∷ [])
    × (unsafe_names (header (codes "X-b") [] ∷ header (codes "Accept") [] ∷ header (codes "x-B") []
    ∷ header (codes "X-A") [] ∷ []) ≡ codes "x-a" ∷ codes "x-b" ∷ [])
computes-unsafe_names = (refl, refl, refl)

pub computes-outcomes : (outcome NoCors (codes "X-A") (codes "1") [] ≡ Ignored)
    × (outcome NoCors (codes "Accept") (codes "a") [] ≡ Kept)
    × (outcome NoCors (codes "a b") (codes "1") [] ≡ BadName)
    × (outcome NoCors (codes "X-A") (0 ∷ []) [] ≡ BadValue)
    × (outcome NoCors (codes "Accept") (codes "a") (header (codes "accept") (long_value 126) ∷ []) ≡ Ignored)
    × (outcome NoCors (codes "Range") (codes "bytes=0-1") [] ≡ Ignored)
    × (outcome Request (codes "Range") (codes "bytes=0-1") [] ≡ Kept)
    × (outcome Request (codes "X-HTTP-Method") (codes "PUT, track") [] ≡ Ignored)
computes-outcomes = (refl, refl, refl, refl, refl, refl, refl, refl)
