-- How many bytes more at least decide a body, by those that a reader holds of it.
use Rattle.std.proofs.Common.{◌≡◌, ℕ, ◌+◌, ◌-◌, ◌≤◌, Bool, true, false, List, [], take, length, refl, ap, sym, ◌∙◌}
use Rattle.std.proofs.Common.{suc, inl, inr, subst, arith, min, nat_le}
use Rattle.std.specs.Prelude.{if◌then◌else◌}
use Rattle.std.proofs.lemmas.Bool.Decides.{leb_tells}
use Rattle.std.proofs.lemmas.List.{append-nil, length-take}
use Rattle.value_requests.specs.declared.response.BodyEnd.{BodyEnd}
use Rattle.value_requests.specs.declared.response.BodyEnd.TheVariants.{Whole, Cut, TooBig}
use Rattle.link_http1.specs.Bodies.{body_end, ended, fewest}
use Rattle.link_http1.specs.BodyReading.{BodyReading}
use Rattle.link_http1.specs.Private.BodyPlaces.{IsReading}
use Rattle.link_http1.specs.declared.framing.Framing.{Framing}
use Rattle.link_http1.specs.declared.framing.Framing.TheVariants.{Length, ToEnd}
use Rattle.link_http1.specs.declared.place.Place.{Place}

-- what is within the limit
abbrev chosen : Bool → List ℕ → BodyEnd
chosen complete bytes = if complete then Whole bytes else Cut (length bytes)

no-big : (complete : Bool) (bytes : List ℕ) → TooBig ≡ chosen complete bytes → ⊥
no-big true bytes same = cc
no-big false bytes same = cc

count : BodyEnd → ℕ
count (Whole bytes) = length bytes
count (Cut n) = n
count end = 0

count-chosen : (complete : Bool) (bytes : List ℕ) → count (chosen complete bytes) ≡ length bytes
unfolding count
count-chosen true bytes = refl
count-chosen false bytes = refl

within-is : (limit : ℕ) (complete : Bool) (bytes : List ℕ) → length bytes ≤ limit
    → ended limit complete bytes ≡ chosen complete bytes
within-is limit complete bytes within =
    elim (leb_tells (suc limit) (length bytes)) [
      | inl over ↦ absurd (omega (arith, over.1, within))
      | inr below ↦ rw below.0 refl
    ]

-- what comes to the same end as bytes within the limit has as many
ends-alike : (limit : ℕ) (a b : Bool) (xs ys : List ℕ) → length ys ≤ limit → ended limit a xs ≡ ended limit b ys
    → length xs ≡ length ys
ends-alike limit a b xs ys within same =
    let told : ended limit a xs ≡ chosen b ys = same ∙ within-is limit b ys within in
    elim (leb_tells (suc limit) (length xs)) [
      | inl over ↦ absurd (no-big b ys (sym (over-is limit a xs over.0) ∙ told))
      | inr below ↦ sym (count-chosen a xs) ∙ ap count (sym (within-is limit a xs (omega (arith, below.1))) ∙ told)
          ∙ count-chosen b ys
    ]
  where
    over-is : (limit : ℕ) (complete : Bool) (bytes : List ℕ) → nat_le (suc limit) (length bytes) ≡ true
        → ended limit complete bytes ≡ TooBig
    over-is limit complete bytes over = rw over refl

module _ (limit : ℕ) (bytes held : List ℕ) (room : ℕ) (place : Place) where
  left-length : (total : ℕ) → IsReading (Length total) limit bytes held room place
      → min total (limit + 1) - length held ≡ min total (limit + 1) - length bytes
  left-length total reading =
      let same : body_end (Length total) limit bytes ≡ body_end (Length total) limit held =
      ap (body_end (Length total) limit) (sym (append-nil bytes)) ∙ reading.meaning []
      ∙ ap (body_end (Length total) limit) (append-nil held) in
      let alike = ends-alike limit (nat_le total (length bytes)) (nat_le total (length held)) (take total bytes)
      (take total held) (omega (arith, length-take total held, reading.within)) same in
      omega (arith, alike, length-take total bytes, length-take total held, reading.within, reading.kept)

  left-to_end : IsReading ToEnd limit bytes held room place → length held ≡ length bytes
  left-to_end reading =
      let same : body_end ToEnd limit bytes ≡ body_end ToEnd limit held =
      ap (body_end ToEnd limit) (sym (append-nil bytes)) ∙ reading.meaning []
      ∙ ap (body_end ToEnd limit) (append-nil held) in
      sym (ends-alike limit true true bytes held reading.within same)

-- what the length and the limit leave
pub fewest-length : (self : BodyReading) (how : Framing) (total limit : ℕ) (bytes held : List ℕ) (room : ℕ)
    (place : Place) (result : ℕ) → record { framing = how; limit = limit; bytes = bytes } ≡ self → how ≡ Length total
    → IsReading how limit bytes held room place → result ≡ min total (limit + 1) - length held
    → result ≡ fewest self.framing self.limit (length self.bytes)
fewest-length self how total limit bytes held room place result seen is reading left =
    subst (λ (s : BodyReading). result ≡ fewest s.framing s.limit (length s.bytes)) seen
    (subst (λ (f : Framing). result ≡ fewest f limit (length bytes)) (sym is)
    (left ∙ left-length limit bytes held room place total
    (subst (λ (f : Framing). IsReading f limit bytes held room place) is reading)))

-- what the limit leaves
pub fewest-to_end : (self : BodyReading) (how : Framing) (limit : ℕ) (bytes held : List ℕ) (room : ℕ)
    (place : Place) (result : ℕ) → record { framing = how; limit = limit; bytes = bytes } ≡ self → how ≡ ToEnd
    → IsReading how limit bytes held room place → result ≡ limit + 1 - length held
    → result ≡ fewest self.framing self.limit (length self.bytes)
fewest-to_end self how limit bytes held room place result seen is reading left =
    subst (λ (s : BodyReading). result ≡ fewest s.framing s.limit (length s.bytes)) seen
    (subst (λ (f : Framing). result ≡ fewest f limit (length bytes)) (sym is)
    (left ∙ ap (λ (n : ℕ). limit + 1 - n) (left-to_end limit bytes held room place
    (subst (λ (f : Framing). IsReading f limit bytes held room place) is reading))))
