-- Too few words are no call.
use Rattle.std.proofs.Common.{◌≡◌, ℕ, ◌<◌, List, [], ◌∷◌, length, map, refl, arith, None}
use Rattle.audit_text.specs.Private.Reading.{clear_in, covers_in, entry_in, learn_in, note_in, tail_in}

module _ {X : Type 0} (f : X → List ℕ) where
  pub tail-short : (words : List X) → length words < 3 → None ≡ tail_in (map f words)
  tail-short [] few = refl
  tail-short (a ∷ []) few = refl
  tail-short (a ∷ b ∷ []) few = refl
  tail-short (a ∷ b ∷ c ∷ words) few = absurd (omega arith)

  pub note-short : (words : List X) → length words < 3 → None ≡ note_in (map f words)
  note-short [] few = refl
  note-short (a ∷ []) few = refl
  note-short (a ∷ b ∷ []) few = refl
  note-short (a ∷ b ∷ c ∷ words) few = absurd (omega arith)

  pub clear-short : (words : List X) → length words < 3 → None ≡ clear_in (map f words)
  clear-short [] few = refl
  clear-short (a ∷ []) few = refl
  clear-short (a ∷ b ∷ []) few = refl
  clear-short (a ∷ b ∷ c ∷ words) few = absurd (omega arith)

  pub covers-short : (words : List X) → length words < 6 → None ≡ covers_in (map f words)
  covers-short [] few = refl
  covers-short (a ∷ []) few = refl
  covers-short (a ∷ b ∷ []) few = refl
  covers-short (a ∷ b ∷ c ∷ []) few = refl
  covers-short (a ∷ b ∷ c ∷ d ∷ []) few = refl
  covers-short (a ∷ b ∷ c ∷ d ∷ e ∷ []) few = refl
  covers-short (a ∷ b ∷ c ∷ d ∷ e ∷ f ∷ words) few = absurd (omega arith)

  pub learn-short : (words : List X) → length words < 7 → None ≡ learn_in (map f words)
  learn-short [] few = refl
  learn-short (a ∷ []) few = refl
  learn-short (a ∷ b ∷ []) few = refl
  learn-short (a ∷ b ∷ c ∷ []) few = refl
  learn-short (a ∷ b ∷ c ∷ d ∷ []) few = refl
  learn-short (a ∷ b ∷ c ∷ d ∷ e ∷ []) few = refl
  learn-short (a ∷ b ∷ c ∷ d ∷ e ∷ f ∷ []) few = refl
  learn-short (a ∷ b ∷ c ∷ d ∷ e ∷ f ∷ g ∷ words) few = absurd (omega arith)

  pub entry-short : (words : List X) → length words < 2 → None ≡ entry_in (map f words)
  entry-short [] few = refl
  entry-short (a ∷ []) few = refl
  entry-short (a ∷ b ∷ words) few = absurd (omega arith)
