-- The words computed on worked examples.
use Rattle.std.proofs.Common.{◌≡◌, refl, [], ◌∷◌, codes, Some, None}
use Rattle.program_fetchplay.specs.Words.{subcommand_of}
use Rattle.program_fetchplay.specs.declared.words.Subcommand.TheVariants.{Gen, Net, Play}

-- accepted are `play`, `net`, and `gen` with a number from 1 to 64
pub accepted : (subcommand_of (codes "play" ∷ []) ≡ Some Play) × (subcommand_of (codes "net" ∷ []) ≡ Some Net)
    × (subcommand_of (codes "gen" ∷ codes "8" ∷ []) ≡ Some (Gen 8))
    × (subcommand_of (codes "gen" ∷ codes "64" ∷ []) ≡ Some (Gen 64))
accepted = (refl, refl, refl, refl)

-- no words, a zero in front, a number out of the range, a sign, and a word more are not
pub refused : (subcommand_of [] ≡ None) × (subcommand_of (codes "gen" ∷ codes "0" ∷ []) ≡ None)
    × (subcommand_of (codes "gen" ∷ codes "065" ∷ []) ≡ None) × (subcommand_of (codes "gen" ∷ codes "08" ∷ []) ≡ None)
    × (subcommand_of (codes "gen" ∷ codes "65" ∷ []) ≡ None) × (subcommand_of (codes "gen" ∷ codes "+8" ∷ []) ≡ None)
    × (subcommand_of (codes "gen" ∷ []) ≡ None) × (subcommand_of (codes "play" ∷ codes "x" ∷ []) ≡ None)
refused = (refl, refl, refl, refl, refl, refl, refl, refl)
