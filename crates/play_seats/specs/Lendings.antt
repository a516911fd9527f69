-- Links that are out, and that are taken back one after another.
use Rattle.std.specs.Prelude.{◌≡◌, ℕ, ◌+◌, ◌-◌, ◌≤◌, List, ◌++◌, length, Option, Some, None}
use Rattle.link_traits.specs.Links.{Lendings}

-- so many links more are out
abbrev pub out_more : {L : Type 0} → ℕ → Lendings L → Lendings L
out_more count lent = record { back = lent.back; out = lent.out + count }

-- these were taken back, in this order, where told and where so many were out
abbrev pub AreTaken : {L : Type 0} → Option (Lendings L) → Option (Lendings L) → List L → Type 0
AreTaken None new links = Unit {0}
AreTaken (Some old) new links =
    length links ≤ old.out → new ≡ Some (record { back = old.back ++ links; out = old.out - length links })
