-- The definitions computed on examples that were written down by hand: tainted origins along redirects, of a request of
-- a document at http://a.test.
use Rattle.rows_definitions.proofs.Shared.{url_at}
use Rattle.std.proofs.Common.{◌≡◌, refl, ℕ, List, [], ◌∷◌, true, false, codes, Some, None}
use Rattle.url.proofs.OnLiterals.{url_on_literals}
use Rattle.url.specs.declared.host.Host.TheVariants.{Domain}
use Rattle.url.specs.Parts.{Parts}
use Rattle.value_origins.specs.declared.origin.Origin.{Origin}
use Rattle.value_origins.specs.Origins.{tuple_origin}
use Rattle.policy_checks.specs.RequestOrigins.{has_tainted_origin}

-- http://HOST/
abbrev at : List ℕ → Parts
at host = url_at (codes "http") host (codes "/")

abbrev a : Parts
a = at (codes "a.test")

abbrev b : Parts
b = at (codes "b.test")

abbrev c : Parts
c = at (codes "c.test")

abbrev home : Origin
home = tuple_origin a

-- one URL, and a redirect within its origin
straight : (has_tainted_origin home (b ∷ []) ≡ false) × (has_tainted_origin home (b ∷ b ∷ []) ≡ false)
unfolding url_on_literals
straight = (refl, refl)

-- a redirect from home to another origin, and one from there to a third
away : (has_tainted_origin home (a ∷ a ∷ b ∷ []) ≡ false) × (has_tainted_origin home (a ∷ b ∷ c ∷ []) ≡ true)
unfolding url_on_literals
away = (refl, refl)

-- from one foreign origin to another, and home again
detour : (has_tainted_origin home (b ∷ c ∷ []) ≡ true) × (has_tainted_origin home (b ∷ c ∷ a ∷ []) ≡ true)
unfolding url_on_literals
detour = (refl, refl)
