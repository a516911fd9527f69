-- The book that a play opens with, computed on a worked example.
use Rattle.std.proofs.Common.{◌≡◌, ℕ, Bool, refl, true, false, List, [], ◌∷◌, codes}
use Rattle.book_calls.specs.Book.{empty}
use Rattle.script_scenarios.specs.declared.hosts.KnownHost.{KnownHost}
use Rattle.play_definitions.specs.Plays.{with_hosts}

-- a host of a scenario
abbrev known : List ℕ → Bool → ℕ → KnownHost
known host subdomains until = record { host = host; subdomains = subdomains; until = until }

-- of two equal hosts the one noted last counts, and one whose time is 0 is not held
pub opened : with_hosts
    (known (codes "a.test") true 5 ∷ known (codes "b.test") false 7 ∷ known (codes "a.test") false 9
    ∷ known (codes "c.test") false 0 ∷ []) empty
    ≡ record empty {
      hosts =
          record { host = codes "a.test"; subdomains = false; until = 9 }
          ∷ record { host = codes "b.test"; subdomains = false; until = 7 }
          ∷ [];
    }
opened = refl
