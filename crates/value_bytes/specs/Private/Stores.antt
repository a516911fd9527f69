-- How a text is stored: in the text itself, or in memory.
use Rattle.std.specs.Prelude.{ℕ, List, ◌≡◌, ◌⊎◌, [], ◌++◌}

-- the bytes that are kept in the text itself, and those in memory
unfoldable pub whole : List ℕ → List ℕ → List ℕ
whole short long = short ++ long

-- there are bytes in at most one of the two places
unfoldable pub IsInOnePlace : List ℕ → List ℕ → Type 0
IsInOnePlace short long = (short ≡ []) ⊎ (long ≡ [])
