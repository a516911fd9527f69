-- A pass between two calls.
use Rattle.std.specs.Prelude.{◌≡◌, ℕ, ◌≤◌, true, false, length}
use Rattle.book_turns.specs.Private.Steps.{Sat}

-- the pass holds nothing, has no ticket, and has neither ended nor taken in another
abbrev pub IsAtRest : Sat → ℕ → Type 0
IsAtRest m document =
    (length m.1 ≡ 0) × (m.0.document ≡ document) × (m.0.live ≡ true) × (m.0.waits ≡ false) × (m.0.served ≡ false)
    × (m.0.draws ≤ 4294967295) × (length m.0.ended ≡ 0)
