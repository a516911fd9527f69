-- A law of pieces: how an answer is cut does not matter.
use Rattle.std.specs.Prelude.{◌≡◌, ℕ, ◌+◌, ◌++◌, length, Some}
use Rattle.value_text.specs.Texts.{Text}
use Rattle.fetch_session.specs.Feeding.{FedAt}
use Rattle.fetch_session.specs.Standings.{Standing, first_act}

-- A piece comes to what its two parts come to, one behind the other, where the first leaves the fetch reading; and as
-- many bytes of it are read.
abbrev pub PiecesJoin : Type 0
PiecesJoin =
    (standing next joined : Standing) (front back : Text) (used all : ℕ)
    → FedAt (first_act standing.process) (record standing { read = standing.read ++ front }) back used (Some next)
    → FedAt (first_act standing.process) standing (front ++ back) all (Some joined)
    → (joined ≡ next) × (all ≡ length front + used)
