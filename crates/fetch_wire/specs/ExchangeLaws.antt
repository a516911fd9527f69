-- A law of exchanges: what comes of an act depends on what answers only by the request that the act sends.
use Rattle.std.specs.Prelude.{◌≡◌, ℕ}
use Rattle.fetch_acts.specs.declared.act.Act.{Act}
use Rattle.fetch_acts.specs.declared.act.Act.TheVariants.{Send}
use Rattle.fetch_acts.specs.declared.act.Input.{Input}
use Rattle.fetch_wire.specs.Exchanges.{Answering, Exchange, Exchanges}

-- both answer what the act sends alike, and go on alike, in each state
abbrev pub AnswerAlike : {State : Type 0} → Answering State → Answering State → Act → Type 0
AnswerAlike {State} a b (Send hop) =
    (state : State) → (a.answer state hop ≡ b.answer state hop) × (a.next state hop ≡ b.next state hop)
AnswerAlike a b _ = Unit {0}

-- where both answer an act alike, what may come of it by one may come of it by the other
abbrev pub ExchangeAlike : Type 0 → Type 0
ExchangeAlike State =
    (a b : Answering State) (limit : ℕ) (old new : Exchange State) (act : Act) (input : Input)
    → AnswerAlike a b act → Exchanges a limit old act input new → Exchanges b limit old act input new
