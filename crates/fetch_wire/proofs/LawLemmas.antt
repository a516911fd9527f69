-- What comes of an act depends on what answers only by the request that the act sends.
use Rattle.std.proofs.Common.{◌≡◌, ℕ, List, Option, Some, None, refl, ap, ◌∙◌}
use Rattle.std.specs.Prelude.{option_map}
use Rattle.fetch_acts.specs.declared.act.Act.{Act}
use Rattle.fetch_acts.specs.declared.act.Act.TheVariants.{Ask, Send, ReadHead, ReadBody, Tell}
use Rattle.fetch_acts.specs.declared.act.Input.{Input}
use Rattle.fetch_acts.specs.declared.act.Input.TheVariants.{Replied, Sent, HeadIs, HeadBad, HeadLong, BodyIs, Fault}
use Rattle.fetch_acts.specs.declared.act.Input.TheVariants.{Told}
use Rattle.fetch_wire.specs.ExchangeLaws.{AnswerAlike}
use Rattle.fetch_wire.specs.Exchanges.{Answering, Exchange, Exchanges, IsAnswered, IsRequested}

-- two functions that agree at each value, at a value that may be told
map-alike : {A B : Type 0} (f g : A → B) (told : Option A) → ((a : A) → f a ≡ g a)
    → option_map f told ≡ option_map g told
map-alike f g None alike = refl
map-alike f g (Some a) alike = ap Some (alike a)

module _ {State : Type 0} (answer answer' : State → List ℕ) (next next' : State → State)
    (old new : Exchange State) (answers : (state : State) → answer state ≡ answer' state)
    (nexts : (state : State) → next state ≡ next' state) where
  answered-alike : (input : Input) → IsAnswered answer old input new → IsAnswered answer' old input new
  answered-alike Sent is = (is.0 ∙ map-alike answer answer' old.state answers, is.1)
  answered-alike Fault is = is
  answered-alike (Replied reply) is = is
  answered-alike (HeadIs head) is = is
  answered-alike HeadBad is = is
  answered-alike HeadLong is = is
  answered-alike (BodyIs end) is = is
  answered-alike Told is = is

  asked-alike : (input : Input) → IsRequested answer next old input new → IsRequested answer' next' old input new
  asked-alike input is = record {
    answered = answered-alike input is.answered;
    framing_is = is.framing_is;
    state_is = is.state_is ∙ map-alike next next' old.state nexts;
    awaited = is.awaited;
    caused = is.caused;
  }

pub exchange-alike : {State : Type 0} (a b : Answering State) (limit : ℕ) (old new : Exchange State) (act : Act)
    (input : Input) → AnswerAlike a b act → Exchanges a limit old act input new → Exchanges b limit old act input new
exchange-alike {State} a b limit old new (Send hop) input alike is =
    asked-alike (λ (state : State). a.answer state hop) (λ (state : State). b.answer state hop)
    (λ (state : State). a.next state hop) (λ (state : State). b.next state hop) old new
    (λ (state : State). (alike state).0) (λ (state : State). (alike state).1) input is
exchange-alike a b limit old new ReadHead input alike is = is
exchange-alike a b limit old new ReadBody input alike is = is
exchange-alike a b limit old new (Ask op) input alike is = is
exchange-alike a b limit old new (Tell violation) input alike is = is
