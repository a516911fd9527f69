-- What a process does at most, and what holds of each of its acts.
use Rattle.std.specs.Prelude.{ℕ, ◌+◌, ◌≤◌}
use Rattle.value_requests.specs.declared.request.Request.{Request}
use Rattle.fetch_acts.specs.Process.{Process, act, ended}
use Rattle.fetch_acts.specs.declared.act.Act.{Act}
use Rattle.fetch_acts.specs.declared.act.Act.TheVariants.{Ask, Send, ReadHead, ReadBody, Tell}
use Rattle.fetch_acts.specs.declared.act.Input.{Input}

-- The price can be paid out of so much, and the rest is right for what is left.
pub record Paid (price most : ℕ) (Rest : ℕ → Type 0) : Type 0 where
  pub left : ℕ
  pub enough : price + left ≤ most
  pub rest : Rest left

-- Whatever is given, each act is as P says, and the costs of the acts add up to at most so much.
abbrev pub Within : (Act → ℕ) → (Input → Type 0) → (Request → Act → Type 0) → ℕ → Process → Type 0
Within cost Given P most (ended outcome) = Unit {0}
Within cost Given P most (act request first after) =
    P request first
    × Paid (cost first) most (λ left. (input : Input) → Given input → Within cost Given P left (after input))

-- nothing is asked of an input
abbrev pub Anything : Input → Type 0
Anything input = Unit {0}

-- nothing is asked of an act
abbrev pub AnyAct : Request → Act → Type 0
AnyAct request first = Unit {0}

-- A price for each kind of act.
pub record Prices : Type 0 where
  pub ask : ℕ
  pub send : ℕ
  pub head : ℕ
  pub body : ℕ
  pub tell : ℕ

-- the price of an act
abbrev pub price_of : Prices → Act → ℕ
price_of prices (Ask op) = prices.ask
price_of prices (Send hop) = prices.send
price_of prices ReadHead = prices.head
price_of prices ReadBody = prices.body
price_of prices (Tell violation) = prices.tell

-- the questions alone cost
abbrev pub asks : Prices
asks = record { ask = 1; send = 0; head = 0; body = 0; tell = 0 }

-- every act costs one
abbrev pub acts : Prices
acts = record { ask = 1; send = 1; head = 1; body = 1; tell = 1 }
