-- The world of a document's run: its link and its pass of the shared book, and what comes of each act there (this
-- project's own; Fetch, section 4, where the algorithm waits for the network or the preflight cache).
use Rattle.std.specs.Prelude.{[], ℕ, ◌*◌, ◌++◌, ◌+◌, ◌∷◌, ◌≡◌, ◌≤◌, List, Option}
use Rattle.fetch_acts.specs.declared.act.Input.TheVariants.{Replied, Told}
use Rattle.script_events.specs.declared.events.Event.TheVariants.{Result, LoadFailed}
use Rattle.play_definitions.specs.Words.{Account, Act, Answering, Ask, Entry, Event, Exchange, Exchanges, Input, IsIdle}
use Rattle.play_definitions.specs.Words.{IsSendable, LinkTold, Op, Received, Send, Tell, Wire, exchange_of, most_asks}
use Rattle.play_definitions.specs.Words.{most_fetches}

-- What a document's run meets and changes: the exchange over its link; the entries of the calls of the book that the
-- document has made; and how many more calls it may make.
pub record World (State : Type 0) : Type 0 where
  pub exchange : Exchange State
  pub own : List Entry
  pub left : ℕ

-- a wire over a link, and a pass, as a world
abbrev pub world_of : {P L State : Type 0} → (P → Account) → (L → LinkTold State) → P → L → Wire → World State
world_of account told pass link wire =
    record { exchange = exchange_of told link wire; own = (account pass).own; left = (account pass).left }

-- What of it outlives the run: of the link its state, how many bytes of each answer were received, where told, and its
-- count of faults; of the pass its own entries and the calls that are left.
pub record Outside (State : Type 0) : Type 0 where
  pub state : Option State
  pub received : Option (List ℕ)
  pub faults : ℕ
  pub own : List Entry
  pub left : ℕ

-- what outlives the run, of a world
abbrev pub outside_of : {State : Type 0} → World State → Outside State
outside_of world = record {
  state = world.exchange.state;
  received = world.exchange.received;
  faults = world.exchange.faults;
  own = world.own;
  left = world.left;
}

-- the same, of a link and a pass
abbrev pub outside : {P L State : Type 0} → (P → Account) → (L → LinkTold State) → P → L → Outside State
outside account told pass link = record {
  state = (told link).state;
  received = (told link).received;
  faults = (told link).faults;
  own = (account pass).own;
  left = (account pass).left;
}

-- ---- what comes of an act

-- The document has made one call more: its entry is the last of the document's own, and the input is its reply.
pub record IsBookCall (document : ℕ) (op : Op) (input : Input) (own own' : List Entry) (left left' : ℕ) : Type 0 where
  pub entry : Entry
  pub document_is : entry.document ≡ document
  pub op_is : entry.op ≡ op
  pub input_is : input ≡ Replied entry.reply
  pub own_is : own' ≡ own ++ entry ∷ []
  pub left_is : left ≡ left' + 1

-- The document has made a call of the book. The exchange is as it was.
pub record IsCalled {State : Type 0} (document : ℕ) (old : World State) (op : Op) (input : Input) (new : World State)
    : Type 0 where
  pub asked : IsBookCall document op input old.own new.own old.left new.left
  pub exchange_is : new.exchange ≡ old.exchange

-- What the link answers to an act. The pass is as it was.
pub record IsExchanged {State : Type 0} (by : Answering State) (limit : ℕ) (old : World State) (first : Act)
    (input : Input) (new : World State) : Type 0 where
  pub exchanged : Exchanges by limit old.exchange first input new.exchange
  pub own_is : new.own ≡ old.own
  pub left_is : new.left ≡ old.left

-- what comes of an act in a document's world, with bodies of so many bytes at most: a call of the book, a request
-- whose method and target have no space, what is read of its answer, or that the document is told
abbrev pub WorldAnswers : {State : Type 0} → Answering State → ℕ → ℕ → World State → Act → Input → World State → Type 0
WorldAnswers by limit document old (Ask op) input new = IsCalled document old op input new
WorldAnswers by limit document old (Send hop) input new = IsSendable hop × IsExchanged by limit old (Send hop) input new
WorldAnswers by limit document old (Tell violation) input new = (input ≡ Told) × (new ≡ old)
WorldAnswers by limit document old first input new = IsExchanged by limit old first input new

-- Nothing more of the answer is to come, and what outlives the run is as it was.
pub record IsHungUp {State : Type 0} (old new : World State) : Type 0 where
  pub idle : IsIdle new.exchange
  pub outside_is : outside_of new ≡ outside_of old

-- what the world comes to with an event: the rest of an answer goes with the result of its fetch or load
abbrev pub Settles : {State : Type 0} → Event → World State → World State → Type 0
Settles (Result outcome) old new = IsHungUp old new
Settles (LoadFailed error) old new = IsHungUp old new
Settles _ old new = new ≡ old

-- Memory was refused: the document has made no call more, the link's state and its count of faults are as they were.
-- Some bytes more may have been received, and some of the calls that are left may be used up.
pub record WorldRefused {State : Type 0} (old new : Outside State) : Type 0 where
  pub state_is : new.state ≡ old.state
  pub count : ℕ
  pub counted : Received count old.received new.received
  pub faults_are : new.faults ≡ old.faults
  pub own_is : new.own ≡ old.own
  pub fewer : new.left ≤ old.left

-- ---- what is left of a pass

-- how many calls of the shared book the fetches and loads of a document make at most
abbrev pub most_calls : ℕ
most_calls = most_fetches * most_asks

-- What a call that was lent a pass leaves of it: it is the share's still, its document and its opening book are as they
-- were, and so many calls more were made on it at most.
pub record KeepsPass {P : Type 0} (account : P → Account) (belongs : P → Type 0) (most : ℕ) (old new : P) : Type 0 where
  pub belongs_to : belongs new
  pub document : (account new).document ≡ (account old).document
  pub opening : (account new).opening ≡ (account old).opening
  pub few : (account old).left ≤ (account new).left + most
