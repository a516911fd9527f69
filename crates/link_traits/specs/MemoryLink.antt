-- A link in memory: what its calls answer, and what they leave.
use Rattle.std.specs.Prelude.{ℕ, Bool, ◌||◌, not, nat_le, ◌+◌, ◌-◌, min, drop, length, List, [], ◌∷◌, ◌++◌, Result}
use Rattle.std.specs.Prelude.{Ok, Err, ⊤, if◌then◌else◌}
use Rattle.std.specs.List.{concat}
use Rattle.value_text.specs.Texts.{Text}
use Rattle.link_traits.specs.Counts.{is_next_in, one_more}
use Rattle.link_traits.specs.Links.{with_answer, with_bytes}
use Rattle.link_traits.specs.declared.source.Failed.{Failed}
use Rattle.link_traits.specs.declared.target.Ask.{Ask}

-- the answers that are not used yet, each as its pieces, what was asked so far, and the bytes of room
-- for more asks
pub record LinkState : Type 0 where
  pub answers : List (List Text)
  pub asks : List Ask
  pub room : ℕ

-- the asks that were kept, how many bytes of the answer to each were received, and the bytes of room for more
pub record KeptState : Type 0 where
  pub asks : List Ask
  pub received : List ℕ
  pub room : ℕ

-- its state, the pieces still to come of the current answer, how many bytes of each answer were received, of each kind
-- of call how many there were and the numbers of those that fail, and how often it failed
pub record MemoryLinkState : Type 0 where
  pub state : LinkState
  pub pieces : List Text
  pub received : List ℕ
  pub ask_calls : ℕ
  pub failing_asks : List ℕ
  pub receive_calls : ℕ
  pub failing_receives : List ℕ
  pub faults : ℕ

-- the first of a list of lists, or the empty one
abbrev pub front : {A : Type 0} → List (List A) → List A
front [] = []
front (first ∷ rest) = first

-- the bytes of the answer to any ask are those of the next answer, and none where no answer is left
abbrev pub answer_to : LinkState → Text → Text → Text
answer_to state origin request = concat (front state.answers)

-- an ask needs as much room as its origin and its request have bytes, and one byte more
abbrev pub needed_room : Ask → ℕ
needed_room ask = length ask.origin + length ask.request + 1

-- whether there is as much room as an ask needs
abbrev pub finds_room : ℕ → Ask → Bool
finds_room room ask = nat_le (needed_room ask) room

-- an ask is kept where it finds its room
abbrev pub asks_after : ℕ → List Ask → Ask → List Ask
asks_after room asks ask = if finds_room room ask then asks ++ ask ∷ [] else asks

-- and then it uses that room
abbrev pub room_after : ℕ → Ask → ℕ
room_after room ask = if finds_room room ask then room - needed_room ask else room

-- and then an answer more is to be received
abbrev pub received_after : ℕ → List ℕ → Ask → List ℕ
received_after room received ask = if finds_room room ask then with_answer received else received

-- the state after an ask: an answer is used up, and the ask is kept where it finds its room
abbrev pub state_after : LinkState → Text → Text → LinkState
state_after state origin request =
    let ask : Ask = record { origin = origin; request = request } in
    record {
      answers = drop 1 state.answers;
      asks = asks_after state.room state.asks ask;
      room = room_after state.room ask;
    }

-- an ask fails as its number says, and where it does not find its room
abbrev pub fails_ask : MemoryLinkState → Ask → Bool
fails_ask link ask = is_next_in link.failing_asks link.ask_calls || not (finds_room link.state.room ask)

abbrev pub ask_answer : MemoryLinkState → Text → Text → Result ⊤ Failed
ask_answer link origin request =
    if fails_ask link (record { origin = origin; request = request }) then Err (record {}) else Ok tt

-- what was received of each answer, with that of an ask
abbrev pub received_with : MemoryLinkState → List ℕ → List ℕ → List ℕ
received_with link origin request =
    received_after link.state.room link.received (record { origin = origin; request = request })

-- what an ask with this answer leaves: the pieces of the next answer are to come, or none after a failure
abbrev pub after_ask : MemoryLinkState → Text → Text → Result ⊤ Failed → MemoryLinkState
after_ask link origin request (Ok done) =
    record link {
      state = state_after link.state origin request;
      pieces = front link.state.answers;
      received = received_with link origin request;
      ask_calls = one_more link.ask_calls;
    }
after_ask link origin request (Err failed) =
    record link {
      state = state_after link.state origin request;
      pieces = [];
      received = received_with link origin request;
      ask_calls = one_more link.ask_calls;
      faults = one_more link.faults;
    }

-- the pieces from the first on that is not empty
abbrev pub skipped : List Text → List Text
skipped [] = []
skipped ([] ∷ pieces) = skipped pieces
skipped ((byte ∷ piece) ∷ pieces) = (byte ∷ piece) ∷ pieces

-- the pieces that are left once so many bytes of the first were taken
abbrev pub behind : ℕ → List Text → List Text
behind n [] = []
behind n (piece ∷ pieces) = drop n piece ∷ pieces

-- a receive into a buffer of so many bytes fails as its number says, or gives what fits of the first
-- piece that is not empty
abbrev pub receive_answer : MemoryLinkState → ℕ → Result ℕ Failed
receive_answer link room =
    if is_next_in link.failing_receives link.receive_calls then Err (record {})
    else Ok (min (length (front (skipped link.pieces))) room)

-- what a receive with this answer leaves
abbrev pub after_receive : MemoryLinkState → Result ℕ Failed → MemoryLinkState
after_receive link (Ok n) =
    record link {
      pieces = behind n (skipped link.pieces);
      received = with_bytes n link.received;
      receive_calls = one_more link.receive_calls;
    }
after_receive link (Err failed) =
    record link { receive_calls = one_more link.receive_calls; faults = one_more link.faults }
