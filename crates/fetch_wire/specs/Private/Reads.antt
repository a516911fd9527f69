-- What is found of the head and of the body of an answer before the wire goes on or is closed.
use Rattle.std.specs.Prelude.{ℕ, ◌+◌, ◌<◌, ◌≤◌, List, drop, length, Option}
use Rattle.value_text.specs.Texts.{Text}
use Rattle.value_requests.specs.declared.response.BodyEnd.{BodyEnd}
use Rattle.value_requests.specs.declared.response.BodyEnd.TheVariants as body
use Rattle.link_traits.specs.Counts.{one_more}
use Rattle.link_traits.specs.Links.{Received}
use Rattle.link_traits.specs.Sources.{Gave, GaveJust}
use Rattle.link_http1.specs.Answers.{bad, long}
use Rattle.link_http1.specs.declared.framing.Framing.{Framing}
use Rattle.fetch_wire.specs.declared.exchange.Ended.{Ended}
use Rattle.fetch_wire.specs.declared.exchange.Ended.TheVariants as ended
use Rattle.fetch_wire.specs.declared.exchange.Found.{Found}
use Rattle.fetch_wire.specs.declared.exchange.Found.TheVariants as found
use Rattle.fetch_wire.specs.Exchanges.{HasBody, HasHead, HasNoHead, LeavesBody, LeavesHead, Waited, most_received}
use Rattle.fetch_wire.specs.Wires.{onto_left}

-- what was found of the head in the bytes to come: a final head that ends so many bytes into the window, no head, too
-- long a one, or that the link failed after bytes that leave the head open
abbrev pub Finds : Option Text → Found → Text → Option Text → Type 0
Finds coming (found.Head head count) window left =
    (count ≤ length window) × HasHead coming head (onto_left (drop count window) left)
Finds coming found.Bad window left = HasNoHead coming bad
Finds coming found.Long window left = HasNoHead coming long
Finds coming found.Fault window left = LeavesHead coming left

-- the count of faults after what was found of the head
abbrev pub faults_found : Found → ℕ → ℕ
faults_found found.Fault count = one_more count
faults_found _ count = count

-- A link gave so many bytes of those to come, where told, and they were counted. No more came than were needed, but for
-- those of one receive.
pub record GivesSome (Open : List ℕ → Type 0) (coming left left' received received' : Option (List ℕ)) : Type 0 where
  pub count : ℕ
  pub gone : GaveJust left left' count
  pub counted : Received count received received'
  pub waited : Waited Open coming left count

-- It gave so many at most.
pub record GivesAtMost (Open : List ℕ → Type 0) (coming left left' received received' : Option (List ℕ)) (most : ℕ)
    : Type 0 where
  pub gives : GivesSome Open coming left left' received received'
  pub few : gives.count ≤ most

-- What was gathered before the last receive is less than `fewest`, or nothing; and that receive gave 4,096 at most.
pub record Gathers (fewest : ℕ) (left : Option Text) (window : Text) : Type 0 where
  pub before : Text
  pub mid : Option Text
  pub gave : Gave left mid before
  pub waits : 0 < length before → length before < fewest
  pub few : length window ≤ length before + most_received

-- the end of a body of so many bytes at most, or of one that has none
abbrev pub HasAtMost : BodyEnd → ℕ → Type 0
HasAtMost (body.Whole bytes) most = length bytes ≤ most
HasAtMost _ most = Unit {0}

-- what was found of the body in the bytes to come: its end, or that the link failed after bytes that leave it open
abbrev pub Reads : Framing → ℕ → Option Text → Ended → Option Text → Type 0
Reads how limit coming (ended.Body end) left = HasBody how limit coming end
Reads how limit coming (ended.Fault n) left = LeavesBody how limit coming left n

-- the count of faults after what was found of the body
abbrev pub faults_ended : Ended → ℕ → ℕ
faults_ended (ended.Body end) count = count
faults_ended (ended.Fault n) count = one_more count
