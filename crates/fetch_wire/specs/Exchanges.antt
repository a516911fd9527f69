-- What comes of the acts of a fetch over a link (RFC 9112): a request is sent, and the head and the body are read
-- of the bytes of its answer, or the link fails. A link may tell its state and the bytes to come, or not: of bytes
-- that are not told it is said that there are some, and not which.
use Rattle.std.specs.Prelude.{◌≡◌, ◌⊎◌, ℕ, ◌+◌, ◌≤◌, Bool, true, false, List, take, length, Option, Some, None}
use Rattle.std.specs.Prelude.{if◌then◌else◌, option_map}
use Rattle.value_text.specs.Texts.{Text}
use Rattle.value_requests.specs.declared.hop.Head.{Head}
use Rattle.value_requests.specs.declared.hop.Hop.{Hop}
use Rattle.value_requests.specs.declared.response.BodyEnd.{BodyEnd}
use Rattle.value_requests.specs.declared.response.BodyEnd.TheVariants as body
use Rattle.link_traits.specs.Counts.{one_more}
use Rattle.link_traits.specs.Links.{Awaits, Received}
use Rattle.link_traits.specs.Sources.{Gave, GaveJust, IsAtEnd}
use Rattle.link_http1.specs.Answers.{HeadEnd, IsHeadEnd, IsUnfinished, final, bad, long, most_bytes}
use Rattle.link_http1.specs.Bodies.{IsOpen, body_end}
use Rattle.link_http1.specs.Framings.{framing_of}
use Rattle.link_http1.specs.declared.framing.Framing.{Framing}
use Rattle.link_http1.specs.declared.framing.Framing.TheVariants as framing
use Rattle.fetch_acts.specs.declared.act.Act.{Act}
use Rattle.fetch_acts.specs.declared.act.Act.TheVariants.{Ask, Send, ReadHead, ReadBody, Tell}
use Rattle.fetch_acts.specs.declared.act.Input.{Input}
use Rattle.fetch_acts.specs.declared.act.Input.TheVariants.{Sent, HeadIs, HeadBad, HeadLong, BodyIs, Fault}

-- What answers requests: in a state, the bytes of the answer to a hop, and the state after it.
pub record Answering (State : Type 0) : Type 0 where
  pub answer : State → Hop → Text
  pub next : State → Hop → State

-- What is known of an exchange over a link: the link's state, where told; the bytes of the answer still to come, where
-- told, and those of them that the link has not given yet; how many bytes of each answer the link gave, where told; how
-- the body is framed, once its head was read; and how often the link failed.
pub record Exchange (State : Type 0) : Type 0 where
  pub state : Option State
  pub coming : Option Text
  pub left : Option Text
  pub received : Option (List ℕ)
  pub framing : Framing
  pub faults : ℕ

-- Nothing is to come.
pub record IsIdle {State : Type 0} (exchange : Exchange State) : Type 0 where
  pub end : IsAtEnd exchange.coming
  pub framing_is : exchange.framing ≡ framing.Nothing

-- An answer was broken off: nothing is kept of what was received of it, and no body is to be read.
pub record IsBrokenOff {State : Type 0} (exchange : Exchange State) : Type 0 where
  pub none_kept : exchange.coming ≡ exchange.left
  pub framing_is : exchange.framing ≡ framing.Nothing

-- these bytes are to come, where told
abbrev pub AreToCome : Option Text → Text → Type 0
AreToCome None bytes = Unit {0}
AreToCome (Some coming) bytes = bytes ≡ coming

-- ---- faults

-- the input tells that the link failed
abbrev pub is_fault : Input → Bool
is_fault Fault = true
is_fault (BodyIs (body.Fault n)) = true
is_fault _ = false

-- the count of faults once an input came: one more where it is a fault
abbrev pub faults_with : Input → ℕ → ℕ
faults_with input count = if is_fault input then one_more count else count

-- The count of faults rose by one where the input is a fault, and is as it was otherwise. It has not fallen.
pub record IsCaused (input : Input) (before now : ℕ) : Type 0 where
  pub later : before ≤ now
  pub counted : now ≡ faults_with input before

-- ---- the request

-- the whole answer is to come, and nothing of it was received; or nothing is to come where the link failed
abbrev pub IsAnswered : {State : Type 0} → (State → Text) → Exchange State → Input → Exchange State → Type 0
IsAnswered answer old Sent new = (new.coming ≡ option_map answer old.state) × (new.left ≡ new.coming)
IsAnswered answer old Fault new = IsAtEnd new.coming
IsAnswered answer old _ new = ⊥

-- the counts of received bytes, one for each answer: a request that was sent adds a count of 0; one that failed may add
-- one too
abbrev pub IsAwaited : Input → Option (List ℕ) → Option (List ℕ) → Type 0
IsAwaited Sent old new = Awaits old new
IsAwaited _ old new = Awaits old new ⊎ (new ≡ old)

-- A request was sent, or the link failed. In both the state goes on.
pub record IsRequested {State : Type 0} (answer : State → Text) (next : State → State) (old : Exchange State)
    (input : Input) (new : Exchange State) : Type 0 where
  pub answered : IsAnswered answer old input new
  pub framing_is : new.framing ≡ framing.Nothing
  pub state_is : new.state ≡ option_map next old.state
  pub awaited : IsAwaited input old.received new.received
  pub caused : IsCaused input old.faults new.faults

-- the request of a hop was sent, or the link failed
abbrev pub IsSent : {State : Type 0} → Answering State → Exchange State → Hop → Input → Exchange State → Type 0
IsSent by old hop input new = IsRequested (λ state. by.answer state hop) (λ state. by.next state hop) old input new

-- ---- what is received

-- with this input the answer is over, and the link is hung up
abbrev pub ends_answer : Input → Bool
ends_answer HeadBad = true
ends_answer HeadLong = true
ends_answer (BodyIs (body.Fault n)) = false
ends_answer (BodyIs end) = true
ends_answer _ = false

-- The link gave so many bytes of its answer, which were counted; where it was not hung up they are gone from what it
-- has left.
pub record Gives {State : Type 0} (old : Exchange State) (input : Input) (new : Exchange State) (count : ℕ)
    : Type 0 where
  pub counted : Received count old.received new.received
  pub gone : ends_answer input ≡ false → GaveJust old.left new.left count

-- the most bytes that one receive gives
abbrev pub most_received : ℕ
most_received = 4096

-- At some moment what had come was open and the link had given `earlier` bytes. It gave 4,096 more at most.
pub record WaitedFor (Open : Text → Type 0) (coming left : Option Text) (count : ℕ) : Type 0 where
  pub earlier : ℕ
  pub few : count ≤ earlier + most_received
  pub mid : Option Text
  pub gone : GaveJust left mid earlier
  pub bytes : Text
  pub came : Gave coming mid bytes
  pub waits : Open bytes

-- the link gave so many bytes: none, or at most 4,096 since what had come was open
abbrev pub Waited : (Text → Type 0) → Option Text → Option Text → ℕ → Type 0
Waited Open coming left count = (count ≡ 0) ⊎ WaitedFor Open coming left count

-- ---- the head

-- Some bytes, those to come where told, have this final head, and those after it are to come then.
pub record HasHead (coming : Option Text) (head : Head) (behind : Option Text) : Type 0 where
  pub bytes : Text
  pub are_all : AreToCome coming bytes
  pub n : ℕ
  pub ends : IsHeadEnd bytes (final head n)
  pub left : Gave coming behind (take n bytes)

-- Some bytes, those to come where told, have no head or too long a one.
pub record HasNoHead (coming : Option Text) (end : HeadEnd) : Type 0 where
  pub bytes : Text
  pub are_all : AreToCome coming bytes
  pub ends : IsHeadEnd bytes end

-- Some bytes, those that came of the bytes to come where told, leave the head open: no beginning of them decides it.
pub record LeavesHead (coming left : Option Text) : Type 0 where
  pub bytes : Text
  pub came : Gave coming left bytes
  pub waits : IsUnfinished bytes

-- what the head came to; where there is none nothing is to come then, and where the link failed the head was open
abbrev pub FindsHead : {State : Type 0} → Exchange State → Input → Exchange State → Type 0
FindsHead old (HeadIs head) new = HasHead old.coming head new.coming × (new.framing ≡ framing_of head)
FindsHead old HeadBad new = HasNoHead old.coming bad × IsIdle new
FindsHead old HeadLong new = HasNoHead old.coming long × IsIdle new
FindsHead old Fault new = LeavesHead old.coming new.left × IsBrokenOff new
FindsHead old _ new = ⊥

-- The head was read, or the link failed. In this read the link gave 65,537 bytes at most, and at most 4,096 since the
-- head was open.
pub record IsHeadRead {State : Type 0} (old : Exchange State) (input : Input) (new : Exchange State) : Type 0 where
  pub head_is : FindsHead old input new
  pub count : ℕ
  pub few : count ≤ most_bytes + 1
  pub waited : Waited IsUnfinished old.coming old.left count
  pub gives : Gives old input new count
  pub state_is : new.state ≡ old.state
  pub caused : IsCaused input old.faults new.faults

-- ---- the body

-- Some bytes, those to come where told, have a body that comes to this end.
pub record HasBody (how : Framing) (limit : ℕ) (coming : Option Text) (end : BodyEnd) : Type 0 where
  pub bytes : Text
  pub are_all : AreToCome coming bytes
  pub ends : end ≡ body_end how limit bytes

-- how many bytes a body had that came to this end
abbrev pub count_of : BodyEnd → ℕ
count_of (body.Cut n) = n
count_of (body.Whole bytes) = length bytes
count_of _ = 0

-- Some bytes, those that came of the bytes to come where told, leave the body open, and had the answer ended there the
-- body would have had so many bytes.
pub record LeavesBody (how : Framing) (limit : ℕ) (coming left : Option Text) (n : ℕ) : Type 0 where
  pub bytes : Text
  pub came : Gave coming left bytes
  pub waits : IsOpen how limit bytes
  pub count_is : n ≡ count_of (body_end how limit bytes)

-- what the body came to, or the link failed while it was open and has so much left
abbrev pub EndsBody : Framing → ℕ → Option Text → BodyEnd → Option Text → Type 0
EndsBody how limit coming (body.Fault n) left = LeavesBody how limit coming left n
EndsBody how limit coming end left = HasBody how limit coming end

-- after a body nothing is to come; after a fault nothing is kept of what was received
abbrev pub IsBehind : {State : Type 0} → BodyEnd → Exchange State → Type 0
IsBehind (body.Fault n) new = IsBrokenOff new
IsBehind end new = IsIdle new

-- what the input tells of the body
abbrev pub FindsBody : {State : Type 0} → ℕ → Exchange State → Input → Exchange State → Type 0
FindsBody limit old (BodyIs end) new = EndsBody old.framing limit old.coming end new.left × IsBehind end new
FindsBody limit old _ new = ⊥

-- The body was read, with so many bytes at most, or the link failed. In this read the link gave
-- at most 4,096 bytes since the body was open.
pub record IsBodyRead {State : Type 0} (limit : ℕ) (old : Exchange State) (input : Input) (new : Exchange State)
    : Type 0 where
  pub body_is : FindsBody limit old input new
  pub count : ℕ
  pub waited : Waited (IsOpen old.framing limit) old.coming old.left count
  pub gives : Gives old input new count
  pub state_is : new.state ≡ old.state
  pub caused : IsCaused input old.faults new.faults

-- ---- acts

-- what comes of an act over a link, and the exchange after it; calls of the shared book, and what the document is told,
-- do not go over a link
abbrev pub Exchanges : {State : Type 0} → Answering State → ℕ → Exchange State → Act → Input → Exchange State → Type 0
Exchanges by limit old (Send hop) input new = IsSent by old hop input new
Exchanges by limit old ReadHead input new = IsHeadRead old input new
Exchanges by limit old ReadBody input new = IsBodyRead limit old input new
Exchanges by limit old (Ask op) input new = ⊥
Exchanges by limit old (Tell violation) input new = ⊥

-- Where memory was refused the state and the count of faults are as they were, and some bytes may have been received.
pub record ExchangeRefused {State : Type 0} (old new : Exchange State) : Type 0 where
  pub state_is : new.state ≡ old.state
  pub count : ℕ
  pub counted : Received count old.received new.received
  pub faults_are : new.faults ≡ old.faults
