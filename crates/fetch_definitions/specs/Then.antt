-- What the rules of a fetch share: what they are lent, what follows them, and what an input says (Fetch, section 4,
-- where the steps return to the step that called them).
use Rattle.std.specs.Prelude.{ℕ, Bool, true, false, List, [], ◌∷◌, Option, Some, None, Result, Ok, Err}
use Rattle.fetch_definitions.specs.Words.{Ask, BadHead, BodyEnd, BodyIs, Client, Cookie, Head, HeadBad, HeadIs}
use Rattle.fetch_definitions.specs.Words.{HeadLong}
use Rattle.fetch_definitions.specs.Words.{HeadTooBig, Input, LinkFault, NetError, Null, Op, Policy, Process, Replied}
use Rattle.fetch_definitions.specs.Words.{Request, Sent, Tell, Violation, Yes, act}

-- What a fetch is lent: the client that fetches, its policies, the table of cookies, and the time.
pub record Context : Type 0 where
  pub client : Client
  pub policies : List Policy
  pub cookies : List Cookie
  pub now : ℕ

-- a context of these
abbrev pub context_of : Client → List Policy → List Cookie → ℕ → Context
context_of client policies cookies now =
    record { client = client; policies = policies; cookies = cookies; now = now }

-- what is done with the request as it is now and with what a level of the fetch came to: a head, or a network error
abbrev pub Then : Type 0
Then = Request → Result Head NetError → Process

-- how a redirect goes on: main fetch again, and what follows it
abbrev pub Onward : Type 0
Onward = Then → Request → Process

-- ---- what an input says

-- the book said yes
abbrev pub said_yes : Input → Bool
said_yes (Replied Yes) = true
said_yes _ = false

-- the request was sent
abbrev pub was_sent : Input → Bool
was_sent Sent = true
was_sent _ = false

-- the head that came, or the network error in its place
abbrev pub head_of : Input → Result Head NetError
head_of (HeadIs head) = Ok head
head_of HeadBad = Err BadHead
head_of HeadLong = Err HeadTooBig
head_of _ = Err LinkFault

-- how the body came to its end
abbrev pub body_of : Input → BodyEnd
body_of (BodyIs end) = end
body_of _ = Null

-- ---- acts whose input says nothing

-- the book is told, and it goes on
abbrev pub then_ask : Request → Op → Process → Process
then_ask request op rest = act request (Ask op) (λ _. rest)

-- the same, where there is something to tell
abbrev pub then_ask_where : Request → Option Op → Process → Process
then_ask_where request None rest = rest
then_ask_where request (Some op) rest = then_ask request op rest

-- each violation is told, in order, and it goes on
abbrev pub tell_all : Request → List Violation → Process → Process
tell_all request [] rest = rest
tell_all request (violation ∷ violations) rest =
    act request (Tell violation) (λ _. tell_all request violations rest)
