-- Scripted servers on a link: what they take from a request's first line (RFC 9112, section 3), and what
-- a receive gives of the answer.
use Rattle.std.specs.Prelude.{ℕ, Bool, ◌==◌, min, drop, length, List, Option, None}
use Rattle.std.specs.List.{after_first, before_first}
use Rattle.value_text.specs.Texts.{Text}
use Rattle.value_text.specs.Ascii.{space}
use Rattle.link_traits.specs.Links.{Lendings}
use Rattle.link_traits.specs.declared.target.Ask.{Ask}
use Rattle.script_scenarios.specs.Servers.{answer}
use Rattle.script_scenarios.specs.declared.servers.Server.{Server}

-- ---- requests

-- SP, which parts a request's first line
abbrev pub is_space : ℕ → Bool
is_space byte = byte == space

-- the method: what is before the first space
abbrev pub method_of : Text → Text
method_of request = before_first is_space request

-- the request target: what is between the first and the second space
abbrev pub target_of : Text → Text
target_of request = before_first is_space (after_first is_space request)

-- the answer of the servers to a request for this origin
abbrev pub answer_to : List Server → Text → Text → Text
answer_to servers origin request = answer servers origin (method_of request) (target_of request)

-- ---- the link

-- the servers, how many bytes of an answer come at once at most, and the bytes still to come
pub record SimState : Type 0 where
  pub servers : List Server
  pub piece : ℕ
  pub left : Text

-- it does not tell what it was asked
abbrev pub told_asks : Option (List Ask)
told_asks = None

-- nor how many bytes of each answer were received
abbrev pub told_counts : Option (List ℕ)
told_counts = None

-- nor do links to them tell which of them are out
abbrev pub not_lent : Option (Lendings SimState)
not_lent = None

-- it never failed
abbrev pub fault_count : ℕ
fault_count = 0

-- the least of the buffer, the piece and the rest
abbrev pub received : SimState → ℕ → ℕ
received link room = min (min room link.piece) (length link.left)

-- after so many bytes were given the others are still to come
abbrev pub after_receive : SimState → ℕ → SimState
after_receive link count = record link { left = drop count link.left }
