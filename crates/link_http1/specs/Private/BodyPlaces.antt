-- What a reader of a body holds, what the bytes that follow come to there, and what a piece comes to.
use Rattle.std.specs.Prelude.{◌≡◌, ℕ, ◌≤◌, ◌<◌, min, [], ◌++◌, length}
use Rattle.value_text.specs.Texts.{Text}
use Rattle.value_requests.specs.declared.response.BodyEnd.{BodyEnd}
use Rattle.value_requests.specs.declared.response.BodyEnd.TheVariants as end
use Rattle.link_http1.specs.declared.framing.Framing.{Framing}
use Rattle.link_http1.specs.declared.framing.Framing.TheVariants as framing
use Rattle.link_http1.specs.declared.place.Place.{Place}
use Rattle.link_http1.specs.declared.taking.Found.{Found}
use Rattle.link_http1.specs.declared.taking.Found.TheVariants as found
use Rattle.link_http1.specs.Bodies.{body_end, ended}
use Rattle.link_http1.specs.Private.Places.{decoded_at, IsLive}

-- how the body ends where bytes are held, the reader is at a place, and these bytes follow
abbrev pub rest_end : Framing → ℕ → Text → Place → Text → BodyEnd
rest_end framing.Chunked limit held place more =
    ended limit (decoded_at place more).complete (held ++ (decoded_at place more).data_is)
rest_end how limit held place more = body_end how limit (held ++ more)

-- how many bytes are held at most
abbrev pub most_held : Framing → ℕ → ℕ
most_held framing.Nothing limit = 0
most_held framing.Broken limit = 0
most_held (framing.Length total) limit = min total limit
most_held framing.ToEnd limit = limit
most_held framing.Chunked limit = limit

-- what is held stays within the framing
abbrev pub IsKept : Framing → Text → Place → Type 0
IsKept framing.Nothing held place = length held ≡ 0
IsKept framing.Broken held place = length held ≡ 0
IsKept framing.ToEnd held place = Unit {0}
IsKept (framing.Length total) held place = length held ≤ total
IsKept framing.Chunked held place = IsLive place

-- and does not decide the body
abbrev pub IsWaiting : Framing → Text → Place → Type 0
IsWaiting framing.Nothing held place = ⊥
IsWaiting framing.Broken held place = ⊥
IsWaiting framing.ToEnd held place = Unit {0}
IsWaiting (framing.Length total) held place = length held < total
IsWaiting framing.Chunked held place = IsLive place

-- A reader of a body with this framing and limit, after all bytes so far: it holds decoded bytes, has room for all
-- that it may hold, and is at a place.
pub record IsReading (how : Framing) (limit : ℕ) (bytes held : Text) (room : ℕ) (place : Place) : Type 0 where
  pub meaning : (more : Text) → body_end how limit (bytes ++ more) ≡ rest_end how limit held place more
  pub within : length held ≤ limit
  pub reserved : most_held how limit ≤ room
  pub kept : IsKept how held place

-- The body stays open, and what is left of a piece and the bytes that follow come to the same end as they
-- do after the piece.
pub record IsOn (how : Framing) (limit : ℕ) (after : Text → BodyEnd) (held : Text) (room : ℕ) (place : Place)
    (left : Text) : Type 0 where
  pub meaning : (more : Text) → after more ≡ rest_end how limit held place (left ++ more)
  pub within : length held ≤ limit
  pub reserved : most_held how limit ≤ room
  pub waiting : IsWaiting how held place

-- The body is decided after a piece, and these bytes are held.
pub record IsAtEnd (limit : ℕ) (after : Text → BodyEnd) (held : Text) (end : BodyEnd) : Type 0 where
  pub meaning : (more : Text) → after more ≡ end
  pub within : length held ≤ limit

-- what a piece comes to, after which the bytes that follow come to this end
abbrev pub Comes : Framing → ℕ → (Text → BodyEnd) → Text → ℕ → Place → Found → Type 0
Comes how limit after held room place found.Open = IsOn how limit after held room place []
Comes how limit after held room place found.Absent = (more : Text) → after more ≡ end.Null
Comes how limit after held room place found.Whole = IsAtEnd limit after held (end.Whole held)
Comes how limit after held room place found.Cut = IsAtEnd limit after held (end.Cut (length held))
Comes how limit after held room place found.TooBig = (more : Text) → after more ≡ end.TooBig
