-- How a request is listened to: until a block ends, which alone can be its head.
use Rattle.std.specs.Prelude.{◌≡◌, ℕ, ◌≤◌, ◌+◌, ◌⊎◌, Bool, true, false, List, length, take, Option}
use Rattle.std.specs.List.{list_any}
use Rattle.value_text.specs.Texts.{Text}
use Rattle.link_traits.specs.Counts.{one_more}
use Rattle.link_traits.specs.Sources.{Gave, IsAtEnd}
use Rattle.link_http1.specs.Blocks.{is_block, is_line_byte}
use Rattle.link_http1.specs.RequestHeads.{IsRead}
use Rattle.link_http1.specs.declared.request_head.Asked.{Asked}
use Rattle.server_tables.specs.Serving.{AskedOn, Heard, IsServing, most_read, PeerTold}
use Rattle.server_tables.specs.declared.listen.Search.{Search}
use Rattle.server_tables.specs.declared.serving.Served.{Served}
use Rattle.server_tables.specs.declared.table.Row.{Row}

-- a block ends in the bytes
abbrev pub HasBlock : Text → Type 0
HasBlock bytes = (n : ℕ) × (is_block (take n bytes) ≡ true)

-- so many of the bytes were searched: no block ends in them
pub record IsSearched (search : Search) (bytes : Text) : Type 0 where
  pub within : search.searched ≤ length bytes
  pub begun_is : search.begun ≡ list_any is_line_byte (take search.searched bytes)
  pub none : (n : ℕ) → n ≤ search.searched → is_block (take n bytes) ≡ false

-- the sink of a peer is as it was, and its source gave these bytes
pub record Gives (old new : PeerTold) (bytes : Text) : Type 0 where
  pub gave : Gave old.source.left new.source.left bytes
  pub sink : new.sink ≡ old.sink

-- so many bytes came that no more are read, or the source is at its end
abbrev pub IsOver : PeerTold → ℕ → Type 0
IsOver new count = IsAtEnd new.source.left ⊎ (count ≡ most_read)

-- bytes came: a block ends in them, or none does and no more come
pub record HasCome (old new : PeerTold) (bytes : Text) (found : Bool) : Type 0 where
  pub gives : Gives old new bytes
  pub few : length bytes ≤ most_read
  pub quiet : new.source.faults ≡ old.source.faults
  pub block : found ≡ true → HasBlock bytes
  pub over : found ≡ false → IsOver new (length bytes)
  pub asked_on : AskedOn bytes

-- after so many bytes more came, and there is room for so many
pub record HasComeOn (old new : PeerTold) (before room : ℕ) : Type 0 where
  pub rest : Text
  pub gives : Gives old new rest
  pub all : before + length rest + room ≡ most_read
  pub quiet : new.source.faults ≡ old.source.faults

-- after so many bytes the rest came, up to the end, and no read failed
pub record HasEnded (old new : PeerTold) (before : ℕ) : Type 0 where
  pub rest : Text
  pub gives : Gives old new rest
  pub few : before + length rest ≤ most_read
  pub over : IsOver new (before + length rest)
  pub quiet : new.source.faults ≡ old.source.faults

-- so many bytes came, and the source failed
pub record HasFailed (old new : PeerTold) (before : ℕ) : Type 0 where
  pub rest : Text
  pub gives : Gives old new rest
  pub few : before + length rest ≤ most_read
  pub cause : new.source.faults ≡ one_more old.source.faults

-- a request was heard, and what it asks was read of it
pub record HasHeard (old new : PeerTold) (asked : Option Asked) : Type 0 where
  pub bytes : Text
  pub heard : Heard old.source new.source bytes
  pub read : IsRead bytes asked
  pub sink : new.sink ≡ old.sink

-- listening was stopped
abbrev pub Stopped : PeerTold → PeerTold → Served → Type 0
Stopped old new stop = (table : List Row) → IsServing table old new stop
