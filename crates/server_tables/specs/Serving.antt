-- What serving one peer comes to: what was read of it, and what was written to it.
use Rattle.std.specs.Prelude.{◌≡◌, ℕ, ◌+◌, ◌≤◌, ◌⊎◌, List, length, take, Option, Some, None}
use Rattle.value_text.specs.Texts.{Text}
use Rattle.link_traits.specs.Counts.{one_more}
use Rattle.link_traits.specs.Sinks.{FailedOnce, NeverFailed, SinkTold, Took, TookPart}
use Rattle.link_traits.specs.Sources.{Gave, IsAtEnd, SourceTold}
use Rattle.link_http1.specs.RequestHeads.{IsRead}
use Rattle.link_http1.specs.declared.request_head.Asked.{Asked}
use Rattle.server_tables.specs.Served.{IsReply, IsServed, Reply, reply_bytes}
use Rattle.server_tables.specs.declared.serving.Served.{Served}
use Rattle.server_tables.specs.declared.serving.Served.TheVariants as served
use Rattle.server_tables.specs.declared.table.Row.{Row}

-- how many bytes are read of a peer at most
abbrev pub most_read : ℕ
most_read = 65536

-- what a peer tells
pub record PeerTold : Type 0 where
  pub source : SourceTold
  pub sink : SinkTold

abbrev pub peer_told : {P : Type 0} → (P → SourceTold) → (P → SinkTold) → P → PeerTold
peer_told gives takes peer = record { source = gives peer; sink = takes peer }

-- the bytes read suffice: they have a request head, or are all that the source had, or as many as are read at most
abbrev pub Suffice : Option Text → Text → Type 0
Suffice left bytes = ((asked : Asked) × IsRead bytes (Some asked)) ⊎ IsAtEnd left ⊎ (length bytes ≡ most_read)

-- the most bytes that are asked for at once
abbrev pub most_at_once : ℕ
most_at_once = 4096

-- No more was asked for than had to be: before the last piece, of at most 4,096 bytes, no request head had come.
pub record AskedOn (bytes : Text) : Type 0 where
  pub earlier : ℕ
  pub few : length bytes ≤ earlier + most_at_once
  pub none : IsRead (take earlier bytes) None

-- these bytes were read, they suffice, no more was asked for than had to be, and no read failed
pub record Heard (old new : SourceTold) (bytes : Text) : Type 0 where
  pub gave : Gave old.left new.left bytes
  pub few : length bytes ≤ most_read
  pub suffice : Suffice new.left bytes
  pub asked_on : AskedOn bytes
  pub quiet : new.faults ≡ old.faults

-- the reply to the bytes read was written whole, and no write failed
pub record Answered (table : List Row) (old new : PeerTold) (status : ℕ) : Type 0 where
  pub bytes : Text
  pub heard : Heard old.source new.source bytes
  pub reply : Reply
  pub is_reply : IsReply table bytes reply
  pub status_is : status ≡ reply.status
  pub took : Took old.sink.taken new.sink.taken (reply_bytes reply)
  pub quiet : NeverFailed old.sink new.sink

-- the reply to the bytes read was not written whole: the sink failed, or took nothing of a piece
pub record WasCut (table : List Row) (old new : PeerTold) : Type 0 where
  pub bytes : Text
  pub heard : Heard old.source new.source bytes
  pub answer : Text
  pub is_served : IsServed table bytes answer
  pub took : TookPart old.sink.taken new.sink.taken answer
  pub cause : FailedOnce old.sink new.sink

-- the source failed before a request head had come, and nothing was written
pub record WasUnheard (old new : PeerTold) : Type 0 where
  pub bytes : Text
  pub gave : Gave old.source.left new.source.left bytes
  pub few : length bytes ≤ most_read
  pub none : IsRead bytes None
  pub cause : new.source.faults ≡ one_more old.source.faults
  pub sink : new.sink ≡ old.sink

-- memory was refused, no more was asked for than had to be, no read failed, and nothing was written
pub record RanShort (old new : PeerTold) : Type 0 where
  pub bytes : Text
  pub gave : Gave old.source.left new.source.left bytes
  pub few : length bytes ≤ most_read
  pub asked_on : AskedOn bytes
  pub quiet : new.source.faults ≡ old.source.faults
  pub sink : new.sink ≡ old.sink

abbrev pub IsServing : List Row → PeerTold → PeerTold → Served → Type 0
IsServing table old new (served.Answered status) = Answered table old new status
IsServing table old new served.ReadFault = WasUnheard old new
IsServing table old new served.WriteFault = WasCut table old new
IsServing table old new served.OutOfMemory = RanShort old new
