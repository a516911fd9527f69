-- Connections that were served, one after the other, and what was written of each.
use Rattle.std.specs.Prelude.{◌≡◌, ℕ, ◌<◌, List, [], ◌∷◌, ◌++◌, length, map, take, codes, decimal, Option, Some, None}
use Rattle.std.specs.List.{AllByRecursion, flat_map}
use Rattle.value_text.specs.Texts.{Text}
use Rattle.link_traits.specs.Counts.{one_more}
use Rattle.link_traits.specs.Links.{Lendings}
use Rattle.link_traits.specs.Sinks.{FailedOnce, NeverFailed, SinkTold, Took}
use Rattle.program_shell.specs.Statuses.{line}
use Rattle.server_tables.specs.Serving.{IsServing, PeerTold}
use Rattle.server_tables.specs.declared.serving.Served.{Served}
use Rattle.server_tables.specs.declared.serving.Served.TheVariants as served
use Rattle.server_tables.specs.declared.table.Row.{Row}
use Rattle.program_shell.specs.declared.status.Status.{Status}
use Rattle.program_shell.specs.declared.status.Status.TheVariants as status
use Rattle.server_tables.specs.declared.read.BadLine.{BadLine}

-- what is told of what accepts connections
pub record AcceptsTold (End : Type 0) : Type 0 where
  pub opened : Option (Option Text)
  pub coming : Option (List End)
  pub lent : Option (Lendings End)
  pub faults : ℕ

abbrev pub accepts_told : {A End : Type 0} → (A → Option (Option Text)) → (A → Option (List End))
    → (A → Option (Lendings End)) → (A → ℕ) → A → AcceptsTold End
accepts_told opened coming lent faults accepts = record {
  opened = opened accepts;
  coming = coming accepts;
  lent = lent accepts;
  faults = faults accepts;
}

-- a connection that was served: its end as it was given and as it was taken back, and what serving it came to
pub record Connection (End : Type 0) : Type 0 where
  pub given : End
  pub back : End
  pub served : Served

-- ---- ends

-- these ends were given, in order
abbrev pub GaveEnds : {End : Type 0} → Option (List End) → Option (List End) → List End → Type 0
GaveEnds None new ends = Unit {0}
GaveEnds {End} (Some old) new ends = (later : List End) × (new ≡ Some later) × (old ≡ ends ++ later)

-- these ends were taken back, in order
abbrev pub TookEnds : {End : Type 0} → Option (Lendings End) → Option (Lendings End) → List End → Type 0
TookEnds None new ends = Unit {0}
TookEnds (Some old) new ends = new ≡ Some (record { back = old.back ++ ends; out = old.out })

-- ---- lines

-- the line of a connection; none where memory was refused
abbrev pub line_of : Served → Text
line_of (served.Answered number) = line (codes "answered ") (decimal number)
line_of served.ReadFault = line (codes "fault read") []
line_of served.WriteFault = line (codes "fault write") []
line_of served.OutOfMemory = []

-- the lines of connections, in order
abbrev pub lines_of : {End : Type 0} → List (Connection End) → Text
lines_of connections = flat_map (λ connection. line_of connection.served) connections

-- serving a connection was not refused memory
abbrev pub HasLine : Served → Type 0
HasLine served.OutOfMemory = ⊥
HasLine _ = Unit {0}

-- ---- what was served

-- By what is told of an end:
module _ {End : Type 0} (told : End → PeerTold) where
  -- the connection was served by the table
  abbrev pub IsServedBy : List Row → Connection End → Type 0
  IsServedBy table connection = IsServing table (told connection.given) (told connection.back) connection.served

  -- Each of these connections was served by the table: its end was given, and taken back, one after the other.
  pub record HasServed (table : List Row) (old new : AcceptsTold End) (connections : List (Connection End))
      : Type 0 where
    pub each : AllByRecursion (IsServedBy table) connections
    pub gave : GaveEnds old.coming new.coming (map (λ connection. connection.given) connections)
    pub took : TookEnds old.lent new.lent (map (λ connection. connection.back) connections)
    pub opened : new.opened ≡ old.opened

  -- So many connections were served, and the line of each was written.
  pub record HasServedAll (table : List Row) (count : ℕ) (old new : AcceptsTold End) (output output' : SinkTold)
      : Type 0 where
    pub connections : List (Connection End)
    pub all : length connections ≡ count
    pub served : HasServed table old new connections
    pub lines : AllByRecursion (λ connection. HasLine connection.served) connections
    pub took : Took output.taken output'.taken (lines_of connections)
    pub quiet : new.faults ≡ old.faults
    pub whole : NeverFailed output output'

  -- Fewer connections than that were served, each with its line, and then one more, which was the last.
  pub record HasServedLast (table : List Row) (count : ℕ) (old new : AcceptsTold End) : Type 0 where
    pub before : List (Connection End)
    pub last : Connection End
    pub fewer : length before < count
    pub served : HasServed table old new (before ++ last ∷ [])
    pub lines : AllByRecursion (λ connection. HasLine connection.served) before
    pub quiet : new.faults ≡ old.faults

  -- The output failed as the line of the last connection was written: it has taken the lines of those before it, and a
  -- part of that one.
  pub record WasCutShort (table : List Row) (count : ℕ) (old new : AcceptsTold End) (output output' : SinkTold)
      : Type 0 where
    pub all : HasServedLast table count old new
    pub line : HasLine all.last.served
    pub part : ℕ
    pub took : Took output.taken output'.taken (lines_of all.before ++ take part (line_of all.last.served))
    pub failed : FailedOnce output output'

  -- Memory was refused as the last connection was served: it has no line, and the lines of those before it were
  -- written.
  pub record RanShort (table : List Row) (count : ℕ) (old new : AcceptsTold End) (output output' : SinkTold)
      : Type 0 where
    pub all : HasServedLast table count old new
    pub refused : all.last.served ≡ served.OutOfMemory
    pub took : Took output.taken output'.taken (lines_of all.before)
    pub whole : NeverFailed output output'

  -- There was no next connection, after fewer than that, each with its line.
  pub record HadNoNext (table : List Row) (count : ℕ) (old new : AcceptsTold End) (output output' : SinkTold)
      : Type 0 where
    pub connections : List (Connection End)
    pub few : length connections < count
    pub served : HasServed table old new connections
    pub lines : AllByRecursion (λ connection. HasLine connection.served) connections
    pub took : Took output.taken output'.taken (lines_of connections)
    pub whole : NeverFailed output output'
    pub cause : new.faults ≡ one_more old.faults

  -- what serving so many connections comes to
  abbrev pub Serves : List Row → ℕ → AcceptsTold End → AcceptsTold End → SinkTold → SinkTold → Status BadLine → Type 0
  Serves table count old new output output' status.Ok = HasServedAll table count old new output output'
  Serves table count old new output output' status.WriteFault = WasCutShort table count old new output output'
  Serves table count old new output output' status.OutOfMemory = RanShort table count old new output output'
  Serves table count old new output output' status.OwnFault = HadNoNext table count old new output output'
  Serves table count old new output output' _ = ⊥
