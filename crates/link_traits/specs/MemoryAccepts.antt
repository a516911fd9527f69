-- Ends of connections in memory: what the calls that accept them answer, and what they leave.
use Rattle.std.specs.Prelude.{ℕ, nat_le, length, List, drop, slice_get, Option, Some, Result, Ok, Err, ok_or, ⊤}
use Rattle.std.specs.Prelude.{if◌then◌else◌}
use Rattle.value_text.specs.Texts.{Text}
use Rattle.link_traits.specs.Counts.{is_next_in, one_more}
use Rattle.link_traits.specs.Links.{Lendings, kept_back, one_out}
use Rattle.link_traits.specs.MemorySink.{SinkState}
use Rattle.link_traits.specs.MemorySource.{SourceState}
use Rattle.link_traits.specs.Sinks.{SinkTold}
use Rattle.link_traits.specs.Sources.{SourceTold}
use Rattle.link_traits.specs.declared.source.Failed.{Failed}

-- an end of a connection: what the peer sent, and what is sent to it
pub record EndState : Type 0 where
  pub source : SourceState
  pub sink : SinkState

-- what an end tells as a source
abbrev pub as_source : EndState → SourceTold
as_source end = record { left = Some end.source.left; faults = end.source.faults }

-- what an end tells as a sink
abbrev pub as_sink : EndState → SinkTold
as_sink end = record { taken = Some end.sink.taken; faults = end.sink.faults; zeros = end.sink.zeros }

-- the address that is open, if one is, for how many bytes of an address there is room, the ends still to come, those
-- taken back with how many are out, how many calls of `next` it had, the numbers of those that fail, and how often it
-- failed
pub record AcceptsState : Type 0 where
  pub opened : Option Text
  pub room : ℕ
  pub coming : List EndState
  pub lent : Lendings EndState
  pub calls : ℕ
  pub failing_calls : List ℕ
  pub faults : ℕ

-- an address is listened at where it finds its room
abbrev pub listen_answer : AcceptsState → Text → Result ⊤ Failed
listen_answer accepts address = if nat_le (length address) accepts.room then Ok tt else Err (record {})

-- what a listen with this answer leaves
abbrev pub after_listen : AcceptsState → Text → Result ⊤ Failed → AcceptsState
after_listen accepts address (Ok done) = record accepts { opened = Some address }
after_listen accepts address (Err failed) = record accepts { faults = one_more accepts.faults }

-- a next fails as its number says, or gives the first of the ends still to come, if one is left
abbrev pub next_answer : AcceptsState → Result EndState Failed
next_answer accepts =
    if is_next_in accepts.failing_calls accepts.calls then Err (record {})
    else ok_or (slice_get accepts.coming 0) (record {})

-- what a next with this answer leaves
abbrev pub after_next : AcceptsState → Result EndState Failed → AcceptsState
after_next accepts (Ok given) =
    record accepts { coming = drop 1 accepts.coming; lent = one_out accepts.lent; calls = one_more accepts.calls }
after_next accepts (Err failed) =
    record accepts { calls = one_more accepts.calls; faults = one_more accepts.faults }

-- what a take_back leaves: the end is kept where one is out
abbrev pub after_return : AcceptsState → EndState → AcceptsState
after_return accepts returned = record accepts { lent = kept_back accepts.lent returned }
