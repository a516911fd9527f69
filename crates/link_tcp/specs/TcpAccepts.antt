-- Accepting connections over TCP: what the calls leave. Which connections come and what their peers send, it does not
-- tell.
use Rattle.std.specs.Prelude.{ℕ, Bool, true, ◌==◌, ◌&&◌, not, length, Result, Ok, Err, ⊤, if◌then◌else◌}
use Rattle.std.specs.Prelude.{None}
use Rattle.value_text.specs.Texts.{Text}
use Rattle.link_traits.specs.Counts.{one_more}
use Rattle.link_traits.specs.Sinks.{SinkTold}
use Rattle.link_traits.specs.Sources.{SourceTold}
use Rattle.link_traits.specs.declared.source.Failed.{Failed}

-- whether an address is listened at, and how often it failed
pub record TcpAcceptsState : Type 0 where
  pub is_open : Bool
  pub faults : ℕ

-- what a listen with this answer leaves
abbrev pub after_listen : TcpAcceptsState → Result ⊤ Failed → TcpAcceptsState
after_listen accepts (Ok done) = record accepts { is_open = true }
after_listen accepts (Err failed) = record accepts { faults = one_more accepts.faults }

-- what a next with this answer leaves
abbrev pub after_next : {End : Type 0} → TcpAcceptsState → Result End Failed → TcpAcceptsState
after_next accepts (Ok given) = accepts
after_next accepts (Err failed) = record accepts { faults = one_more accepts.faults }

-- how often an end failed to read and to write, and how often it took nothing of a piece that is not empty
pub record TcpEndState : Type 0 where
  pub read_faults : ℕ
  pub write_faults : ℕ
  pub zeros : ℕ

-- what an end tells as a source: nothing of what is left
abbrev pub as_source : TcpEndState → SourceTold
as_source end = record { left = None; faults = end.read_faults }

-- what an end tells as a sink: nothing of what it took
abbrev pub as_sink : TcpEndState → SinkTold
as_sink end = record { taken = None; faults = end.write_faults; zeros = end.zeros }

-- as it is given
abbrev pub fresh_end : TcpEndState
fresh_end = record { read_faults = 0; write_faults = 0; zeros = 0 }

-- what a read with this answer leaves
abbrev pub after_read : TcpEndState → Result ℕ Failed → TcpEndState
after_read end (Ok n) = end
after_read end (Err failed) = record end { read_faults = one_more end.read_faults }

-- the count of answers 0 to a piece that is not empty
abbrev pub zeros_after : TcpEndState → Text → ℕ → ℕ
zeros_after end piece n = if (n == 0) && not (length piece == 0) then one_more end.zeros else end.zeros

-- what a write with this answer leaves
abbrev pub after_write : TcpEndState → Text → Result ℕ Failed → TcpEndState
after_write end piece (Ok n) = record end { zeros = zeros_after end piece n }
after_write end piece (Err failed) = record end { write_faults = one_more end.write_faults }
