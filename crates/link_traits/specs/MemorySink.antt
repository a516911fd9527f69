-- A sink in memory: what its calls answer, and what they leave.
use Rattle.std.specs.Prelude.{ℕ, Bool, ◌==◌, ◌&&◌, not, ◌-◌, min, take, length, List, ◌++◌}
use Rattle.std.specs.Prelude.{Result, Ok, Err, if◌then◌else◌}
use Rattle.value_text.specs.Texts.{Text}
use Rattle.link_traits.specs.Counts.{is_next_in, one_more}
use Rattle.link_traits.specs.declared.source.Failed.{Failed}

-- the bytes taken, for how many there is room yet, how many calls it had, the numbers of the calls
-- that fail and of those that take nothing, how often it failed, and how often it took nothing of a
-- piece that is not empty
pub record SinkState : Type 0 where
  pub taken : Text
  pub room : ℕ
  pub calls : ℕ
  pub failing_calls : List ℕ
  pub zero_calls : List ℕ
  pub faults : ℕ
  pub zeros : ℕ

-- there is no room for any of the piece
abbrev pub lacks_room : SinkState → Text → Bool
lacks_room sink piece = (sink.room == 0) && not (length piece == 0)

-- a write fails or takes nothing as its number says, or takes what there is and fits
abbrev pub write_answer : SinkState → Text → Result ℕ Failed
write_answer sink piece =
    if is_next_in sink.failing_calls sink.calls then Err (record {})
    else if is_next_in sink.zero_calls sink.calls then Ok 0
    else if lacks_room sink piece then Err (record {})
    else Ok (min (length piece) sink.room)

-- the count of answers 0 to a piece that is not empty
abbrev pub zeros_after : SinkState → Text → ℕ → ℕ
zeros_after sink piece n = if (n == 0) && not (length piece == 0) then one_more sink.zeros else sink.zeros

-- what a write with this answer leaves
abbrev pub after_write : SinkState → Text → Result ℕ Failed → SinkState
after_write sink piece (Ok n) =
    record sink {
      taken = sink.taken ++ take n piece;
      room = sink.room - n;
      calls = one_more sink.calls;
      zeros = zeros_after sink piece n;
    }
after_write sink piece (Err failed) = record sink { calls = one_more sink.calls; faults = one_more sink.faults }
