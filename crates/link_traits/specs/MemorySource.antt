-- A source in memory: what its calls answer, and what they leave.
use Rattle.std.specs.Prelude.{ℕ, min, drop, length, List, Result, Ok, Err, if◌then◌else◌}
use Rattle.value_text.specs.Texts.{Text}
use Rattle.link_traits.specs.Counts.{is_next_in, one_more}
use Rattle.link_traits.specs.declared.source.Failed.{Failed}

-- the bytes left, how many calls it had, the numbers of the calls that fail, and how often it failed
pub record SourceState : Type 0 where
  pub left : Text
  pub calls : ℕ
  pub failing_calls : List ℕ
  pub faults : ℕ

-- a read into a buffer of so many bytes fails as its number says, or gives what is left and fits
abbrev pub read_answer : SourceState → ℕ → Result ℕ Failed
read_answer source room =
    if is_next_in source.failing_calls source.calls then Err (record {}) else Ok (min (length source.left) room)

-- what a read with this answer leaves
abbrev pub after_read : SourceState → Result ℕ Failed → SourceState
after_read source (Ok n) = record source { left = drop n source.left; calls = one_more source.calls }
after_read source (Err failed) = record source { calls = one_more source.calls; faults = one_more source.faults }
