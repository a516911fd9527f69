-- What a source has left to give, where it tells.
use Rattle.std.specs.Prelude.{◌≡◌, ℕ, ◌≤◌, [], ◌++◌, length, Option, Some, None, Result, Ok, Err}
use Rattle.value_text.specs.Texts.{Text}
use Rattle.link_traits.specs.Counts.{one_more}
use Rattle.link_traits.specs.declared.source.ReadStop.{ReadStop}
use Rattle.link_traits.specs.declared.source.ReadStop.TheVariants as stop

-- the text was given: what was left is it and what is left now
abbrev pub Gave : Option Text → Option Text → Text → Type 0
Gave None new text = Unit {0}
Gave (Some old) new text = (later : Text) × (new ≡ Some later) × (old ≡ text ++ later)

-- what a source tells: the bytes left, where told, and how often it failed
pub record SourceTold : Type 0 where
  pub left : Option Text
  pub faults : ℕ

-- what is told of one that is no source
abbrev pub no_source : SourceTold
no_source = record { left = None; faults = 0 }

-- nothing is left
abbrev pub IsAtEnd : Option Text → Type 0
IsAtEnd None = Unit {0}
IsAtEnd (Some left) = left ≡ []

-- the text was given, it is at most so long, and nothing is left
pub record GaveWhole (old new : Option Text) (text : Text) (most : ℕ) : Type 0 where
  pub gave : Gave old new text
  pub within : length text ≤ most
  pub end : IsAtEnd new

-- a text of at most this length was given
pub record GaveAtMost (old new : Option Text) (most : ℕ) : Type 0 where
  pub given : Text
  pub gave : Gave old new given
  pub within : length given ≤ most

-- a text of just this length was given
pub record GaveJust (old new : Option Text) (count : ℕ) : Type 0 where
  pub given : Text
  pub gave : Gave old new given
  pub just : length given ≡ count

-- what a source that was read tells of its count of faults: one more where the source failed, and as it was where not
abbrev pub CountsFault : {T : Type 0} → Result T ReadStop → ℕ → ℕ → Type 0
CountsFault (Err stop.Fault) before now = now ≡ one_more before
CountsFault (Err stop.TooLong) before now = now ≡ before
CountsFault (Err stop.OutOfMemory) before now = now ≡ before
CountsFault (Ok _) before now = now ≡ before
