-- What a program has of its input: all bytes to its end, of which there are not too many, and what they are read as
-- (this project's own).
use Rattle.std.specs.Prelude.{◌≡◌, ℕ, ◌+◌, ◌≤◌, ◌⊎◌, length, Result, Ok, Err}
use Rattle.link_traits.specs.Counts.{one_more}
use Rattle.link_traits.specs.Sources.{Gave, IsAtEnd, SourceTold}
use Rattle.value_text.specs.Texts.{Text}
use Rattle.value_bytes.specs.declared.memory.OutOfMemory.{OutOfMemory}
use Rattle.program_shell.specs.declared.status.Status.{Status}
use Rattle.program_shell.specs.declared.status.Status.TheVariants as status

-- the bytes that the input gave, and what holds of them
pub record GaveFor (input input' : SourceTold) (reason : Text → Type 0) : Type 0 where
  pub bytes : Text
  pub gave : Gave input.left input'.left bytes
  pub reason_is : reason bytes

-- By how many bytes an input has at most:
module _ (most : ℕ) where
  -- the input was read to its end, is not too long, and has not failed
  pub record IsWhole (bytes : Text) (old new : SourceTold) : Type 0 where
    pub end : IsAtEnd new.left
    pub short : length bytes ≤ most
    pub quiet : new.faults ≡ old.faults

  -- the input is these bytes, to its end
  pub record IsGiven (input input' : SourceTold) (bytes : Text) : Type 0 where
    pub gave : Gave input.left input'.left bytes
    pub whole : IsWhole bytes input input'

  -- why an input was not read to its end, or memory was refused for what it asks; it has failed with ReadFault alone
  abbrev pub IsWhyStopped : {R : Type 0} → Text → SourceTold → SourceTold → Status R → Type 0
  IsWhyStopped bytes input input' status.ReadFault =
      (length bytes ≤ most) × (input'.faults ≡ one_more input.faults)
  IsWhyStopped bytes input input' status.InputTooLong =
      (length bytes ≡ most + 1) × (input'.faults ≡ input.faults)
  IsWhyStopped bytes input input' status.OutOfMemory = (length bytes ≤ most) × (input'.faults ≡ input.faults)
  IsWhyStopped bytes input input' _ = ⊥

  -- the verdict on an input that was not read to its end
  pub record IsStopped {R : Type 0} (input input' : SourceTold) (verdict : Status R) : Type 0 where
    pub bytes : Text
    pub gave : Gave input.left input'.left bytes
    pub why : IsWhyStopped bytes input input' verdict

  -- By what bytes are read as, and by which verdict refuses them:
  module _ {A R : Type 0} (Reads : Text → A → Type 0) (Refuses : Text → Status R → Type 0) where
    -- the bytes of the whole input are this
    pub record IsRead (input input' : SourceTold) (asked : A) : Type 0 where
      pub bytes : Text
      pub given : IsGiven input input' bytes
      pub reads : Reads bytes asked

    -- the verdict on an input that was not read so
    pub record IsUnread (input input' : SourceTold) (verdict : Status R) : Type 0 where
      pub bytes : Text
      pub gave : Gave input.left input'.left bytes
      pub why : IsWhyStopped bytes input input' verdict ⊎ (IsWhole bytes input input' × Refuses bytes verdict)

-- ---- bytes that are read, or refused, by a function

module _ {A R : Type 0} (reading : Text → Result A R) where
  abbrev pub Reads : Text → A → Type 0
  Reads bytes asked = reading bytes ≡ Ok asked

  abbrev pub Refuses : Text → Status R → Type 0
  Refuses bytes verdict = (reason : R) × (verdict ≡ status.Refused reason) × (reading bytes ≡ Err reason)

-- what a text was read as, or else the verdict on it
abbrev pub read_as : {A R : Type 0} → Result (Result A R) OutOfMemory → Result A (Status R)
read_as (Ok (Ok asked)) = Ok asked
read_as (Ok (Err reason)) = Err (status.Refused reason)
read_as (Err _) = Err status.OutOfMemory
