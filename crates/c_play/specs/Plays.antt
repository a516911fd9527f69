-- What the call tells of a play.
use Rattle.std.specs.Prelude.{◌≡◌, ℕ, List, Result, Ok, Err}
use Rattle.value_text.specs.Texts.{Text}
use Rattle.book_calls.specs.Entries.{AreInOrderFrom}
use Rattle.book_calls.specs.declared.entry.Entry.{Entry}
use Rattle.script_events.specs.declared.events.Transcript.{Transcript}
use Rattle.script_reading.specs.declared.place.Place.{Place}
use Rattle.script_scenarios.specs.declared.scenario.Scenario.{Scenario}
use Rattle.play_definitions.specs.Plays.{IsPlay}
use Rattle.play_text.specs.Text.{play_text}
use Rattle.c_handle.specs.Codes.{IsWritten}
use Rattle.c_handle.specs.declared.codes.TheConstants.{NO, OK, TOO_SHORT}

-- The text is that of a play of the scenario, in whose history entries stand in the order of their documents' numbers.
pub record IsTextInOrder (scenario : Scenario) (text : Text) : Type 0 where
  pub transcripts : List Transcript
  pub history : List Entry
  pub is_play : IsPlay scenario transcripts history
  pub in_order : AreInOrderFrom 0 history
  pub text_is : text ≡ play_text transcripts history

-- A text that is as it says is written.
pub record IsPrinted (IsText : Text → Type 0) (room after : Text) (len code : ℕ) : Type 0 where
  pub text : Text
  pub of : IsText text
  pub written : IsWritten text room after len code

-- A text by which something is refused is written as texts are, and NO stands where one that is written has OK.
pub record IsRefusedAt (place room after : Text) (len code : ℕ) : Type 0 where
  pub written_code : ℕ
  pub written : IsWritten place room after len written_code
  pub refused : written_code ≡ OK → code ≡ NO
  pub short : written_code ≡ TOO_SHORT → code ≡ TOO_SHORT

-- such a text of the scenario that the bytes are is told, or the place at which they are refused
abbrev pub IsTold : (Scenario → Text → Type 0) → Result Scenario Place → Text → Text → ℕ → ℕ → Type 0
IsTold IsText (Ok scenario) = IsPrinted (IsText scenario)
IsTold IsText (Err place) = IsRefusedAt place.text
