-- Laws of printed histories (the output of `fetchplay play`).
use Rattle.std.specs.Prelude.{◌≡◌, List}
use Rattle.std.specs.List.{AllByRecursion}
use Rattle.value_text.specs.Texts.{Text}
use Rattle.book_calls.specs.declared.entry.Entry.{Entry}
use Rattle.audit_text.specs.declared.history.Reading.{Reading}
use Rattle.script_events.specs.declared.events.Transcript.{Transcript}
use Rattle.play_text.specs.Plain.{IsPlainTranscript}
use Rattle.play_text.specs.Text.{play_text}
use Rattle.audit_text.specs.Entries.{IsEntry}
use Rattle.audit_text.specs.Histories.{Holds, IsRead}

-- a text holds one history
abbrev pub HoldsOne : Type 0
HoldsOne = (play : Text) (history other : List Entry) → Holds play history → Holds play other → history ≡ other

-- a text is read as one
abbrev pub ReadsOnce : Type 0
ReadsOnce = (play : Text) (one other : Reading) → IsRead play one → IsRead play other → one ≡ other

-- the text of plain transcripts and of a history that lines may tell holds the history
abbrev pub PrintedHolds : Type 0
PrintedHolds =
    (transcripts : List Transcript) (history : List Entry) → AllByRecursion IsPlainTranscript transcripts
    → AllByRecursion IsEntry history → Holds (play_text transcripts history) history
