-- Transcripts whose printed text has the lines that it is meant to have: what is printed as it is has no LF (the output
-- of `fetchplay play`).
use Rattle.std.specs.Prelude.{◌==◌, not, IfSome, IsTrue}
use Rattle.std.specs.List.{AllByRecursion, list_all}
use Rattle.value_text.specs.Texts.{Text}
use Rattle.value_text.specs.Ascii.{line_feed}
use Rattle.value_requests.specs.declared.error.NetError.{NetError}
use Rattle.value_requests.specs.declared.error.NetError.TheVariants.{PreflightHeader}
use Rattle.value_requests.specs.declared.response.Outcome.{Outcome}
use Rattle.value_requests.specs.declared.response.Outcome.TheVariants.{Answer, Error, Loaded}
use Rattle.script_events.specs.declared.events.Event.{Event}
use Rattle.script_events.specs.declared.events.Event.TheVariants as event
use Rattle.script_events.specs.declared.events.Transcript.{Transcript}
use Rattle.play_text.specs.Words.{has_words}

-- a text that a line can have before its LF: it has no LF
abbrev pub IsLine : Text → Type 0
IsLine text = IsTrue (list_all (λ byte. not (byte == line_feed)) text)

-- the header that the error names is such a text
abbrev pub IsPlainError : NetError → Type 0
IsPlainError (PreflightHeader name) = IsLine name
IsPlainError _ = Unit {0}

-- so is the URL of a response
abbrev pub IsPlainOutcome : Outcome → Type 0
IsPlainOutcome (Answer response) = IfSome response.url IsLine
IsPlainOutcome Loaded = Unit {0}
IsPlainOutcome (Error error) = IsPlainError error

-- the op of a call has words, and so is each other text of the event that is not escaped
abbrev pub IsPlainEvent : Event → Type 0
IsPlainEvent (event.Call op reply) = IsTrue (has_words op)
IsPlainEvent (event.Sent hop) = IsLine hop.origin
IsPlainEvent (event.Told violation) = IsLine violation.url
IsPlainEvent (event.Result outcome) = IsPlainOutcome outcome
IsPlainEvent (event.LoadFailed error) = IsPlainError error
IsPlainEvent _ = Unit {0}

-- So is the key, and each event is as said.
pub record IsPlainTranscript (transcript : Transcript) : Type 0 where
  pub key : IsLine transcript.key
  pub events : AllByRecursion IsPlainEvent transcript.events
