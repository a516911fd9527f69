-- Laws of verdicts (this project's own).
use Rattle.std.specs.Prelude.{◌≡◌, ◌≤◌, ◌^◌, ℕ, List, Ok}
use Rattle.value_text.specs.Texts.{Text}
use Rattle.book_calls.specs.declared.entry.Entry.{Entry}
use Rattle.script_events.specs.declared.events.Transcript.{Transcript}
use Rattle.play_text.specs.Text.{play_text}
use Rattle.script_reading.specs.Scenarios.{scenario_of}
use Rattle.script_scenarios.specs.declared.scenario.Scenario.{Scenario}
use Rattle.play_isolation.specs.Isolated.{AllAreAlone}
use Rattle.fetch_wire.specs.Exchanges.{Answering}
use Rattle.play_definitions.specs.Plays.{IsPlay, IsPlayOver, Way}
use Rattle.audit_text.specs.Histories.{Holds}
use Rattle.audit_verdict.specs.Verdicts.{IsVerdict}
use Rattle.audit_verdict.specs.declared.verdict.Verdict.{Verdict}
use Rattle.audit_verdict.specs.declared.verdict.Verdict.TheVariants as verdict

-- The text is that of a play of the scenario that the bytes are, and it holds the history of that play.
pub record IsTextOfPlay (bytes play : Text) : Type 0 where
  pub scenario : Scenario
  pub read : scenario_of bytes ≡ Ok scenario
  pub transcripts : List Transcript
  pub history : List Entry
  pub is_play : IsPlay scenario transcripts history
  pub holds : Holds play history
  pub text_is : play_text transcripts history ≡ play

-- Where the verdict is Play, it is such a text,
-- and in that play what each document sends and sees is what it would alone.
pub record IsAudited (bytes play : Text) : Type 0 where
  pub of : IsTextOfPlay bytes play
  pub alone : AllAreAlone of.is_play.runs

abbrev pub IsSound : Type 0
IsSound = (bytes play : Text) → IsVerdict bytes play verdict.Play → IsAudited bytes play

-- where it is such a text, the verdict is Play
abbrev pub IsComplete : Type 0
IsComplete = (bytes play : Text) → IsTextOfPlay bytes play → IsVerdict bytes play verdict.Play

-- the verdict on the text of each play of a scenario is Play
abbrev pub AcceptsPlays : Type 0
AcceptsPlays =
    (bytes : Text) (scenario : Scenario) (transcripts : List Transcript) (history : List Entry)
    → scenario_of bytes ≡ Ok scenario → IsPlay scenario transcripts history
    → IsVerdict bytes (play_text transcripts history) verdict.Play

-- there is one verdict
abbrev pub HasOneVerdict : Type 0
HasOneVerdict =
    (bytes play : Text) (one other : Verdict) → IsVerdict bytes play one → IsVerdict bytes play other → one ≡ other

-- ---- plays over any links

-- The text is that of a play, with this history, of a scenario that is read, over any links, from 2^40 seconds on at
-- the latest.
pub record IsTextOver (State : Type 0) (play : Text) (history : List Entry) : Type 0 where
  pub bytes : Text
  pub scenario : Scenario
  pub read : scenario_of bytes ≡ Ok scenario
  pub by : Answering State
  pub base : ℕ
  pub soon : base ≤ 2 ^ 40
  pub olds : List (Way State)
  pub news : List (Way State)
  pub transcripts : List Transcript
  pub is_play : IsPlayOver by scenario base olds news transcripts history
  pub text_is : play_text transcripts history ≡ play

-- it holds that history
abbrev pub HoldsHistory : Type 0 → Type 0
HoldsHistory State = (play : Text) (history : List Entry) → IsTextOver State play history → Holds play history

-- so two plays with one text have one history
abbrev pub HaveOneHistory : Type 0 → Type 0 → Type 0
HaveOneHistory State Other =
    (play : Text) (history other : List Entry) → IsTextOver State play history → IsTextOver Other play other
    → history ≡ other
