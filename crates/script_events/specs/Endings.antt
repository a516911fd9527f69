-- How the runs of a play have ended.
use Rattle.std.specs.Prelude.{◌≢◌, List}
use Rattle.std.specs.List.{All}
use Rattle.script_events.specs.declared.events.Ending.TheVariants as ending
use Rattle.script_events.specs.declared.events.Transcript.{Transcript}

-- the play has a text: no document ended for memory
abbrev pub HasText : List Transcript → Type 0
HasText transcripts = All (λ transcript. transcript.ending ≢ ending.Memory) transcripts
