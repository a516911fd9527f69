-- The printed text of a play: each document with its events in order and how it ended, then the history of the shared
-- book (the output of `fetchplay play`).
use Rattle.std.specs.Prelude.{List, [], ◌++◌, codes, decimal}
use Rattle.std.specs.List.{flat_map}
use Rattle.value_text.specs.Texts.{Text}
use Rattle.book_calls.specs.declared.entry.Entry.{Entry}
use Rattle.script_lines.specs.Calls.{call_text}
use Rattle.script_events.specs.declared.events.Ending.{Ending}
use Rattle.script_events.specs.declared.events.Ending.TheVariants as ending
use Rattle.script_events.specs.declared.events.Transcript.{Transcript}
use Rattle.script_lines.specs.Lines.{line, event_text}

-- how a document ended; one that ended for memory is never printed
abbrev pub ending_line : Ending → Text
ending_line ending.Finished = line (codes "end finished")
ending_line ending.Fetches = line (codes "end limit fetches")
ending_line ending.Commands = line (codes "end limit commands")
ending_line ending.Text = line (codes "end limit text")
ending_line ending.Memory = []

-- a document: its number and key, its events in order, and how it ended
abbrev pub transcript_text : Transcript → Text
transcript_text transcript =
    line (codes "document " ++ decimal transcript.document ++ codes " " ++ transcript.key)
    ++ flat_map event_text transcript.events ++ ending_line transcript.ending

-- an entry of the history: the turn and the document of an operation, the operation, and what it replied
abbrev pub entry_line : Entry → Text
entry_line entry =
    line (decimal entry.turn ++ codes " " ++ decimal entry.document ++ codes " " ++ call_text entry.op entry.reply)

-- the text of a history: a line for each entry
abbrev pub history_text : List Entry → Text
history_text history = flat_map entry_line history

-- the text of a play: its documents, and the history
abbrev pub play_text : List Transcript → List Entry → Text
play_text transcripts history =
    line (codes "fetchplay 1") ++ flat_map transcript_text transcripts ++ line (codes "history")
    ++ history_text history ++ line (codes "done")
