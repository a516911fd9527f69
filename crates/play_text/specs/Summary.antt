-- The summary of a play: how much of each kind it has, over all its documents (the output of `fetchplay gen`).
use Rattle.std.specs.Prelude.{ℕ, Bool, true, false, List, ◌++◌, length, filter, codes, decimal}
use Rattle.std.specs.List.{flat_map}
use Rattle.value_text.specs.Texts.{Text}
use Rattle.book_calls.specs.declared.entry.Entry.{Entry}
use Rattle.value_requests.specs.declared.response.Outcome.TheVariants as outcome
use Rattle.script_events.specs.declared.events.Event.{Event}
use Rattle.script_events.specs.declared.events.Event.TheVariants as event
use Rattle.script_events.specs.declared.events.Transcript.{Transcript}
use Rattle.script_lines.specs.Lines.{line}

-- a fetch started
abbrev pub is_fetch : Event → Bool
is_fetch (event.Fetch number) = true
is_fetch _ = false

-- a request was sent
abbrev pub is_request : Event → Bool
is_request (event.Sent hop) = true
is_request _ = false

-- a fetch came to a response
abbrev pub is_response : Event → Bool
is_response (event.Result (outcome.Answer response)) = true
is_response _ = false

-- a fetch came to a network error
abbrev pub is_error : Event → Bool
is_error (event.Result (outcome.Error error)) = true
is_error _ = false

-- the events of all documents
abbrev pub all_events : List Transcript → List Event
all_events transcripts = flat_map (λ transcript. transcript.events) transcripts

-- how many events of all documents pass the test
abbrev pub event_count : (Event → Bool) → List Transcript → ℕ
event_count test transcripts = length (filter test (all_events transcripts))

-- a line of the summary: what is counted, and how many there are
abbrev pub count_line : Text → ℕ → Text
count_line label count = line (label ++ codes " " ++ decimal count)

-- the summary of the play of the n documents that were generated: its documents, the fetches that started, the
-- requests that were sent, the calls of the shared book, and what the fetches came to
abbrev pub summary_text : ℕ → List Transcript → List Entry → Text
summary_text n transcripts history =
    count_line (codes "gen") n
    ++ count_line (codes "documents") (length transcripts)
    ++ count_line (codes "fetches") (event_count is_fetch transcripts)
    ++ count_line (codes "requests") (event_count is_request transcripts)
    ++ count_line (codes "calls") (length history)
    ++ count_line (codes "responses") (event_count is_response transcripts)
    ++ count_line (codes "errors") (event_count is_error transcripts)
