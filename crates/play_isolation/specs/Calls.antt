-- The calls of the shared book that a document's run shows, and those that a history has of the document (this
-- project's own definition).
use Rattle.std.specs.Prelude.{◌≡◌, ℕ, List, [], ◌∷◌, ◌++◌, map}
use Rattle.book_calls.specs.declared.entry.Entry.{Entry}
use Rattle.book_calls.specs.Entries.{entries_of}
use Rattle.script_events.specs.declared.events.Event.{Event}
use Rattle.script_events.specs.declared.events.Event.TheVariants as event
use Rattle.fetch_laws.specs.Apart.{Made}

-- the call that an event shows, where it shows one
abbrev pub call_in : Event → List Made
call_in (event.Call op reply) = record { op = op; reply = reply } ∷ []
call_in _ = []

-- the calls that events show, in order
abbrev pub calls_in : List Event → List Made
calls_in [] = []
calls_in (shown ∷ events) = call_in shown ++ calls_in events

-- the call of an entry
abbrev pub call_of : Entry → Made
call_of entry = record { op = entry.op; reply = entry.reply }

-- the calls of entries
abbrev pub calls_of : List Entry → List Made
calls_of entries = map call_of entries

-- The entries of one run in two histories: each is the same in both, up to the first that is another; that one is of
-- the same op still. Neither list ends before.
abbrev pub PartAtReply : List Entry → List Entry → Type 0
PartAtReply [] [] = Unit {0}
PartAtReply [] (entry ∷ entries) = ⊥
PartAtReply (entry ∷ entries) [] = ⊥
PartAtReply (entry ∷ entries) (other ∷ others) =
    (entry.op ≡ other.op) × (entry ≡ other → PartAtReply entries others)

-- the calls of a document in a history, in order
abbrev pub document_calls : ℕ → List Entry → List Made
document_calls document history = calls_of (entries_of document history)
