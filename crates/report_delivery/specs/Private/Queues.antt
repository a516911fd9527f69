-- The reports that a queue still has to give (private contracts).
use Rattle.std.specs.Prelude.{◌≡◌, List, [], ◌∷◌, ◌++◌, Option, Some, None}
use Rattle.report_delivery.specs.Words.{Bor, Document, Event, Parts, Request, Text, Violation, filter_map, words}
use Rattle.report_delivery.specs.declared.queue.Queue.{Queue}
use Rattle.report_delivery.specs.Reports.{endpoint_of, report_requests, reports_to, violations_told}

-- the first endpoint among the words of a text, and the text behind it, or nothing where there is none
abbrev pub IsNextEndpoint : Parts → Text → Option (Parts × Bor Text) → Type 0
IsNextEndpoint base text None = filter_map (endpoint_of base) (words text) ≡ []
IsNextEndpoint base text (Some found) =
    filter_map (endpoint_of base) (words text) ≡ found.0 ∷ filter_map (endpoint_of base) (words found.1.now)

-- the first violation among events, and the events after it, or nothing where there is none
abbrev pub IsNextViolation : List Event → Option (Bor Violation × Bor (List Event)) → Type 0
IsNextViolation events None = violations_told events ≡ []
IsNextViolation events (Some found) = violations_told events ≡ found.0.now ∷ violations_told found.1.now

-- the reports of a violation to the words that are left, where there is a violation
abbrev pub reports_begun : Document → Option (Bor Violation) → List Text → List Request
reports_begun document None left = []
reports_begun document (Some violation) left = reports_to document violation.now left

-- those of a queue
abbrev pub begun_left : Queue → List Request
begun_left queue = reports_begun queue.document.now queue.violation (words queue.words.now)

-- those, and then the reports of the events that are left
abbrev pub reports_left : Queue → List Request
reports_left queue = begun_left queue ++ report_requests queue.document.now queue.events.now

-- the first of a list was taken, or there was none
abbrev pub IsTaken : {X : Type 0} → Option X → List X → List X → Type 0
IsTaken None before after = before ≡ []
IsTaken (Some first) before after = before ≡ first ∷ after
