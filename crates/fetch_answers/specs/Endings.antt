-- How a fetch ends with the head of a response (Fetch, section 4.1 "main fetch", steps 14 to 23; "fetch response
-- handover").
use Rattle.std.specs.Prelude.{Bool, false, not, ◌==◌, ◌||◌, List, length, Option, Some, None, if◌then◌else◌}
use Rattle.fetch_answers.specs.Words.{Answer, BodyEnd, Coding, CspResponse, Destination, Error, Head, Header, Integrity}
use Rattle.fetch_answers.specs.Words.{Loaded, Mime, NetError, NoSniff, Origin, Outcome, Policy, Request, Response, Text}
use Rattle.fetch_answers.specs.Words.{Whole, filtered, has_enforced, is_fetch, is_manual, is_nosniff_blocked}
use Rattle.fetch_answers.specs.Words.{is_opaque_tainted, is_type_blocked, matches, metadata_of, response_violations}
use Rattle.fetch_answers.specs.declared.answers.Ended.{Ended}
use Rattle.fetch_answers.specs.declared.answers.Ended.TheVariants.{Over, Reads}
use Rattle.fetch_answers.specs.Bodies.{has_null_body, is_coded}

-- ---- what is handed over

-- what a response comes to: a `fetch` gets it as its answer, and of a load it is only told that it succeeded
abbrev pub handed_over : Request → Response → Outcome
handed_over request response = if is_fetch request.destination then Answer response else Loaded

-- the response of a head, before its body is read (step 14; of a redirect in redirect mode manual HTTP fetch, step 6.2)
abbrev pub response_of : Request → Head → Response
response_of request head = filtered request head (is_manual request head)

-- the request asks for no integrity: its integrity text is empty
abbrev pub is_trusting : Request → Bool
is_trusting request = length request.integrity == 0

-- ---- the head

-- the network error that a response is blocked for due to its MIME type, or due to nosniff
abbrev pub type_error : Destination → List Header → Option NetError
type_error destination headers =
    if is_type_blocked destination headers then Some Mime
    else if is_nosniff_blocked destination headers then Some NoSniff
    else None

-- the network error that a response is blocked for: by the document's policies, or else for its type (step 19)
abbrev pub block_error : Bool → Destination → List Header → Option NetError
block_error blocked destination headers = if blocked then Some CspResponse else type_error destination headers

-- the body of the response is null: that of an opaque or an opaque-redirect one is, and where the answer has none (step
-- 21)
abbrev pub is_bodiless : Request → Head → Bool
is_bodiless request head =
    is_opaque_tainted request.tainting || is_manual request head || has_null_body request head

-- a response whose body is null; it has no integrity
abbrev pub without_body : Request → Response → Outcome
without_body request response = if is_trusting request then handed_over request response else Error Integrity

-- the body is read: by a `fetch`, and for its integrity (that no other load reads it is this project's own choice)
abbrev pub is_read : Request → Bool
is_read request = is_fetch request.destination || not (is_trusting request)

-- a response whose body is read, unless it is coded
abbrev pub ended_read : Request → Head → Ended
ended_read request head = if is_coded head then Over (Error Coding) else Reads (response_of request head)

-- a response that is not blocked: it is handed over without a body, or without reading the body, or that is read
abbrev pub ended_unblocked : Request → Head → Ended
ended_unblocked request head =
    if is_bodiless request head then Over (without_body request (response_of request head))
    else if not (is_read request) then Over Loaded
    else ended_read request head

-- a response that the error blocks, where there is one
abbrev pub ended_by : Option NetError → Request → Head → Ended
ended_by (Some error) request head = Over (Error error)
ended_by None request head = ended_unblocked request head

-- how a fetch ends with a head, where the document's policies block it or not
abbrev pub ended : Bool → Request → Head → Ended
ended blocked request head = ended_by (block_error blocked request.destination head.headers) request head

-- the end of "main fetch", with the policies of a document that has this origin: an enforced one that the response
-- violates blocks it
abbrev pub ended_under : List Policy → Origin → Request → Head → Ended
ended_under policies document request head =
    ended (has_enforced (response_violations policies request document)) request head

-- ---- the body

-- "do bytes match metadataList": the body came whole and matches an integrity text
abbrev pub is_matched : Text → BodyEnd → Bool
is_matched integrity (Whole body) = matches body (metadata_of integrity)
is_matched integrity _ = false

-- the body has the integrity that the request asks for (step 22)
abbrev pub is_accepted : Request → BodyEnd → Bool
is_accepted request end = is_trusting request || is_matched request.integrity end

-- the response with a body that came to this end, unless it has not the integrity that is asked for
abbrev pub after_body : Request → Response → BodyEnd → Outcome
after_body request response end =
    if is_accepted request end then handed_over request (record response { body = end }) else Error Integrity
