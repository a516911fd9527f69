-- How many bytes the lines of an event have, by what the event holds (the limit on the text of a document). It is the
-- length of the lines as they are printed (`law_event_length`).
use Rattle.std.specs.Prelude.{ℕ, ◌+◌, ◌-◌, ◌^◌, Bool, true, false, List, [], ◌∷◌, length, min, sum_by, decimal}
use Rattle.std.specs.Prelude.{Option, Some, None, if◌then◌else◌}
use Rattle.value_requests.specs.declared.response.BodyEnd.TheVariants as body
use Rattle.value_requests.specs.declared.response.Outcome.TheVariants as outcome
use Rattle.script_lines.specs.Words.{BadHeader, BodyEnd, Clear, Covers, Done, Header, Hop, Learn, Lesson, Match}
use Rattle.script_lines.specs.Words.{NetError, No, Note, Op, Outcome, PreflightHeader, Question, Reply, Response, Sts}
use Rattle.script_lines.specs.Words.{Text, TypeFault, Violation, Yes, destination_name, directive_name, error_name}
use Rattle.script_lines.specs.Words.{error_number, fault_name, fault_number, kind_name}
use Rattle.script_events.specs.declared.events.Event.{Event}
use Rattle.script_events.specs.declared.events.Event.TheVariants as event
use Rattle.script_lines.specs.Escapes.{is_plain}

-- a length as far as 64 bits tell it
abbrev pub capped : ℕ → ℕ
capped n = min n (2 ^ 64 - 1)

-- ---- numbers and texts

-- how many decimal digits a number has
abbrev pub digits : ℕ → ℕ
digits n = length (decimal n)

-- a text that is escaped: four bytes for one that is not written as it is
abbrev pub escaped_length : Text → ℕ
escaped_length text = sum_by (λ byte. if is_plain byte then 1 else 4) text

-- a text, or `()`
abbrev pub optional_length : Option Text → ℕ
optional_length None = 2
optional_length (Some text) = length text

-- texts with commas between them, or `()`
abbrev pub list_length : List Text → ℕ
list_length [] = 2
list_length (text ∷ texts) = length text + sum_by (λ other. 1 + length other) texts

-- ---- calls of the shared book

-- `yes`, `no` or `done`
abbrev pub reply_length : Reply → ℕ
reply_length Yes = 3
reply_length No = 2
reply_length Done = 4

-- `include` or `other`
abbrev pub credentials_length : Bool → ℕ
credentials_length true = 7
credentials_length false = 5

-- an age, a space, and `sub` or `exact`
abbrev pub sts_length : Sts → ℕ
sts_length sts = digits sts.age + 1 + (if sts.subdomains then 3 else 5)

-- six words, with a space between two
abbrev pub question_length : Question → ℕ
question_length question =
    length question.key + length question.origin + credentials_length question.include
    + optional_length question.method + list_length question.names + length question.url + 5

-- seven words, with a space between two
abbrev pub lesson_length : Lesson → ℕ
lesson_length lesson =
    length lesson.key + length lesson.origin + credentials_length lesson.include + digits lesson.age
    + list_length lesson.methods + list_length lesson.names + length lesson.url + 6

-- an operation, and ` at ` its time
abbrev pub op_length : Op → ℕ
op_length (Match host now) = 6 + length host + 4 + digits now
op_length (Note host sts now) = 5 + length host + 1 + sts_length sts + 4 + digits now
op_length (Covers question now) = 7 + question_length question + 4 + digits now
op_length (Learn lesson now) = 6 + lesson_length lesson + 4 + digits now
op_length (Clear key origin url now) = 6 + length key + 1 + length origin + 1 + length url + 4 + digits now

-- an operation, and what it replied
abbrev pub call_length : Op → Reply → ℕ
call_length op reply = op_length op + 2 + reply_length reply

-- ---- lines

-- the line of a header: `  NAME: VALUE`
abbrev pub header_length : Header → ℕ
header_length header = 5 + escaped_length header.name + escaped_length header.value

-- the lines of headers
abbrev pub headers_length : List Header → ℕ
headers_length headers = sum_by header_length headers

-- a body, with its length before it
abbrev pub body_length : Text → ℕ
body_length bytes = digits (length bytes) + 2 + escaped_length bytes

-- the line of a request's body, where there is one: `  body BODY`
abbrev pub request_body_length : Option Text → ℕ
request_body_length None = 0
request_body_length (Some bytes) = 8 + body_length bytes

-- a request: `send ORIGIN`, `  METHOD URL HTTP/1.1`, its headers and its body
abbrev pub hop_length : Hop → ℕ
hop_length hop =
    6 + length hop.origin + (13 + escaped_length hop.method + escaped_length hop.url)
    + headers_length hop.headers + request_body_length hop.body

-- a violation: `violation POLICY enforce DIRECTIVE URL`, or `report`
abbrev pub violation_length : Violation → ℕ
violation_length violation =
    14 + digits violation.policy + (if violation.enforced then 7 else 6)
    + length (directive_name violation.directive) + length violation.url

-- how a body ended: `  body none`, `  body whole BODY`, `  body cut COUNT`, `  body fault COUNT` or `  body toobig`
abbrev pub body_end_length : BodyEnd → ℕ
body_end_length body.Null = 12
body_end_length (body.Whole bytes) = 14 + body_length bytes
body_end_length (body.Cut count) = 12 + digits count
body_end_length (body.Fault count) = 14 + digits count
body_end_length body.TooBig = 14

-- a response: `result TYPE STATUS URL`, its headers and its body
abbrev pub response_length : Response → ℕ
response_length response =
    10 + length (kind_name response.kind) + digits response.status + optional_length response.url
    + headers_length response.headers + body_end_length response.body

-- the header that a network error names, and a space before it
abbrev pub named_header_length : NetError → ℕ
named_header_length (PreflightHeader name) = 1 + length name
named_header_length _ = 0

-- a network error: `NUMBER NAME`, and the header that it names
abbrev pub error_length : NetError → ℕ
error_length error = digits (error_number error) + 1 + length (error_name error) + named_header_length error

-- the index that a fault names, and a space before it
abbrev pub named_index_length : TypeFault → ℕ
named_index_length (BadHeader index) = 1 + digits index
named_index_length _ = 0

-- a fault: `NUMBER NAME`, and the index that it names
abbrev pub fault_length : TypeFault → ℕ
fault_length fault = digits (fault_number fault) + 1 + length (fault_name fault) + named_index_length fault

-- what a fetch came to: a response, `result loaded`, or `result error ERROR`
abbrev pub outcome_length : Outcome → ℕ
outcome_length (outcome.Answer response) = response_length response
outcome_length outcome.Loaded = 14
outcome_length (outcome.Error error) = 14 + error_length error

-- an event: `fetch NUMBER`, `load NUMBER DESTINATION`, `call CALL`, a request, a violation, an outcome,
-- `result failed ERROR`, `result type-error FAULT` or `result failed type-error FAULT`
abbrev pub event_length : Event → ℕ
event_length (event.Fetch number) = 7 + digits number
event_length (event.Load number destination) = 7 + digits number + length (destination_name destination)
event_length (event.Call op reply) = 6 + call_length op reply
event_length (event.Sent hop) = hop_length hop
event_length (event.Told violation) = violation_length violation
event_length (event.Result outcome) = outcome_length outcome
event_length (event.LoadFailed error) = 15 + error_length error
event_length (event.TypeError fault) = 19 + fault_length fault
event_length (event.LoadError fault) = 26 + fault_length fault
