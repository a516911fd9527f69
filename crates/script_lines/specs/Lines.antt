-- The printed lines of an event of a document's run (the output of `fetchplay play`).
use Rattle.std.specs.Prelude.{Bool, true, false, List, [], ◌++◌, length, codes, decimal, Option, Some, None}
use Rattle.value_requests.specs.declared.response.BodyEnd.TheVariants as body
use Rattle.value_requests.specs.declared.response.Outcome.TheVariants as outcome
use Rattle.script_lines.specs.Words.{BadHeader, BodyEnd, Header, Hop, NetError, Outcome, PreflightHeader, Response}
use Rattle.script_lines.specs.Words.{Text, TypeFault, Violation, destination_name, directive_name, error_name}
use Rattle.script_lines.specs.Words.{error_number, fault_name, fault_number, flat_map, kind_name}
use Rattle.script_lines.specs.Calls.{call_text}
use Rattle.script_events.specs.declared.events.Event.{Event}
use Rattle.script_events.specs.declared.events.Event.TheVariants as event
use Rattle.script_lines.specs.Escapes.{escaped}

-- a line
abbrev pub line : Text → Text
line text = text ++ codes "\n"

-- an indented line, escaped
abbrev pub escaped_line : Text → Text
escaped_line text = line (codes "  " ++ escaped text)

-- the request line of a request (RFC 9112, section 3)
abbrev pub request_line : Hop → Text
request_line hop = hop.method ++ codes " " ++ hop.url ++ codes " HTTP/1.1"

-- the field line of a header (RFC 9112, section 5)
abbrev pub header_line : Header → Text
header_line header = header.name ++ codes ": " ++ header.value

-- the lines of a header list
abbrev pub header_lines : List Header → Text
header_lines headers = flat_map (λ header. escaped_line (header_line header)) headers

-- a body: its length and its escaped bytes
abbrev pub body_text : Text → Text
body_text bytes = decimal (length bytes) ++ codes ": " ++ escaped bytes

-- the line of a request's body, where there is one
abbrev pub request_body_lines : Option Text → Text
request_body_lines None = []
request_body_lines (Some bytes) = line (codes "  body " ++ body_text bytes)

-- a request that was sent: where to, its head line by line, and its body
abbrev pub hop_lines : Hop → Text
hop_lines hop =
    line (codes "send " ++ hop.origin) ++ escaped_line (request_line hop) ++ header_lines hop.headers
    ++ request_body_lines hop.body

-- the disposition of a policy
abbrev pub disposition_name : Bool → Text
disposition_name true = codes "enforce"
disposition_name false = codes "report"

-- a violation
abbrev pub violation_line : Violation → Text
violation_line violation =
    line (codes "violation " ++ decimal violation.policy ++ codes " " ++ disposition_name violation.enforced
    ++ codes " " ++ directive_name violation.directive ++ codes " " ++ violation.url)

-- the URL of a response; `()` where there is none
abbrev pub url_text : Option Text → Text
url_text None = codes "()"
url_text (Some url) = url

-- how the body of a response ended
abbrev pub body_line : BodyEnd → Text
body_line body.Null = line (codes "  body none")
body_line (body.Whole bytes) = line (codes "  body whole " ++ body_text bytes)
body_line (body.Cut count) = line (codes "  body cut " ++ decimal count)
body_line (body.Fault count) = line (codes "  body fault " ++ decimal count)
body_line body.TooBig = line (codes "  body toobig")

-- a response: its type, status and URL, then its headers and its body
abbrev pub response_lines : Response → Text
response_lines response =
    line (codes "result " ++ kind_name response.kind ++ codes " " ++ decimal response.status ++ codes " "
    ++ url_text response.url) ++ header_lines response.headers ++ body_line response.body

-- the header that a network error names
abbrev pub named_header : NetError → Text
named_header (PreflightHeader name) = codes " " ++ name
named_header _ = []

-- a network error: its number, its name, and the header that it names
abbrev pub error_text : NetError → Text
error_text error =
    decimal (error_number error) ++ codes " " ++ error_name error ++ named_header error

-- the index of the header that a fault names
abbrev pub named_index : TypeFault → Text
named_index (BadHeader index) = codes " " ++ decimal index
named_index _ = []

-- a fault: its number, its name, and the index that it names
abbrev pub fault_text : TypeFault → Text
fault_text fault =
    decimal (fault_number fault) ++ codes " " ++ fault_name fault ++ named_index fault

-- what a fetch came to, or a load that succeeded
abbrev pub outcome_lines : Outcome → Text
outcome_lines (outcome.Answer response) = response_lines response
outcome_lines outcome.Loaded = line (codes "result loaded")
outcome_lines (outcome.Error error) = line (codes "result error " ++ error_text error)

-- the lines of an event
abbrev pub event_text : Event → Text
event_text (event.Fetch number) = line (codes "fetch " ++ decimal number)
event_text (event.Load number destination) =
    line (codes "load " ++ decimal number ++ codes " " ++ destination_name destination)
event_text (event.Call op reply) = line (codes "call " ++ call_text op reply)
event_text (event.Sent hop) = hop_lines hop
event_text (event.Told violation) = violation_line violation
event_text (event.Result outcome) = outcome_lines outcome
event_text (event.LoadFailed error) = line (codes "result failed " ++ error_text error)
event_text (event.TypeError fault) = line (codes "result type-error " ++ fault_text fault)
event_text (event.LoadError fault) = line (codes "result failed type-error " ++ fault_text fault)
