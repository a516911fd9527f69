-- What an act or an outcome has, by parts.
use Rattle.std.specs.Prelude.{ℕ, List, slice_get, Option, Some, None, option_and_then}
use Rattle.value_requests.specs.declared.response.BodyEnd.TheVariants as end
use Rattle.c_fetch.specs.Terms.{Act, Answer, Ask, BodyEnd, Clear, Covers, Error, Header, Hop, Learn, Lesson, Loaded}
use Rattle.c_fetch.specs.Terms.{Match, NetError, Note, Op, Outcome, PreflightHeader, Question, ReadBody, ReadHead}
use Rattle.c_fetch.specs.Terms.{Response, Send, Standing, Tell, Text, Violation, act_of, directive_name, error_name}
use Rattle.c_fetch.specs.Terms.{kind_name, outcome_of, request_bytes}
use Rattle.c_fetch.specs.declared.parts.Part.{Part}
use Rattle.c_fetch.specs.declared.parts.Part.TheVariants as part

-- ---- texts

-- the name, or the value, of a header
abbrev pub part_of_header : Part → Header → Option Text
part_of_header part.HeaderName header = Some header.name
part_of_header part.HeaderValue header = Some header.value
part_of_header _ header = None

abbrev pub header_text : List Header → Part → ℕ → Option Text
header_text headers which at = option_and_then (part_of_header which) (slice_get headers at)

-- of a question to the preflight cache
abbrev pub question_text : Question → Part → ℕ → Option Text
question_text question part.Key at = Some question.key
question_text question part.Origin at = Some question.origin
question_text question part.Url at = Some question.url
question_text question part.Method at = question.method
question_text question part.Name at = slice_get question.names at
question_text question _ at = None

-- of what the preflight cache learns
abbrev pub lesson_text : Lesson → Part → ℕ → Option Text
lesson_text lesson part.Key at = Some lesson.key
lesson_text lesson part.Origin at = Some lesson.origin
lesson_text lesson part.Url at = Some lesson.url
lesson_text lesson part.Name at = slice_get lesson.names at
lesson_text lesson part.Learnt at = slice_get lesson.methods at
lesson_text lesson _ at = None

-- the host of a call
abbrev pub host_text : Text → Part → Option Text
host_text host part.Host = Some host
host_text host _ = None

-- of what the preflight cache forgets
abbrev pub clear_text : Text → Text → Text → Part → Option Text
clear_text key origin url part.Key = Some key
clear_text key origin url part.Origin = Some origin
clear_text key origin url part.Url = Some url
clear_text key origin url _ = None

-- of a call of the book
abbrev pub call_text : Op → Part → ℕ → Option Text
call_text (Match host now) which at = host_text host which
call_text (Note host sts now) which at = host_text host which
call_text (Covers question now) which at = question_text question which at
call_text (Learn lesson now) which at = lesson_text lesson which at
call_text (Clear key origin url now) which at = clear_text key origin url which

-- of a request that is sent
abbrev pub hop_text : Hop → Part → ℕ → Option Text
hop_text hop part.Origin at = Some hop.origin
hop_text hop part.Url at = Some hop.url
hop_text hop part.Method at = Some hop.method
hop_text hop part.Body at = hop.body
hop_text hop which at = header_text hop.headers which at

-- of a violation
abbrev pub violation_text : Violation → Part → Option Text
violation_text violation part.Url = Some violation.url
violation_text violation part.Word = Some (directive_name violation.directive)
violation_text violation _ = None

-- of an act
abbrev pub text_of_act : Act → Part → ℕ → Option Text
text_of_act (Ask op) which at = call_text op which at
text_of_act (Send hop) which at = hop_text hop which at
text_of_act ReadHead which at = None
text_of_act ReadBody which at = None
text_of_act (Tell violation) which at = violation_text violation which

-- the bytes of a body that came whole
abbrev pub whole_body : BodyEnd → Option Text
whole_body (end.Whole bytes) = Some bytes
whole_body _ = None

-- of a response
abbrev pub response_text : Response → Part → ℕ → Option Text
response_text response part.Word at = Some (kind_name response.kind)
response_text response part.Url at = response.url
response_text response part.Body at = whole_body response.body
response_text response which at = header_text response.headers which at

-- the header that a preflight did not allow
abbrev pub refused_header : NetError → Option Text
refused_header (PreflightHeader name) = Some name
refused_header _ = None

-- of a network error
abbrev pub error_text : NetError → Part → Option Text
error_text error part.Word = Some (error_name error)
error_text error part.Refused = refused_header error
error_text error _ = None

-- of an outcome
abbrev pub text_of_outcome : Outcome → Part → ℕ → Option Text
text_of_outcome (Answer response) which at = response_text response which at
text_of_outcome Loaded which at = None
text_of_outcome (Error error) which at = error_text error which

-- all bytes of the request that an act sends
abbrev pub request_of_act : Act → Option Text
request_of_act (Send hop) = Some (request_bytes hop)
request_of_act _ = None

-- ---- sessions

-- of the act that is to be done next, or of the outcome of a fetch that is over
abbrev pub text_by : Option Act → Option Outcome → Part → ℕ → Option Text
text_by (Some first) outcome which at = text_of_act first which at
text_by None (Some outcome) which at = text_of_outcome outcome which at
text_by None None which at = None

abbrev pub text_of : Option Standing → Part → ℕ → Option Text
text_of standing which at = text_by (act_of standing) (outcome_of standing) which at

-- all bytes of the request that is to be sent
abbrev pub request_of : Option Standing → Option Text
request_of standing = option_and_then request_of_act (act_of standing)
