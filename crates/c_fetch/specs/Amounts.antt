-- What an act or an outcome has, by numbers.
use Rattle.std.specs.Prelude.{ℕ, Bool, length, Option, Some, None, if◌then◌else◌}
use Rattle.value_requests.specs.declared.response.BodyEnd.TheVariants as end
use Rattle.c_fetch.specs.Terms.{Act, Answer, Ask, BodyEnd, Clear, Covers, Error, Hop, Learn, Lesson, Loaded, Match}
use Rattle.c_fetch.specs.Terms.{Note, Op, Outcome, Question, ReadBody, ReadHead, Response, Send, Standing, Sts, Tell}
use Rattle.c_fetch.specs.Terms.{Violation, act_of, error_number, outcome_of, time_of}
use Rattle.c_fetch.specs.declared.amounts.Amount.{Amount}
use Rattle.c_fetch.specs.declared.amounts.Amount.TheVariants as amount

-- 1 where it holds
abbrev pub one_where : Bool → ℕ
one_where holds = if holds then 1 else 0

-- ---- acts

-- of a question to the known hosts
abbrev pub match_amount : Amount → Option ℕ
match_amount amount.Call = Some 0
match_amount _ = None

-- of what the known hosts note
abbrev pub note_amount : Sts → Amount → Option ℕ
note_amount sts amount.Call = Some 1
note_amount sts amount.Age = Some sts.age
note_amount sts amount.Subdomains = Some (one_where sts.subdomains)
note_amount sts _ = None

-- of a question to the preflight cache
abbrev pub question_amount : Question → Amount → Option ℕ
question_amount question amount.Call = Some 2
question_amount question amount.Include = Some (one_where question.include)
question_amount question amount.Names = Some (length question.names)
question_amount question _ = None

-- of what the preflight cache learns
abbrev pub lesson_amount : Lesson → Amount → Option ℕ
lesson_amount lesson amount.Call = Some 3
lesson_amount lesson amount.Include = Some (one_where lesson.include)
lesson_amount lesson amount.Age = Some lesson.age
lesson_amount lesson amount.Names = Some (length lesson.names)
lesson_amount lesson amount.Methods = Some (length lesson.methods)
lesson_amount lesson _ = None

-- of what the preflight cache forgets
abbrev pub clear_amount : Amount → Option ℕ
clear_amount amount.Call = Some 4
clear_amount _ = None

-- of a call of the book, but for its time
abbrev pub call_amount : Op → Amount → Option ℕ
call_amount (Match host now) which = match_amount which
call_amount (Note host sts now) which = note_amount sts which
call_amount (Covers question now) which = question_amount question which
call_amount (Learn lesson now) which = lesson_amount lesson which
call_amount (Clear key origin url now) which = clear_amount which

-- of a call of the book
abbrev pub ask_amount : Op → Amount → Option ℕ
ask_amount op amount.Time = Some (time_of op)
ask_amount op which = call_amount op which

-- of a request that is sent
abbrev pub hop_amount : Hop → Amount → Option ℕ
hop_amount hop amount.Preflight = Some (one_where hop.preflight)
hop_amount hop amount.Headers = Some (length hop.headers)
hop_amount hop _ = None

-- of a violation
abbrev pub violation_amount : Violation → Amount → Option ℕ
violation_amount violation amount.Policy = Some violation.policy
violation_amount violation amount.Enforced = Some (one_where violation.enforced)
violation_amount violation _ = None

-- of an act
abbrev pub amount_of_act : Act → Amount → Option ℕ
amount_of_act (Ask op) which = ask_amount op which
amount_of_act (Send hop) which = hop_amount hop which
amount_of_act ReadHead which = None
amount_of_act ReadBody which = None
amount_of_act (Tell violation) which = violation_amount violation which

-- ---- outcomes

-- of how a body ended
abbrev pub end_of : BodyEnd → ℕ
end_of end.Null = 0
end_of (end.Whole bytes) = 1
end_of (end.Cut count) = 2
end_of (end.Fault count) = 3
end_of end.TooBig = 4

-- how many bytes of a body came, where that is told
abbrev pub count_of : BodyEnd → Option ℕ
count_of end.Null = None
count_of (end.Whole bytes) = Some (length bytes)
count_of (end.Cut count) = Some count
count_of (end.Fault count) = Some count
count_of end.TooBig = None

-- of a response
abbrev pub response_amount : Response → Amount → Option ℕ
response_amount response amount.Outcome = Some 0
response_amount response amount.Status = Some response.status
response_amount response amount.Headers = Some (length response.headers)
response_amount response amount.End = Some (end_of response.body)
response_amount response amount.Count = count_of response.body
response_amount response _ = None

-- of a load that succeeded
abbrev pub loaded_amount : Amount → Option ℕ
loaded_amount amount.Outcome = Some 1
loaded_amount _ = None

-- of a network error, by its number
abbrev pub error_amount : ℕ → Amount → Option ℕ
error_amount number amount.Outcome = Some 2
error_amount number amount.Error = Some number
error_amount number _ = None

-- of an outcome
abbrev pub amount_of_outcome : Outcome → Amount → Option ℕ
amount_of_outcome (Answer response) which = response_amount response which
amount_of_outcome Loaded which = loaded_amount which
amount_of_outcome (Error error) which = error_amount (error_number error) which

-- ---- sessions

-- of the act that is to be done next, or of the outcome of a fetch that is over
abbrev pub amount_by : Option Act → Option Outcome → Amount → Option ℕ
amount_by (Some first) outcome which = amount_of_act first which
amount_by None (Some outcome) which = amount_of_outcome outcome which
amount_by None None which = None

abbrev pub amount_of : Option Standing → Amount → Option ℕ
amount_of standing which = amount_by (act_of standing) (outcome_of standing) which
