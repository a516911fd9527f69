-- How a link that fails shows in what a fetch comes to (this project's own definition; Fetch, section 4, where a fetch
-- waits for the network).
use Rattle.std.specs.Prelude.{◌≡◌, ℕ, Bool, true, false, [], ◌∷◌, Option, Some, None}
use Rattle.std.specs.Option.{option_or}
use Rattle.value_text.specs.Texts.{Text}
use Rattle.value_requests.specs.declared.error.NetError.TheVariants.{Integrity, LinkFault}
use Rattle.value_requests.specs.declared.request.Request.{Request}
use Rattle.value_requests.specs.declared.response.BodyEnd.{BodyEnd}
use Rattle.value_requests.specs.declared.response.BodyEnd.TheVariants as body
use Rattle.value_requests.specs.declared.response.Outcome.{Outcome}
use Rattle.value_requests.specs.declared.response.Outcome.TheVariants.{Answer, Error}
use Rattle.fetch_acts.specs.declared.act.Input.{Input}
use Rattle.fetch_acts.specs.declared.act.Input.TheVariants.{BodyIs, Fault}
use Rattle.fetch_wire.specs.Exchanges.{is_fault}

-- How the link failed: there is no answer; or the body of one broke off, for a request with this integrity text, after
-- this many bytes.
pub data Failure : Type 0 where
  unanswered : Failure
  broken : Text → ℕ → Failure

-- the failure that an input tells, of an act for this request
abbrev pub failure_in : Request → Input → Option Failure
failure_in request Fault = Some unanswered
failure_in request (BodyIs (body.Fault n)) = Some (broken request.integrity n)
failure_in request input = None

-- the link does not fail again
abbrev pub IsOnlyOne : Option Failure → Input → Type 0
IsOnlyOne None input = Unit {0}
IsOnlyOne (Some failure) input = is_fault input ≡ false

-- what is to be shown after an input, of an act for this request
abbrev pub owed_after : Request → Input → Option Failure → Option Failure
owed_after request input failure = option_or (failure_in request input) failure

-- ---- outcomes

-- the link failed in the body
abbrev pub is_broken : BodyEnd → Bool
is_broken (body.Fault n) = true
is_broken end = false

-- the outcome tells that the link failed: the network error of a link, or a response whose body says so
abbrev pub tells_fault : Outcome → Bool
tells_fault (Error LinkFault) = true
tells_fault (Answer response) = is_broken response.body
tells_fault came = false

-- the outcome may hide that the link failed: the network error of a body without the integrity that is asked for
abbrev pub may_hide_fault : Outcome → Bool
may_hide_fault (Error Integrity) = true
may_hide_fault came = false

-- the outcome is a response whose body broke off after this many bytes, since the link failed
abbrev pub IsBrokenAt : ℕ → Outcome → Type 0
IsBrokenAt n (Answer response) = response.body ≡ body.Fault n
IsBrokenAt n came = ⊥

-- what a fetch comes to in which the link did not fail, or failed so: it tells no failure; without an answer it is the
-- network error of the link; where a body broke off it is the response with that body, and under an integrity text
-- that is not empty the network error of integrity
abbrev pub ShowsFailure : Option Failure → Outcome → Type 0
ShowsFailure None came = tells_fault came ≡ false
ShowsFailure (Some unanswered) came = came ≡ Error LinkFault
ShowsFailure (Some (broken [] n)) came = IsBrokenAt n came
ShowsFailure (Some (broken (byte ∷ text) n)) came = came ≡ Error Integrity
