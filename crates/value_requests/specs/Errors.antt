-- Network errors and the faults of a request, by number and name: Fetch knows one network error (section 2.2.6) and
-- one TypeError (sections 5.4 and 5.6), and these tables tell by which rule it came.
use Rattle.std.specs.Prelude.{ℕ, codes}
use Rattle.value_text.specs.Texts.{Text}
use Rattle.value_requests.specs.declared.error.NetError.{NetError}
use Rattle.value_requests.specs.declared.error.NetError.TheVariants as error
use Rattle.value_requests.specs.declared.fault.TypeFault.{TypeFault}
use Rattle.value_requests.specs.declared.fault.TypeFault.TheVariants as fault

-- a number and a name
pub record Label : Type 0 where
  pub number : ℕ
  pub name : Text

abbrev pub label : ℕ → Text → Label
label number name = record { number = number; name = name }

-- the network errors; the name of a header is left out
abbrev pub error_label : NetError → Label
error_label error.Scheme = label 1 (codes "Scheme")
error_label error.BadPort = label 2 (codes "BadPort")
error_label error.Mixed = label 3 (codes "Mixed")
error_label error.CspRequest = label 4 (codes "CspRequest")
error_label error.SameOriginMode = label 5 (codes "SameOriginMode")
error_label error.NoCorsRedirectMode = label 6 (codes "NoCorsRedirectMode")
error_label error.PreflightCors = label 7 (codes "PreflightCors")
error_label error.PreflightStatus = label 8 (codes "PreflightStatus")
error_label error.PreflightList = label 9 (codes "PreflightList")
error_label error.PreflightMethod = label 10 (codes "PreflightMethod")
error_label (error.PreflightHeader name) = label 11 (codes "PreflightHeader")
error_label error.CorsCheck = label 12 (codes "CorsCheck")
error_label error.Corp = label 13 (codes "Corp")
error_label error.RedirectMode = label 14 (codes "RedirectMode")
error_label error.BadLocation = label 15 (codes "BadLocation")
error_label error.RedirectScheme = label 16 (codes "RedirectScheme")
error_label error.TooManyRedirects = label 17 (codes "TooManyRedirects")
error_label error.RedirectCredentials = label 18 (codes "RedirectCredentials")
error_label error.CspResponse = label 19 (codes "CspResponse")
error_label error.Mime = label 20 (codes "Mime")
error_label error.NoSniff = label 21 (codes "NoSniff")
error_label error.Integrity = label 22 (codes "Integrity")
error_label error.Coding = label 23 (codes "Coding")
error_label error.LinkFault = label 24 (codes "LinkFault")
error_label error.BadHead = label 25 (codes "BadHead")
error_label error.HeadTooBig = label 26 (codes "HeadTooBig")

-- the number of a network error
abbrev pub error_number : NetError → ℕ
error_number refusal = (error_label refusal).number

-- the name of a network error, without the header's
abbrev pub error_name : NetError → Text
error_name refusal = (error_label refusal).name

-- the faults; the index of a header is left out
abbrev pub fault_label : TypeFault → Label
fault_label fault.BadUrl = label 1 (codes "BadUrl")
fault_label fault.UrlCredentials = label 2 (codes "UrlCredentials")
fault_label fault.BadMethod = label 3 (codes "BadMethod")
fault_label fault.ForbiddenMethod = label 4 (codes "ForbiddenMethod")
fault_label fault.BodyWithGet = label 5 (codes "BodyWithGet")
fault_label fault.NoCorsMethod = label 6 (codes "NoCorsMethod")
fault_label (fault.BadHeader index) = label 7 (codes "BadHeader")
fault_label fault.NavigateMode = label 8 (codes "NavigateMode")
fault_label fault.TooLong = label 9 (codes "TooLong")
fault_label fault.LongUrl = label 10 (codes "LongUrl")

-- the number of a fault
abbrev pub fault_number : TypeFault → ℕ
fault_number refusal = (fault_label refusal).number

-- the name of a fault, without the header's index
abbrev pub fault_name : TypeFault → Text
fault_name refusal = (fault_label refusal).name
