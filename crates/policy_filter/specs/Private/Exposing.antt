-- What a header list exposes, with one word for all of its names.
use Rattle.std.specs.Prelude.{Bool, not, ◌&&◌, List, [], codes, if◌then◌else◌}
use Rattle.value_lists.specs.declared.extract.Extracted.{Extracted}
use Rattle.value_lists.specs.declared.extract.Extracted.TheVariants.{Items}
use Rattle.value_lists.specs.declared.extract.Rule.TheVariants.{Tokens}
use Rattle.value_headers.specs.declared.headers.Header.{Header}
use Rattle.value_lists.specs.Extract.{extracted}
use Rattle.value_requests.specs.declared.request.Request.{Request}
use Rattle.value_requests.specs.Modes.{is_include}
use Rattle.policy_filter.specs.declared.exposed.Exposure.{Exposure}
use Rattle.policy_filter.specs.declared.exposed.Exposure.TheVariants.{All, Names}
use Rattle.policy_filter.specs.Exposed.{header_names}
use Rattle.value_text.specs.Texts.{Text}
use Rattle.value_text.specs.Wildcards.{has_wildcard}
use Rattle.policy_filter.specs.Names.{is_forbidden, is_safelisted}

-- what is exposed by what was extracted
abbrev pub exposure_by : Bool → Extracted → Exposure
exposure_by include (Items names) = if not include && has_wildcard names then All else Names names
exposure_by include _ = Names []

-- what a header list exposes, where the credentials mode is include or another
abbrev pub exposure : Bool → List Header → Exposure
exposure include headers = exposure_by include (extracted Tokens (codes "Access-Control-Expose-Headers") headers)

-- what a header list exposes to a request
abbrev pub exposure_to : Request → List Header → Exposure
exposure_to request headers = exposure (is_include request.credentials) headers

-- the exposed names of a header list
abbrev pub names_in : List Header → Exposure → List Text
names_in headers All = header_names headers
names_in headers (Names names) = names

-- a header of the list has a CORS-safelisted response-header name
abbrev pub is_safelisted_in : Exposure → Header → Bool
is_safelisted_in All header = not (is_forbidden header)
is_safelisted_in (Names names) header = is_safelisted names header
