-- Heads of which only some headers are looked at, and what a document may learn of the answer to a CORS-preflight
-- request (this project's own definition; Fetch, "CORS-preflight fetch", looks at no more).
use Rattle.std.specs.Prelude.{ℕ, Bool, List, [], ◌∷◌, filter, codes, if◌then◌else◌}
use Rattle.std.specs.List.{list_any}
use Rattle.value_text.specs.Texts.{Text}
use Rattle.value_headers.specs.declared.headers.Header.{Header}
use Rattle.value_headers.specs.Headers.{is_named}
use Rattle.value_requests.specs.declared.hop.Head.{Head}
use Rattle.value_requests.specs.Statuses.{is_ok_status}

-- the header has one of these names
abbrev pub has_name_among : List Text → Header → Bool
has_name_among names header = list_any (λ name. is_named name header) names

-- the headers that have one of these names, in order
abbrev pub only_named : List Text → List Header → List Header
only_named names headers = filter (has_name_among names) headers

-- the headers of a preflight's answer that a verdict on it rests on, and the one that known hosts are noted by
abbrev pub preflight_names : List Text
preflight_names =
    codes "Strict-Transport-Security" ∷ codes "Access-Control-Allow-Origin" ∷ codes "Access-Control-Allow-Credentials"
    ∷ codes "Access-Control-Allow-Methods" ∷ codes "Access-Control-Allow-Headers" ∷ codes "Access-Control-Max-Age" ∷ []

-- of the status it matters only whether it is an ok status
abbrev pub preflight_status : ℕ → ℕ
preflight_status status = if is_ok_status status then 200 else 500

-- what a document may learn of the head that answers a preflight
abbrev pub preflight_view : Head → Head
preflight_view head = record {
  status = preflight_status head.status;
  headers = only_named preflight_names head.headers;
}
