-- What a fetch asks and tells of known HSTS hosts (RFC 6797, sections 8.1 and 8.3; Fetch, section 4.1, "main fetch",
-- step 10, where a known host is asked for).
use Rattle.std.specs.Prelude.{ℕ, List, [], ◌∷◌, codes, bytes_eq, Option, Some, None, option_and_then, option_map}
use Rattle.std.specs.Prelude.{if◌then◌else◌}
use Rattle.url.specs.declared.host.Host.{Host}
use Rattle.url.specs.declared.host.Host.TheVariants.{Domain}
use Rattle.url.specs.Parts.{Parts, nonempty_host}
use Rattle.value_text.specs.Texts.{Text}
use Rattle.book_calls.specs.declared.op.Op.{Op}
use Rattle.book_calls.specs.declared.op.Op.TheVariants.{Match, Note}
use Rattle.value_headers.specs.declared.headers.Header.{Header}
use Rattle.value_headers.specs.Headers.{values_of}
use Rattle.book_hosts.specs.declared.sts.Sts.{Sts}
use Rattle.book_hosts.specs.Reading.{sts_in}
use Rattle.value_origins.specs.Names.{is_local_name}
use Rattle.value_requests.specs.declared.hop.Head.{Head}
use Rattle.value_requests.specs.declared.request.Request.{Request}
use Rattle.value_requests.specs.Requests.{current_url}

-- the name by which a host is known: a domain that is no localhost name; an IP address is never known. Localhost names
-- are neither asked for nor noted (RFC 6797 does not set them apart for noting: this project's own choice).
abbrev pub name_of_host : Option (Host Text) → Option Text
name_of_host (Some (Domain name)) = if is_local_name name then None else Some name
name_of_host _ = None

-- the name by which the host of a URL of this scheme is known
abbrev pub name_at : Text → Parts → Option Text
name_at scheme url = if bytes_eq url.scheme scheme then name_of_host (nonempty_host url) else None

-- ---- before the request is sent

-- the host that is asked for: that of a current URL which is http
abbrev pub host_to_match : Request → Option Text
host_to_match request = name_at (codes "http") (current_url request)

-- the question whether it is a known host, at this time
abbrev pub match_of : ℕ → Request → Option Op
match_of now request = option_map (λ host. Match host now) (host_to_match request)

-- ---- after its answer

-- the host of which a field is noted: that of a current URL which is https
abbrev pub host_to_note : Request → Option Text
host_to_note request = name_at (codes "https") (current_url request)

-- the first of some values, where there is one
abbrev pub first_of : List Text → Option Text
first_of [] = None
first_of (value ∷ values) = Some value

-- the value of the first header of a name
abbrev pub first_value : Text → List Header → Option Text
first_value name headers = first_of (values_of name headers)

-- what the Strict-Transport-Security field of a head says; of several the first alone counts
abbrev pub sts_of : Head → Option Sts
sts_of head = option_and_then sts_in (first_value (codes "Strict-Transport-Security") head.headers)

-- what is noted of an answer to the request that has this head, at this time: its field, where there is a host to note
-- and the field says something
abbrev pub note_of : ℕ → Request → Head → Option Op
note_of now request head =
    option_and_then (λ host. option_map (λ sts. Note host sts now) (sts_of head)) (host_to_note request)
