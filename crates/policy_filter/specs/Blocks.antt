-- What main fetch blocks a response for, by the destination of its request (Fetch, "should response to request be
-- blocked due to its MIME type" and ".. due to nosniff").
use Rattle.std.specs.Prelude.{Bool, true, false, ◌&&◌, List}
use Rattle.value_headers.specs.declared.headers.Header.{Header}
use Rattle.value_lists.specs.Blocking.{mime_blocked, nosniff_blocked}
use Rattle.value_lists.specs.Essence.{essence_of}
use Rattle.value_lists.specs.Nosniff.{nosniff}
use Rattle.value_requests.specs.declared.policy.Destination.{Destination}
use Rattle.value_requests.specs.declared.policy.Destination.TheVariants as destination

-- the destination is script
abbrev pub is_script : Destination → Bool
is_script destination.Script = true
is_script _ = false

-- the destination is style
abbrev pub is_style : Destination → Bool
is_style destination.Style = true
is_style _ = false

-- the response with these headers is blocked due to its MIME type
abbrev pub is_type_blocked : Destination → List Header → Bool
is_type_blocked destination headers = mime_blocked (essence_of headers) (is_script destination)

-- the response with these headers is blocked due to nosniff
abbrev pub is_nosniff_blocked : Destination → List Header → Bool
is_nosniff_blocked destination headers =
    nosniff headers && nosniff_blocked (essence_of headers) (is_script destination) (is_style destination)
