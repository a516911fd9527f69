-- What a page sees of an answer, and which answers are blocked for their MIME type.
use Rattle.std.specs.Prelude.{Bool, List, Result, Ok}
use Rattle.policy_filter.specs.Blocks as blocks
use Rattle.c_checks.specs.Words.{Asked, Head, Header, Refusal, Response, Setup, Tainting, and_then, destination_of}
use Rattle.c_checks.specs.Words.{response_of, with_tainting}
use Rattle.c_checks.specs.Requested.{request_of}

-- the filtered response of a head, to the request of what is asked for with a response tainting; of a redirect in
-- redirect mode manual it is an opaque-redirect one
abbrev pub seen_response : Setup → Asked → Tainting → Head → Result Response Refusal
seen_response settings asked tainting head =
    and_then (request_of settings asked) (λ request. Ok (response_of (with_tainting tainting request) head))

-- "should response to request be blocked due to its MIME type"; nothing is refused
abbrev pub is_type_blocked : Asked → List Header → Result Bool Refusal
is_type_blocked asked headers = Ok (blocks.is_type_blocked (destination_of asked) headers)

-- "should response to request be blocked due to nosniff"; nothing is refused
abbrev pub is_nosniff_blocked : Asked → List Header → Result Bool Refusal
is_nosniff_blocked asked headers = Ok (blocks.is_nosniff_blocked (destination_of asked) headers)
