-- A law of scripted servers: the answer to the bytes of a request (RFC 9112, section 3) is that of the
-- request's method and its target.
use Rattle.std.specs.Prelude.{◌≡◌, List}
use Rattle.value_requests.specs.declared.hop.Hop.{Hop}
use Rattle.value_requests.specs.Targets.{IsSendable}
use Rattle.link_http1.specs.Requests.{request_bytes}
use Rattle.script_scenarios.specs.Servers.{answer}
use Rattle.script_scenarios.specs.declared.servers.Server.{Server}
use Rattle.play_seats.specs.Sim.{answer_to}

-- the answer to a request's bytes is the one that its method and its target get
abbrev pub AnswersByParts : Type 0
AnswersByParts =
    (servers : List Server) (hop : Hop) → IsSendable hop
    → answer_to servers hop.origin (request_bytes hop) ≡ answer servers hop.origin hop.method hop.url
