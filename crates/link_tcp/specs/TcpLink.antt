-- A link over TCP: what its calls leave. What a peer sends, it does not tell.
use Rattle.std.specs.Prelude.{ℕ, Bool, true, false, List, Result, Ok, Err, ⊤, is_some, if◌then◌else◌}
use Rattle.value_text.specs.Texts.{Text}
use Rattle.link_traits.specs.Counts.{one_more}
use Rattle.link_traits.specs.declared.source.Failed.{Failed}
use Rattle.link_traits.specs.declared.routes.Route.{Route}
use Rattle.link_tcp.specs.Routes.{address_of}

-- the number of the document that it is for, its routes, whether a connection is open, how often one was tried, and how
-- often it failed
pub record TcpLinkState : Type 0 where
  pub document : ℕ
  pub routes : List Route
  pub is_open : Bool
  pub tried : ℕ
  pub faults : ℕ

-- as it opens for a document by its routes: no connection is open
abbrev pub opened : ℕ → List Route → TcpLinkState
opened document routes =
    record { document = document; routes = routes; is_open = false; tried = 0; faults = 0 }

-- with an ask for an origin a connection is tried once, where the origin has a route
abbrev pub tried_for : TcpLinkState → Text → ℕ
tried_for link origin = if is_some (address_of link.routes origin) then one_more link.tried else link.tried

-- what an ask with this answer leaves: a connection where it succeeded, and none after a failure
abbrev pub after_ask : TcpLinkState → Text → Result ⊤ Failed → TcpLinkState
after_ask link origin (Ok done) = record link { is_open = true; tried = tried_for link origin }
after_ask link origin (Err failed) =
    record link { is_open = false; tried = tried_for link origin; faults = one_more link.faults }

-- what a receive with this answer leaves
abbrev pub after_receive : TcpLinkState → Result ℕ Failed → TcpLinkState
after_receive link (Ok n) = link
after_receive link (Err failed) = record link { faults = one_more link.faults }
