-- What every scenario that is read keeps: the bounds and the forms of its values.
use Rattle.std.specs.Prelude.{◌≤◌, length, IfSome, IsTrue}
use Rattle.std.specs.List.{All}
use Rattle.value_text.specs.Tokens.{is_token}
use Rattle.value_requests.specs.declared.client.Cookie.{Cookie}
use Rattle.value_requests.specs.Requests.{is_policy}
use Rattle.link_traits.specs.declared.routes.Route.{Route}
use Rattle.script_scenarios.specs.ValidScripts.{IsValidScript}
use Rattle.script_scenarios.specs.declared.hosts.KnownHost.{KnownHost}
use Rattle.script_scenarios.specs.declared.servers.Rule.{Rule}
use Rattle.script_scenarios.specs.declared.servers.Server.{Server}
use Rattle.script_scenarios.specs.declared.document.Document.{Document}
use Rattle.script_scenarios.specs.declared.scenario.Scenario.{Scenario}
use Rattle.value_requests.specs.HostNames.{is_host_name}
use Rattle.script_scenarios.specs.Texts.{is_cookie_value}
use Rattle.value_requests.specs.OriginTexts.{is_origin_text}
use Rattle.script_scenarios.specs.Urls.{is_document_url}

-- a domain as a URL has it, which is no localhost name, and the second in which its term ends
pub record IsValidHost (known : KnownHost) : Type 0 where
  pub host : IsTrue (is_host_name known.host)
  pub some_host : 1 ≤ length known.host
  pub until : known.until ≤ 281474976710655

-- a serialized origin, and a header value of 1 to 4,096 bytes
pub record IsValidCookie (cookie : Cookie) : Type 0 where
  pub origin : IsTrue (is_origin_text cookie.origin)
  pub value : IsTrue (is_cookie_value cookie.value)

-- a serialized origin
pub record IsValidRoute (route : Route) : Type 0 where
  pub origin : IsTrue (is_origin_text route.origin)

-- a method that is there is a token
pub record IsValidRule (rule : Rule) : Type 0 where
  pub method : IfSome rule.method (λ method. IsTrue (is_token method))

-- a serialized origin, and rules
pub record IsValidServer (server : Server) : Type 0 where
  pub origin : IsTrue (is_origin_text server.origin)
  pub rules : All IsValidRule server.rules

-- URLs of the document and of the page at the top that a document may have, a referrer policy that is not empty, at
-- most 16 policies, and a script
pub record IsValidDocument (document : Document) : Type 0 where
  pub url : IsTrue (is_document_url document.url)
  pub top : IsTrue (is_document_url document.top)
  pub policy : IsTrue (is_policy document.policy)
  pub few_policies : length document.policies ≤ 16
  pub script : IsValidScript document.script

-- a time of at most 2^40 seconds, at most 4,096 known hosts, a piece of 1 to 65,536 bytes, at most 128 documents, and
-- bodies of 1 to 1,048,576 bytes at most
pub record IsValid (scenario : Scenario) : Type 0 where
  pub now : scenario.now ≤ 1099511627776
  pub few_hosts : length scenario.hosts ≤ 4096
  pub hosts : All IsValidHost scenario.hosts
  pub cookies : All IsValidCookie scenario.cookies
  pub servers : All IsValidServer scenario.servers
  pub routes : All IsValidRoute scenario.routes
  pub some_piece : 1 ≤ scenario.piece
  pub most_piece : scenario.piece ≤ 65536
  pub few_documents : length scenario.documents ≤ 128
  pub documents : All IsValidDocument scenario.documents
  pub some_limit : 1 ≤ scenario.body_limit
  pub most_limit : scenario.body_limit ≤ 1048576
