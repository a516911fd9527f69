-- The definitions computed on a worked example: what scripted servers answer to a document that fetches its own root.
use Rattle.std.proofs.Common.{◌≡◌, refl, List, [], ◌∷◌, codes, Some, None}
use Rattle.script_scenarios.specs.Servers.{answer}
use Rattle.script_scenarios.specs.declared.servers.Server.{Server}
use Rattle.rows_definitions.proofs.ScriptRuns.{hop}

-- a server that answers PUT by 201 and all else by 200 with the body `hi`
abbrev servers : List Server
servers =
    record {
      origin = codes "https://a.test";
      rules =
          record { method = Some (codes "PUT"); path = None; answer = codes "HTTP/1.1 201 Scripted\r\n\r\n" }
          ∷ record { method = None; path = Some (codes "/"); answer = codes "HTTP/1.1 200 Scripted\r\n\r\nhi" }
          ∷ [];
    } ∷ []

-- the second rule answers the document's request
pub second_rule : answer servers hop.origin hop.method hop.url ≡ codes "HTTP/1.1 200 Scripted\r\n\r\nhi"
second_rule = refl

-- without a rule the status is 404, and without a server the answer is empty
pub without_a_rule : answer (record { origin = codes "https://a.test"; rules = [] } ∷ []) hop.origin hop.method hop.url
    ≡ codes "HTTP/1.1 404 Scripted\r\n\r\n"
without_a_rule = refl

pub without_a_server : answer [] hop.origin hop.method hop.url ≡ []
without_a_server = refl
