-- The scenario of a text, and the one that is generated, computed on examples by the definitions alone.
use Rattle.rows_definitions.proofs.Shared.{get, root as page}
use Rattle.std.proofs.Common.{◌≡◌, ℕ, Bool, true, false, List, [], ◌∷◌, ◌++◌, codes, refl, Ok, Err, Some, None, Result}
use Rattle.std.specs.Prelude.{replicate}
use Rattle.std.specs.List.{concat}
use Rattle.std.specs.Str.{is_utf8, chars}
use Rattle.url.proofs.OnLiterals.{url_on_literals}
use Rattle.serde_json.proofs.OnLiterals.{serde_json_on_literals}
use Rattle.url.specs.declared.host.Host.TheVariants.{Domain}
use Rattle.url.specs.Parts.{Parts, serialize}
use Rattle.policy_csp_text.specs.declared.policy.Policy.{Policy}
use Rattle.value_requests.specs.declared.init.Init.{Init}
use Rattle.value_requests.specs.declared.mode.Credentials.TheVariants as credentials
use Rattle.value_requests.specs.declared.mode.Mode.TheVariants as mode
use Rattle.value_requests.specs.declared.mode.RedirectMode.TheVariants as redirect
use Rattle.value_requests.specs.declared.mode.ReferrerPolicy.TheVariants as policy
use Rattle.script_scenarios.specs.Scripts.{fetch, wait, no_steps, step}
use Rattle.script_scenarios.specs.declared.scenario.Scenario.{Scenario}
use Rattle.script_reading.specs.declared.place.Place.{Place}
use Rattle.script_scenarios.specs.declared.servers.Server.{Server}
use Rattle.script_generated.specs.Generated.{address_text, address, generated}
use Rattle.script_reading.specs.Scenarios.{scenario_of}
use Rattle.script_scenarios.specs.Servers.{answer}
use Rattle.script_reading.specs.Answers.{answer_bytes}

abbrev refused : List ℕ → Result Scenario Place
refused place = Err (record { text = place })

-- a text that is no tree, URLs of documents, the root, a key, and a document that is no object
pub computes-places : (scenario_of (codes "{\"format\":") ≡ refused (codes "json"))
    × (scenario_of (codes "{\"format\":1,\"documents\":[{\"url\":\"ftp://a/\",\"script\":[]}]}")
    ≡ refused (codes "/documents/0/url"))
    × (scenario_of (codes "{\"format\":1,\"documents\":[{\"url\":\"http://u@a.test/\",\"script\":[]}]}")
    ≡ refused (codes "/documents/0/url"))
    × (scenario_of (codes "{\"format\":1,\"documents\":[],\"extra\":0}") ≡ refused (codes "/"))
    × (scenario_of (codes "{\"servers\":[],\"format\":1.0}") ≡ refused (codes "/format"))
    × (scenario_of (codes "{\"format\":1,\"documents\":[0,0]}") ≡ refused (codes "/documents/0"))
unfolding url_on_literals serde_json_on_literals is_utf8 chars
computes-places = (refl, refl, refl, refl, refl, refl)

-- a list of n numbers and one more
abbrev zeros : ℕ → List ℕ
zeros n = codes "[0" ++ (concat (replicate n (codes ",0")) ++ codes "]")

-- the first format may have 64 documents and the second one 128; a longer list is refused before its items
pub computes-places-of-lists : (scenario_of (codes "{\"format\":1,\"documents\":" ++ zeros 64 ++ codes "}")
    ≡ refused (codes "/documents"))
    × (scenario_of (codes "{\"format\":1,\"documents\":" ++ zeros 63 ++ codes "}") ≡ refused (codes "/documents/0"))
    × (scenario_of (codes "{\"format\":2,\"documents\":" ++ zeros 64 ++ codes "}") ≡ refused (codes "/documents/0"))
    × (scenario_of (codes "{\"format\":2,\"documents\":" ++ zeros 128 ++ codes "}") ≡ refused (codes "/documents"))
unfolding url_on_literals serde_json_on_literals is_utf8 chars
computes-places-of-lists = (refl, refl, refl, refl)

-- what a fetch of this URL asks for, where the keys say no more than has to be said
abbrev plain : List ℕ → Init
plain url = get mode.SameOrigin false url

pub computes-whole : scenario_of
    (codes
    "{\"format\":1,\"servers\":[{\"origin\":\"https://a.test\",\"rules\":[{\"status\":200,\"body\":\"hi\"}]}],"
    ++ codes "\"documents\":[{\"url\":\"https://a.test/\",\"script\":"
    ++ codes "[{\"fetch\":{\"url\":\"/\",\"mode\":\"same-origin\",\"referrer\":\"none\"}}]}]}")
    ≡ Ok (record {
      now = 0;
      hosts = [];
      cookies = [];
      servers = record {
        origin = codes "https://a.test";
        rules =
            record { method = None; path = None; answer = codes "HTTP/1.1 200 Scripted\r\n\r\nhi" } ∷ [];
      } ∷ [];
      routes = [];
      piece = 4096;
      documents = record {
        url = page;
        top = page;
        policy = policy.StrictOriginWhenCrossOrigin;
        policies = [];
        script = step (fetch (plain (codes "/"))) no_steps;
      } ∷ [];
      body_limit = 262144;
    })
unfolding url_on_literals serde_json_on_literals is_utf8 chars
computes-whole = refl

-- a scenario with no document and these keys
abbrev with_keys : List ℕ → List ℕ
with_keys keys = codes "{\"format\":1," ++ keys ++ codes ",\"documents\":[]}"

-- the time and the known hosts
pub computes-places-of-hosts : (scenario_of (with_keys (codes "\"now\":1099511627777")) ≡ refused (codes "/now"))
    × (scenario_of (with_keys (codes "\"hsts\":[{\"host\":\"A.test\",\"subdomains\":true,\"until\":1}]"))
    ≡ refused (codes "/hsts/0/host"))
    × (scenario_of (with_keys (codes "\"hsts\":[{\"host\":\"a.test:80\",\"subdomains\":true,\"until\":1}]"))
    ≡ refused (codes "/hsts/0/host"))
    × (scenario_of (with_keys (codes "\"hsts\":[{\"host\":\"1.2\",\"subdomains\":true,\"until\":1}]"))
    ≡ refused (codes "/hsts/0/host"))
    × (scenario_of (with_keys (codes "\"hsts\":[{\"host\":\"x.localhost.\",\"subdomains\":true,\"until\":1}]"))
    ≡ refused (codes "/hsts/0/host"))
    × (scenario_of (with_keys (codes "\"hsts\":[{\"host\":\"a.test\",\"subdomains\":1,\"until\":1}]"))
    ≡ refused (codes "/hsts/0/subdomains"))
    × (scenario_of (with_keys (codes "\"hsts\":[{\"host\":\"a.test\",\"subdomains\":true}]"))
    ≡ refused (codes "/hsts/0/until"))
    × (scenario_of
    (with_keys (codes "\"hsts\":[{\"host\":\"a.test\",\"subdomains\":true,\"until\":281474976710656}]"))
    ≡ refused (codes "/hsts/0/until"))
unfolding url_on_literals serde_json_on_literals is_utf8 chars
computes-places-of-hosts = (refl, refl, refl, refl, refl, refl, refl, refl)

-- equal hosts stay in the list, with a last dot as without one
pub computes-hosts : scenario_of
    (codes
    "{\"now\":1099511627776,\"format\":1,\"hsts\":[{\"host\":\"a.test\",\"subdomains\":true,\"until\":10},"
    ++ codes "{\"host\":\"a.test.\",\"subdomains\":false,\"until\":0},"
    ++ codes "{\"host\":\"a.test\",\"subdomains\":false,\"until\":281474976710655}],"
    ++ codes "\"documents\":[{\"url\":\"http://a.test:8080/\",\"script\":[{\"wait\":10},{\"wait\":4294967295}]}]}")
    ≡ Ok (record {
      now = 1099511627776;
      hosts = record { host = codes "a.test"; subdomains = true; until = 10 }
          ∷ record { host = codes "a.test."; subdomains = false; until = 0 }
          ∷ record { host = codes "a.test"; subdomains = false; until = 281474976710655 } ∷ [];
      cookies = [];
      servers = [];
      routes = [];
      piece = 4096;
      documents = record {
        url = record page { scheme = codes "http"; port = Some 8080 };
        top = record page { scheme = codes "http"; port = Some 8080 };
        policy = policy.StrictOriginWhenCrossOrigin;
        policies = [];
        script = step (wait 10) (step (wait 4294967295) no_steps);
      } ∷ [];
      body_limit = 262144;
    })
unfolding url_on_literals serde_json_on_literals is_utf8 chars
computes-hosts = refl

-- a route to any text, and the places of those that are refused; they are read before the piece
pub computes-routes : (scenario_of
    (with_keys (codes "\"routes\":[[\"http://a.test\",\"127.0.0.1:80\"],[\"https://a.test:8443\",\"${\"]]"))
    ≡ Ok (record {
      now = 0;
      hosts = [];
      cookies = [];
      servers = [];
      routes = record { origin = codes "http://a.test"; address = codes "127.0.0.1:80" }
          ∷ record { origin = codes "https://a.test:8443"; address = codes "${" } ∷ [];
      piece = 4096;
      documents = [];
      body_limit = 262144;
    }))
    × (scenario_of (with_keys (codes "\"piece\":0,\"routes\":[[\"http://a.test/\",\"\"]]"))
    ≡ refused (codes "/routes/0/0"))
    × (scenario_of (with_keys (codes "\"routes\":[[\"http://a.test\",1]]")) ≡ refused (codes "/routes/0/1"))
    × (scenario_of (with_keys (codes "\"routes\":[[\"http://a.test\"]]")) ≡ refused (codes "/routes/0"))
unfolding url_on_literals serde_json_on_literals is_utf8 chars
computes-routes = (refl, refl, refl, refl)

-- two documents, in order
pub computes-two : scenario_of
    (codes "{\"format\":1,\"documents\":[{\"url\":\"https://a.test/\",\"script\":[]},"
    ++ codes "{\"url\":\"https://a.test:444/\",\"script\":[{\"wait\":2}]}]}")
    ≡ Ok (record {
      now = 0;
      hosts = [];
      cookies = [];
      servers = [];
      routes = [];
      piece = 4096;
      documents = record {
        url = page;
        top = page;
        policy = policy.StrictOriginWhenCrossOrigin;
        policies = [];
        script = no_steps;
      } ∷ record {
        url = record page { port = Some 444 };
        top = record page { port = Some 444 };
        policy = policy.StrictOriginWhenCrossOrigin;
        policies = [];
        script = step (wait 2) no_steps;
      } ∷ [];
      body_limit = 262144;
    })
unfolding url_on_literals serde_json_on_literals is_utf8 chars
computes-two = refl

-- two headers and a body
pub computes-answer_bytes : answer_bytes 200 (record { name = codes "A"; value = codes "1" }
    ∷ record { name = codes "B"; value = [] } ∷ []) (codes "hi")
    ≡ codes "HTTP/1.1 200 Scripted\r\nA: 1\r\nB: \r\n\r\nhi"
unfolding url_on_literals
computes-answer_bytes = refl

-- two servers of one origin: the first has a rule for one method, and one for one path
abbrev servers : List Server
servers =
    record {
      origin = codes "https://a.test";
      rules = record { method = Some (codes "PUT"); path = None; answer = codes "1" }
          ∷ record { method = None; path = Some (codes "/x"); answer = codes "2" } ∷ [];
    }
    ∷ record {
      origin = codes "https://a.test";
      rules = record { method = None; path = None; answer = codes "3" }
          ∷ [];
    } ∷ []

pub computes-answer : (answer servers (codes "https://a.test") (codes "PUT") (codes "/x") ≡ codes "1")
    × (answer servers (codes "https://a.test") (codes "GET") (codes "/x") ≡ codes "2")
    × (answer servers (codes "https://a.test") (codes "put") (codes "/") ≡ codes "HTTP/1.1 404 Scripted\r\n\r\n")
    × (answer servers (codes "https://b.test") (codes "PUT") (codes "/x") ≡ [])
computes-answer = (refl, refl, refl, refl)

-- a scenario with no document and one server of one rule
abbrev with_rule : List ℕ → List ℕ
with_rule rule = codes "{\"format\":1,\"servers\":[{\"origin\":\"https://a.test\",\"rules\":[" ++ rule
    ++ codes "]}],\"documents\":[]}"

-- an answer by its bytes has nothing beside it; one by its status needs it
pub computes-places-of-rules : (scenario_of (with_rule (codes "{\"raw\":\"x\",\"status\":200}"))
    ≡ refused (codes "/servers/0/rules/0"))
    × (scenario_of (with_rule (codes "{\"raw\":\"x\",\"headers\":[]}")) ≡ refused (codes "/servers/0/rules/0"))
    × (scenario_of (with_rule (codes "{\"raw\":\"x\",\"body\":\"\"}")) ≡ refused (codes "/servers/0/rules/0"))
    × (scenario_of (with_rule (codes "{\"raw\":1}")) ≡ refused (codes "/servers/0/rules/0/raw"))
    × (scenario_of (with_rule (codes "{\"body\":\"\"}")) ≡ refused (codes "/servers/0/rules/0/status"))
unfolding url_on_literals serde_json_on_literals is_utf8 chars
computes-places-of-rules = (refl, refl, refl, refl, refl)

pub computes-raw : scenario_of (with_rule (codes "{\"path\":\"/\",\"raw\":\"HTTP/1.1 302 \\r\\n\\r\\n\"}"))
    ≡ Ok (record {
      now = 0;
      hosts = [];
      cookies = [];
      servers = record {
        origin = codes "https://a.test";
        rules = record {
          method = None;
          path = Some (codes "/");
          answer = codes "HTTP/1.1 302 \r\n\r\n";
        } ∷ [];
      } ∷ [];
      routes = [];
      piece = 4096;
      documents = [];
      body_limit = 262144;
    })
unfolding url_on_literals serde_json_on_literals is_utf8 chars
computes-raw = refl

-- a document with these headers
abbrev with_headers : List ℕ → List ℕ
with_headers headers = codes "{\"format\":1,\"documents\":[{\"url\":\"https://a.test/\",\"headers\":" ++ headers
    ++ codes ",\"script\":[]}]}"

-- a policy of a directive without words
abbrev of_one : Bool → List ℕ → Policy
of_one enforced name = record { enforced = enforced; directives = record { name = name; words = [] } ∷ [] }

-- its policies are numbered in the order of the headers and of their commas, and the last known token tells its
-- referrer policy
pub computes-headers : scenario_of
    (with_headers
    (codes "[[\"Content-Security-Policy-Report-Only\",\"img-src\"],[\"Referrer-Policy\",\"origin, no-such\"],"
    ++ codes "[\"content-security-policy\",\"script-src,style-src\"],[\"X\",\"img-src\"]]"))
    ≡ Ok (record {
      now = 0;
      hosts = [];
      cookies = [];
      servers = [];
      routes = [];
      piece = 4096;
      documents = record {
        url = page;
        top = page;
        policy = policy.Origin;
        policies =
            of_one false (codes "img-src") ∷ of_one true (codes "script-src") ∷ of_one true (codes "style-src") ∷ [];
        script = no_steps;
      } ∷ [];
      body_limit = 262144;
    })
unfolding url_on_literals serde_json_on_literals is_utf8 chars
computes-headers = refl

-- 17 policies are too many
pub computes-places-of-headers : (scenario_of
    (with_headers (codes "[[\"Content-Security-Policy\",\"a,a,a,a,a,a,a,a,a,a,a,a,a,a,a,a,a\"]]"))
    ≡ refused (codes "/documents/0/headers"))
    × (scenario_of (with_headers (codes "[[\"A\",\"1\"],[\"A B\",\"1\"]]"))
    ≡ refused (codes "/documents/0/headers/1/0"))
unfolding url_on_literals serde_json_on_literals is_utf8 chars
computes-places-of-headers = (refl, refl)

-- a scenario of one document of this URL, with these keys beside it, and the root's keys before that
abbrev of_document : List ℕ → List ℕ → List ℕ
of_document root keys = codes "{" ++ (root ++ (codes ",\"documents\":[{\"url\":\"https://a.test/\"," ++ (keys
    ++ codes "\"script\":[]}]}")))

-- such a scenario, with what is read of it
abbrev embedded : Parts → ℕ → Scenario
embedded top limit = record {
  now = 0;
  hosts = [];
  cookies = [];
  servers = [];
  routes = [];
  piece = 4096;
  documents = record {
    url = page;
    top = top;
    policy = policy.StrictOriginWhenCrossOrigin;
    policies = [];
    script = no_steps;
  } ∷ [];
  body_limit = limit;
}

-- the further keys of the second format, there and in the first one; 2.0 is no number of a format
pub computes-formats : (scenario_of (of_document (codes "\"format\":2") (codes "\"top\":\"https://b.test/\","))
    ≡ Ok (embedded (record page { host = Some (Domain (codes "b.test")) }) 1048576))
    × (scenario_of (of_document (codes "\"format\":2,\"body_limit\":1") []) ≡ Ok (embedded page 1))
    × (scenario_of (of_document (codes "\"format\":1") []) ≡ Ok (embedded page 262144))
    × (scenario_of (of_document (codes "\"format\":1,\"body_limit\":1") []) ≡ refused (codes "/"))
    × (scenario_of (of_document (codes "\"format\":1") (codes "\"top\":0,")) ≡ refused (codes "/documents/0"))
    × (scenario_of (of_document (codes "\"format\":2,\"body_limit\":0") (codes "\"top\":0,"))
    ≡ refused (codes "/body_limit"))
    × (scenario_of (of_document (codes "\"format\":2") (codes "\"top\":\"data:,\","))
    ≡ refused (codes "/documents/0/top"))
    × (scenario_of (of_document (codes "\"format\":2.0") []) ≡ refused (codes "/format"))
    × (scenario_of (of_document (codes "\"format\":3") []) ≡ refused (codes "/format"))
unfolding url_on_literals serde_json_on_literals is_utf8 chars
computes-formats = (refl, refl, refl, refl, refl, refl, refl, refl, refl)

-- the generated scenario of one document is what this text is read as
pub computes-generated : scenario_of
    (codes "{\"format\":1,\"servers\":[{\"origin\":\"http://api.test\",\"rules\":["
    ++ codes "{\"method\":\"OPTIONS\",\"status\":200,\"headers\":[[\"Access-Control-Allow-Origin\",\"*\"],"
    ++ codes "[\"Access-Control-Allow-Methods\",\"PUT\"]]},"
    ++ codes "{\"status\":200,\"headers\":[[\"Access-Control-Allow-Origin\",\"*\"]]}]}],"
    ++ codes "\"documents\":[{\"url\":\"http://d0.test/\",\"script\":[{\"repeat\":200,\"do\":"
    ++ codes "[{\"fetch\":{\"url\":\"http://api.test/x\",\"method\":\"PUT\"}},{\"wait\":1}]}]}]}")
    ≡ Ok (generated 1)
unfolding url_on_literals serde_json_on_literals is_utf8 chars
computes-generated = refl

-- the URLs of its documents as they are printed
pub computes-addresses : (serialize (address 0) ≡ codes "http://d0.test/")
    × (serialize (address 63) ≡ codes "http://d63.test/")
    × (address_text 63 ≡ codes "http://d63.test/")
unfolding url_on_literals
computes-addresses = (refl, refl, refl)
