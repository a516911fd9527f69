-- The scenario of a text: the tables of a scenario's objects over the tree that `serde_json` reads.
-- The keys of a table are listed and read in one order.
use Rattle.std.specs.Prelude.{Bool, true, false, nat_le, List, [], ◌∷◌, length, codes, Option, Some, None}
use Rattle.std.specs.Prelude.{option_and_then, Result, Ok, Err}
use Rattle.value_requests.specs.declared.mode.ReferrerPolicy.TheVariants as policy
use Rattle.script_reading.specs.Words.{Cookie, Data, Document, KnownHost, Pair, Policy, Read, ReferrerPolicy, Route}
use Rattle.script_reading.specs.Words.{Rule, Scenario, Server, Text, any, document_script_of, given, has_key}
use Rattle.script_reading.specs.Words.{is_cookie_value, is_header_value, is_host_name, is_origin_text, is_token}
use Rattle.script_reading.specs.Words.{items_of, list_of, number_of, only_keys, optional, pair_of, read, required}
use Rattle.script_reading.specs.Words.{some_of, text_that, truth_of, utf8_text, ◌>>=◌}
use Rattle.script_reading.specs.declared.place.Place.{Place}
use Rattle.script_reading.specs.declared.format.Format.{Format}
use Rattle.script_reading.specs.Formats.{format_of, number_of_format, root_keys, body_limit_of, most_documents}
use Rattle.script_reading.specs.Formats.{document_keys, top_of}
use Rattle.script_reading.specs.Headers.{policies_of_headers, policy_of_headers}
use Rattle.script_reading.specs.Answers.{answer_bytes}
use Rattle.script_reading.specs.Urls.{document_url_of}

-- ---- known hosts

abbrev pub host_keys : List Text
host_keys = codes "host" ∷ codes "subdomains" ∷ codes "until" ∷ []

-- a known host: its domain, whether the names under it are known, and the second in which its term ends
abbrev pub host_of : Data → Read KnownHost
host_of tree = do
  known ← only_keys host_keys tree
  host ← required (codes "host") (text_that is_host_name) tree
  subdomains ← required (codes "subdomains") truth_of tree
  until ← required (codes "until") (number_of 0 281474976710655) tree
  Ok (record { host = host; subdomains = subdomains; until = until })

-- ---- cookies, routes and servers

-- a serialized origin, and the value of the Cookie header that goes to it
abbrev pub cookie_of : Data → Read Cookie
cookie_of tree = do
  pair ← pair_of (text_that is_origin_text) (text_that is_cookie_value) tree
  Ok (record { origin = pair.0; value = pair.1 })

-- a serialized origin, and the address at which its server listens, which may be any text
abbrev pub route_of : Data → Read Route
route_of tree = do
  pair ← pair_of (text_that is_origin_text) (text_that any) tree
  Ok (record { origin = pair.0; address = pair.1 })

-- a header: its name and its value
abbrev pub plain_header_of : Data → Read Pair
plain_header_of tree = do
  pair ← pair_of (text_that is_token) (text_that is_header_value) tree
  Ok (record { name = pair.0; value = pair.1 })

-- an answer by its bytes, or by its status, headers and body
abbrev pub raw_keys : List Text
raw_keys = codes "method" ∷ codes "path" ∷ codes "raw" ∷ []

abbrev pub status_keys : List Text
status_keys = codes "method" ∷ codes "path" ∷ codes "status" ∷ codes "headers" ∷ codes "body" ∷ []

-- the keys of a rule: one with `raw` has no key of an answer beside it
abbrev pub rule_keys : Bool → List Text
rule_keys true = raw_keys
rule_keys false = status_keys

-- the bytes of an answer with a status from 100 to 999
abbrev pub status_answer_of : Data → Read Text
status_answer_of tree = do
  status ← required (codes "status") (number_of 100 999) tree
  headers ← optional (codes "headers") [] (items_of plain_header_of) tree
  body ← optional (codes "body") [] (text_that any) tree
  Ok (answer_bytes status headers body)

-- the bytes of an answer: as they are written, or by its status
abbrev pub answer_of : Bool → Data → Read Text
answer_of true tree = required (codes "raw") (text_that any) tree
answer_of false tree = status_answer_of tree

-- which requests a rule is for, and the bytes of its answer
abbrev pub rule_of : Data → Read Rule
rule_of tree = do
  known ← only_keys (rule_keys (has_key (codes "raw") tree)) tree
  method ← optional (codes "method") None (some_of (text_that is_token)) tree
  path ← optional (codes "path") None (some_of (text_that any)) tree
  answer ← answer_of (has_key (codes "raw") tree) tree
  Ok (record { method = method; path = path; answer = answer })

abbrev pub server_keys : List Text
server_keys = codes "origin" ∷ codes "rules" ∷ []

-- a server: its origin and its rules
abbrev pub server_of : Data → Read Server
server_of tree = do
  known ← only_keys server_keys tree
  origin ← required (codes "origin") (text_that is_origin_text) tree
  rules ← required (codes "rules") (items_of rule_of) tree
  Ok (record { origin = origin; rules = rules })

-- ---- documents

-- what the headers of a document say: its referrer policy, and its policies, which are at most 16
abbrev pub said_of : Data → Read (ReferrerPolicy × List Policy)
said_of tree = do
  headers ← items_of plain_header_of tree
  given (nat_le (length (policies_of_headers headers)) 16) (policy_of_headers headers, policies_of_headers headers)

-- a document: its URL and that of the page at the top, what its headers say, and its script
abbrev pub document_of : Format → Data → Read Document
document_of format tree = do
  known ← only_keys (document_keys format) tree
  url ← required (codes "url") document_url_of tree
  top ← top_of format url tree
  said ← optional (codes "headers") (policy.StrictOriginWhenCrossOrigin, []) said_of tree
  script ← required (codes "script") document_script_of tree
  Ok (record {
    url = url;
    top = top;
    policy = said.0;
    policies = said.1;
    script = script;
  })

-- ---- the whole

-- a scenario of a format, with as many documents at most as the format allows
abbrev pub scenario_as : Format → Data → Read Scenario
scenario_as format tree = do
  known ← only_keys (root_keys format) tree
  version ← required (codes "format") (number_of (number_of_format format) (number_of_format format)) tree
  body_limit ← body_limit_of format tree
  now ← optional (codes "now") 0 (number_of 0 1099511627776) tree
  hosts ← optional (codes "hsts") [] (list_of 4096 host_of) tree
  cookies ← optional (codes "cookies") [] (items_of cookie_of) tree
  servers ← optional (codes "servers") [] (items_of server_of) tree
  routes ← optional (codes "routes") [] (items_of route_of) tree
  piece ← optional (codes "piece") 4096 (number_of 1 65536) tree
  documents ← required (codes "documents") (list_of (most_documents format) (document_of format)) tree
  Ok (record {
    now = now;
    hosts = hosts;
    cookies = cookies;
    servers = servers;
    routes = routes;
    piece = piece;
    documents = documents;
    body_limit = body_limit;
  })

-- a scenario, in the format that its root names
abbrev pub scenario_in : Data → Read Scenario
scenario_in tree = scenario_as (format_of tree) tree

-- a place as it is told: that of the root is `/`
abbrev pub place_text : Text → Text
place_text [] = codes "/"
place_text (byte ∷ place) = byte ∷ place

-- what a tree is read as, with the place as it is told
abbrev pub told : Read Scenario → Result Scenario Place
told (Ok scenario) = Ok scenario
told (Err place) = Err (record { text = place_text place })

-- the scenario of a text's tree, where it has one
abbrev pub scenario_of_tree : Option Data → Result Scenario Place
scenario_of_tree None = Err (record { text = codes "json" })
scenario_of_tree (Some tree) = told (scenario_in tree)

-- the tree of a text, unless it is not UTF-8, not JSON, too deep, or has a number that is too large
abbrev pub tree_of : Text → Option Data
tree_of text = option_and_then read (utf8_text text)

-- the scenario of a text, or the place at which it is refused
abbrev pub scenario_of : Text → Result Scenario Place
scenario_of text = scenario_of_tree (tree_of text)
