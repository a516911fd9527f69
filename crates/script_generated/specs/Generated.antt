-- The scenario of `fetchplay gen N`: documents that each have a key of their own, and ask one server for the same again
-- and again (this project's own).
use Rattle.std.specs.Prelude.{ℕ, true, false, [], ◌∷◌, ◌++◌, map, codes, decimal, Some, None}
use Rattle.value_requests.specs.declared.mode.Credentials.TheVariants as credentials
use Rattle.value_requests.specs.declared.mode.Mode.TheVariants as mode
use Rattle.value_requests.specs.declared.mode.RedirectMode.TheVariants as redirect
use Rattle.value_requests.specs.declared.mode.ReferrerPolicy.TheVariants as policy
use Rattle.script_reading.specs.Words.{Document, Domain, Init, Pair, Parts, Rule, Scenario, Server, Steps, Text, fetch}
use Rattle.script_reading.specs.Words.{no_steps, range_with_len, repeat, step, wait}
use Rattle.script_reading.specs.Answers.{answer_bytes}

-- ---- the server

-- the header that allows every origin to read a response
abbrev pub any_origin : Pair
any_origin = record { name = codes "Access-Control-Allow-Origin"; value = codes "*" }

-- the header of a preflight's response that allows the method PUT
abbrev pub put_is_allowed : Pair
put_is_allowed = record { name = codes "Access-Control-Allow-Methods"; value = codes "PUT" }

-- a preflight is allowed
abbrev pub preflight_rule : Rule
preflight_rule =
    record {
      method = Some (codes "OPTIONS");
      path = None;
      answer = answer_bytes 200 (any_origin ∷ put_is_allowed ∷ []) [];
    }

-- any other request is allowed too
abbrev pub other_rule : Rule
other_rule = record { method = None; path = None; answer = answer_bytes 200 (any_origin ∷ []) [] }

abbrev pub api_server : Server
api_server = record { origin = codes "http://api.test"; rules = preflight_rule ∷ other_rule ∷ [] }

-- ---- the script

-- what `{"url":"http://api.test/x","method":"PUT"}` asks for: what no key says is as `fetch` has it by itself
abbrev pub put_request : Init
put_request =
    record {
      url = codes "http://api.test/x";
      method = codes "PUT";
      mode = mode.Cors;
      credentials = credentials.SameOrigin;
      redirect = redirect.Follow;
      headers = [];
      body = None;
      client_referrer = true;
      referrer_policy = policy.Empty;
      integrity = [];
      upload = false;
    }

-- `{"repeat":200,"do":[{"fetch":{"url":"http://api.test/x","method":"PUT"}},{"wait":1}]}`
abbrev pub put_script : Steps
put_script = step (repeat 200 (step (fetch put_request) (step (wait 1) no_steps))) no_steps

-- ---- the documents

-- the text `http://dI.test/`, with I in decimal
abbrev pub address_text : ℕ → Text
address_text i = codes "http://d" ++ (decimal i ++ codes ".test/")

-- the URL that it gives
abbrev pub address : ℕ → Parts
address i =
    record {
      scheme = codes "http";
      username = [];
      password = [];
      host = Some (Domain (codes "d" ++ (decimal i ++ codes ".test")));
      port = None;
      path = codes "/";
      query = None;
      fragment = None;
    }

-- the document with this number, which is in no other page
abbrev pub generated_document : ℕ → Document
generated_document i =
    record {
      url = address i;
      top = address i;
      policy = policy.StrictOriginWhenCrossOrigin;
      policies = [];
      script = put_script;
    }

-- n documents, numbered from 0; pieces and bodies are bounded as in a scenario of the first format that gives no bounds
abbrev pub generated : ℕ → Scenario
generated n =
    record {
      now = 0;
      hosts = [];
      cookies = [];
      servers = api_server ∷ [];
      routes = [];
      piece = 4096;
      documents = map generated_document (range_with_len 0 n);
      body_limit = 262144;
    }
