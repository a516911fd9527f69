-- Scripts of texts, computed on examples by the definitions alone.
use Rattle.rows_definitions.proofs.Shared.{get}
use Rattle.std.proofs.Common.{◌≡◌, ℕ, zero, suc, List, [], ◌∷◌, ◌++◌, codes, refl, Option, Some, None, Ok, Err}
use Rattle.std.specs.Prelude.{option_map, true, false}
use Rattle.std.specs.Fmt.{digits}
use Rattle.std.specs.Str.{is_utf8, chars}
use Rattle.serde_json.proofs.OnLiterals.{serde_json_on_literals}
use Rattle.serde_json.specs.Read.{read}
use Rattle.value_requests.specs.declared.init.CrossOrigin.TheVariants as crossorigin
use Rattle.value_requests.specs.declared.init.Init.{Init}
use Rattle.value_requests.specs.declared.mode.Credentials.TheVariants as credentials
use Rattle.value_requests.specs.declared.mode.Mode.TheVariants as mode
use Rattle.value_requests.specs.declared.mode.RedirectMode.TheVariants as redirect
use Rattle.value_requests.specs.declared.mode.ReferrerPolicy.TheVariants as policy
use Rattle.value_requests.specs.declared.policy.Destination.TheVariants as destination
use Rattle.script_scenarios.specs.declared.command.Test.TheVariants.{IsError, TypeIs, StatusIs}
use Rattle.script_scenarios.specs.Scripts.{fetch, load, wait, repeat, choose, Steps, no_steps, step}
use Rattle.value_json.specs.Reading.{Read}
use Rattle.script_steps.specs.Scripts.{document_script_of}

-- the script of a text
abbrev of_text : List ℕ → Option (Read Steps)
of_text text = option_map document_script_of (read text)

abbrev refused : List ℕ → Option (Read Steps)
refused place = Some (Err place)

-- what a fetch of this URL asks for, where no key says more
abbrev plain : List ℕ → Init
plain url = get mode.Cors true url

-- where there is a template, and where `${` is plain text
pub computes-places-of-fetches :
    (of_text (codes "[{\"fetch\":{\"url\":\"/${bod}\"}}]") ≡ refused (codes "/0/fetch/url"))
    × (of_text (codes "[{\"fetch\":{\"url\":\"/${\"}}]") ≡ refused (codes "/0/fetch/url"))
    × (of_text (codes "[{\"fetch\":{\"url\":\"/\",\"mode\":\"websocket\"}}]") ≡ refused (codes "/0/fetch/mode"))
    × (of_text (codes "[{\"fetch\":{\"url\":\"/\",\"headers\":[[\"${\",\"${header:A B}\"]]}}]")
    ≡ refused (codes "/0/fetch/headers/0/1"))
    × (of_text (codes "[{\"fetch\":{\"url\":\"/\",\"headers\":[[\"A\"]]}}]") ≡ refused (codes "/0/fetch/headers/0"))
    × (of_text (codes "[{\"fetch\":{\"url\":\"/${url}${header:A}\",\"method\":\"${\",\"integrity\":\"${\"}}]")
    ≡ Some (Ok (step (fetch (record (plain (codes "/${url}${header:A}")) {
      method = codes "${";
      integrity = codes "${";
    })) no_steps)))
unfolding serde_json_on_literals is_utf8 chars digits
computes-places-of-fetches = (refl, refl, refl, refl, refl, refl)

-- what each key of a fetch says
pub computes-fetch : of_text
    (codes "[{\"fetch\":{\"url\":\"/\",\"method\":\"PUT\",\"mode\":\"no-cors\",\"credentials\":\"omit\","
    ++ (codes "\"redirect\":\"manual\",\"headers\":[[\"X-A\",\"1\"]],\"body\":\"q\",\"referrer\":\"none\","
    ++ codes "\"referrer_policy\":\"unsafe-url\",\"integrity\":\"sha256-\",\"upload\":true}}]"))
    ≡ Some (Ok (step (fetch (record {
      url = codes "/";
      method = codes "PUT";
      mode = mode.NoCors;
      credentials = credentials.Omit;
      redirect = redirect.Manual;
      headers = record { name = codes "X-A"; value = codes "1" } ∷ [];
      body = Some (codes "q");
      client_referrer = false;
      referrer_policy = policy.UnsafeUrl;
      integrity = codes "sha256-";
      upload = true;
    })) no_steps))
unfolding serde_json_on_literals is_utf8 chars digits
computes-fetch = refl

-- a load by itself, one of each key, and kinds that are none
pub computes-loads : (of_text (codes "[{\"load\":{\"kind\":\"image\",\"url\":\"/\"}}]")
    ≡ Some (Ok (step (load (record {
      kind = destination.Image;
      url = codes "/";
      crossorigin = crossorigin.Absent;
      nonce = [];
      integrity = [];
      parser = true;
      referrer_policy = policy.Empty;
    })) no_steps)))
    × (of_text
    (codes "[{\"load\":{\"kind\":\"script\",\"url\":\"/${body}\",\"crossorigin\":\"use-credentials\","
    ++ codes "\"nonce\":\"n\",\"integrity\":\"i\",\"parser\":false,\"referrer_policy\":\"origin\"}}]")
    ≡ Some (Ok (step (load (record {
      kind = destination.Script;
      url = codes "/${body}";
      crossorigin = crossorigin.UseCredentials;
      nonce = codes "n";
      integrity = codes "i";
      parser = false;
      referrer_policy = policy.Origin;
    })) no_steps)))
    × (of_text (codes "[{\"load\":{\"url\":\"/\"}}]") ≡ refused (codes "/0/load/kind"))
    × (of_text (codes "[{\"load\":{\"kind\":\"fetch\",\"url\":\"/\"}}]") ≡ refused (codes "/0/load/kind"))
unfolding serde_json_on_literals is_utf8 chars digits
computes-loads = (refl, refl, refl, refl)

-- commands that no key or more than one tells, and values that are not taken
pub computes-places-of-commands : (of_text (codes "{}") ≡ refused [])
    × (of_text (codes "[{\"wait\":-1}]") ≡ refused (codes "/0/wait"))
    × (of_text (codes "[{\"wait\":1},{\"wait\":4294967296}]") ≡ refused (codes "/1/wait"))
    × (of_text (codes "[{\"then\":[]}]") ≡ refused (codes "/0"))
    × (of_text (codes "[{\"wait\":0,\"fetch\":0}]") ≡ refused (codes "/0"))
    × (of_text (codes "[{\"repeat\":1,\"then\":[]}]") ≡ refused (codes "/0"))
    × (of_text (codes "[{\"repeat\":1001,\"do\":0}]") ≡ refused (codes "/0/repeat"))
    × (of_text (codes "[{\"repeat\":1}]") ≡ refused (codes "/0/do"))
unfolding serde_json_on_literals is_utf8 chars digits
computes-places-of-commands = (refl, refl, refl, refl, refl, refl, refl, refl)

-- an `if` with this condition
abbrev with_condition : List ℕ → List ℕ
with_condition condition = codes "[{\"if\":" ++ (condition ++ codes ",\"then\":[],\"else\":[]}]")

-- conditions of a wrong length, of no word, and with a bad second part
pub computes-places-of-conditions : (of_text (with_condition (codes "0")) ≡ refused (codes "/0/if"))
    × (of_text (with_condition (codes "[\"nope\",0,0]")) ≡ refused (codes "/0/if"))
    × (of_text (with_condition (codes "[\"nope\",\"x\"]")) ≡ refused (codes "/0/if/0"))
    × (of_text (with_condition (codes "[\"type\"]")) ≡ refused (codes "/0/if"))
    × (of_text (with_condition (codes "[\"ok\",\"x\"]")) ≡ refused (codes "/0/if"))
    × (of_text (with_condition (codes "[\"status\",1000]")) ≡ refused (codes "/0/if/1"))
    × (of_text (with_condition (codes "[\"body\",0]")) ≡ refused (codes "/0/if/1"))
unfolding serde_json_on_literals is_utf8 chars digits
computes-places-of-conditions = (refl, refl, refl, refl, refl, refl, refl)

-- scripts inside commands
pub computes-inside : of_text
    (codes "[{\"repeat\":2,\"do\":[{\"if\":[\"type\",\"basic\"],\"then\":[{\"wait\":1}]}]},"
    ++ (codes "{\"if\":[\"error\"],\"then\":[],\"else\":[{\"wait\":2},{\"wait\":3}]},"
    ++ codes "{\"if\":[\"status\",999],\"then\":[],\"else\":[]}]"))
    ≡ Some (Ok
    (step (repeat 2 (step (choose (TypeIs (codes "basic")) (step (wait 1) no_steps) no_steps) no_steps))
    (step (choose IsError no_steps (step (wait 2) (step (wait 3) no_steps)))
    (step (choose (StatusIs 999) no_steps no_steps) no_steps))))
unfolding serde_json_on_literals is_utf8 chars digits
computes-inside = refl

-- a text a number of times
abbrev times : ℕ → List ℕ → List ℕ
times zero text = []
times (suc n) text = text ++ times n text

-- a number of commands inside each other
abbrev nested : ℕ → List ℕ → List ℕ
nested n begin = codes "[" ++ (times n begin ++ (times n (codes "]}") ++ codes "]"))

-- a `repeat` inside eight others, and an `if` inside 16 others, are refused before what they hold is read
pub computes-depths : (of_text (nested 9 (codes "{\"repeat\":1,\"do\":["))
    ≡ refused (times 8 (codes "/0/do") ++ codes "/0/repeat"))
    × (of_text (nested 17 (codes "{\"if\":[\"ok\"],\"then\":["))
    ≡ refused (times 16 (codes "/0/then") ++ codes "/0/if"))
unfolding serde_json_on_literals is_utf8 chars digits
computes-depths = (refl, refl)
