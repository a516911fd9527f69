-- Every scenario that is read is valid.
use Rattle.std.proofs.Common.{◌≡◌, ℕ, ◌≤◌, Bool, false, List, [], ◌∷◌, length, Option, Some, None, Ok, refl}
use Rattle.std.proofs.Common.{subst, arith}
use Rattle.std.specs.Prelude.{nat_le, codes, IfSome, IsTrue}
use Rattle.std.specs.List.{All}
use Rattle.std.proofs.lemmas.Bool.{leb-true}
use Rattle.std.proofs.lemmas.List.Elements.{All-nil}
use Rattle.serde_json.specs.Data.{Data}
use Rattle.serde_json.specs.Find.{get, as_str}
use Rattle.url.proofs.OnLiterals.{url_on_literals}
use Rattle.url.specs.Parts.{Parts}
use Rattle.value_text.specs.Tokens.{is_token}
use Rattle.policy_csp_text.specs.declared.policy.Policy.{Policy}
use Rattle.value_requests.specs.declared.mode.ReferrerPolicy.{ReferrerPolicy}
use Rattle.value_requests.specs.declared.mode.ReferrerPolicy.TheVariants as policy
use Rattle.value_requests.specs.ReferrerPolicies.{policy_of_header}
use Rattle.value_requests.specs.Requests.{is_policy}
use Rattle.value_requests.specs.Urls.{url_of_text}
use Rattle.script_scenarios.specs.ValidScripts.{IsValidScript}
use Rattle.value_json.specs.Reading.{Read, present, any, has_key, only_keys, optional, found_or, number_of}
use Rattle.value_json.specs.Reading.{truth_of}
use Rattle.value_json.specs.Reading.{text_that, some_of, items_of, list_of}
use Rattle.value_json.proofs.KeepsLemmas.{Keeps, Anything, keeps-anything, keeps-after, keeps-then, keeps-under}
use Rattle.value_json.proofs.KeepsLemmas.{keeps-found_or, keeps-given, keeps-required, keeps-optional, IsListOf}
use Rattle.value_json.proofs.KeepsLemmas.{keeps-items, keeps-list, Within, keeps-number, keeps-text_that}
use Rattle.value_json.proofs.KeepsLemmas.{keeps-some}
use Rattle.value_json.proofs.KeepsLemmas.{keeps-parts}
use Rattle.script_steps.specs.Scripts.{document_script_of}
use Rattle.script_steps.proofs.ValidLemmas.{keeps-document_script}
use Rattle.script_reading.specs.declared.format.Format.{Format}
use Rattle.script_reading.specs.declared.format.Format.TheVariants.{First, Second}
use Rattle.script_scenarios.specs.declared.document.Document.{Document}
use Rattle.script_scenarios.specs.declared.scenario.Scenario.{Scenario}
use Rattle.script_reading.specs.Formats.{root_keys, body_limit_of, document_keys, top_of, most_documents}
use Rattle.value_requests.specs.HostNames.{is_host_name}
use Rattle.script_scenarios.specs.Texts.{is_cookie_value}
use Rattle.value_requests.specs.OriginTexts.{is_origin_text}
use Rattle.script_scenarios.specs.Urls.{is_document_url}
use Rattle.script_reading.specs.Urls.{document_url_of}
use Rattle.script_reading.specs.Headers.{listed, policies_of_headers, policy_or_default}
use Rattle.script_reading.specs.Scenarios.{host_keys, host_of, cookie_of, route_of, plain_header_of, answer_of}
use Rattle.script_reading.specs.Scenarios.{rule_keys}
use Rattle.script_reading.specs.Scenarios.{rule_of, server_keys, server_of, said_of, document_of, scenario_as}
use Rattle.script_scenarios.specs.Valid.{IsValidHost, IsValidCookie, IsValidRoute, IsValidRule, IsValidServer}
use Rattle.script_scenarios.specs.Valid.{IsValidDocument}
use Rattle.script_scenarios.specs.Valid.{IsValid}

-- the text passes a test
abbrev That : (List ℕ → Bool) → List ℕ → Type 0
That passes text = IsTrue (passes text)

-- ---- known hosts

-- no text is not a host's name
empty-no_name : is_host_name [] ≡ false
unfolding url_on_literals
empty-no_name = refl

some-name : (host : List ℕ) → IsTrue (is_host_name host) → 1 ≤ length host
some-name [] is = let no : ⊥ = cc (is, empty-no_name) in absurd no
some-name (byte ∷ host) is = omega arith

keeps-host : (tree : Data) → Keeps IsValidHost (host_of tree)
keeps-host tree =
    keeps-after IsValidHost (only_keys host_keys tree) _ (λ _.
    keeps-required (That is_host_name) IsValidHost (codes "host") (text_that is_host_name) tree _
    (keeps-text_that is_host_name) (λ host is.
    keeps-required Anything IsValidHost (codes "subdomains") truth_of tree _
    (λ inside. keeps-anything (truth_of inside)) (λ subdomains _.
    keeps-required (Within 0 281474976710655) IsValidHost (codes "until") (number_of 0 281474976710655) tree _
    (keeps-number 0 281474976710655) (λ until within.
    record { host = is; some_host = some-name host is; until = within.1 }))))

-- ---- cookies, routes and servers

keeps-cookie : (tree : Data) → Keeps IsValidCookie (cookie_of tree)
keeps-cookie tree =
    keeps-parts (That is_origin_text) (That is_cookie_value) IsValidCookie (text_that is_origin_text)
    (text_that is_cookie_value) tree _
    (keeps-text_that is_origin_text) (keeps-text_that is_cookie_value)
    (λ origin value is holds. record { origin = is; value = holds })

keeps-route : (tree : Data) → Keeps IsValidRoute (route_of tree)
keeps-route tree =
    keeps-parts (That is_origin_text) (That any) IsValidRoute (text_that is_origin_text) (text_that any) tree _
    (keeps-text_that is_origin_text) (keeps-text_that any)
    (λ origin address is _. record { origin = is })

-- the method, where there is one, is a token
abbrev IsToken : Option (List ℕ) → Type 0
IsToken method = IfSome method (That is_token)

keeps-rule : (tree : Data) → Keeps IsValidRule (rule_of tree)
keeps-rule tree =
    keeps-after IsValidRule (only_keys (rule_keys (has_key (codes "raw") tree)) tree) _ (λ _.
    keeps-optional IsToken IsValidRule (codes "method") None (some_of (text_that is_token)) tree _ tt
    (keeps-some (That is_token) (text_that is_token) (keeps-text_that is_token)) (λ method is.
    keeps-after IsValidRule (optional (codes "path") None (some_of (text_that any)) tree) _ (λ path.
    keeps-after IsValidRule (answer_of (has_key (codes "raw") tree) tree) _ (λ answer.
    record { method = is }))))

keeps-server : (tree : Data) → Keeps IsValidServer (server_of tree)
keeps-server tree =
    keeps-after IsValidServer (only_keys server_keys tree) _ (λ _.
    keeps-required (That is_origin_text) IsValidServer (codes "origin") (text_that is_origin_text) tree _
    (keeps-text_that is_origin_text) (λ origin is.
    keeps-required (λ rules. All IsValidRule rules) IsValidServer (codes "rules") (items_of rule_of) tree _
    (keeps-items IsValidRule rule_of keeps-rule) (λ rules each.
    record { origin = is; rules = each })))

-- ---- documents

keeps-document_url : (tree : Data) → Keeps (λ url. IsTrue (is_document_url url)) (document_url_of tree)
keeps-document_url tree =
    keeps-after (λ url. IsTrue (is_document_url url)) (present (as_str tree)) _ (λ text.
    keeps-after (λ url. IsTrue (is_document_url url)) (present (url_of_text None (Some text))) _ (λ url.
    keeps-given (λ (u : Parts). IsTrue (is_document_url u)) (is_document_url url) url (λ holds. holds)))

-- a referrer policy that is not empty, and at most 16 policies
abbrev IsSaid : ReferrerPolicy × List Policy → Type 0
IsSaid said = IsTrue (is_policy said.0) × (length said.1 ≤ 16)

-- a default in the place of the empty policy
never-empty : (named : ReferrerPolicy) → IsTrue (is_policy (policy_or_default named))
never-empty policy.Empty = refl
never-empty policy.NoReferrer = refl
never-empty policy.NoReferrerWhenDowngrade = refl
never-empty policy.SameOrigin = refl
never-empty policy.Origin = refl
never-empty policy.StrictOrigin = refl
never-empty policy.OriginWhenCrossOrigin = refl
never-empty policy.StrictOriginWhenCrossOrigin = refl
never-empty policy.UnsafeUrl = refl

keeps-said : (tree : Data) → Keeps IsSaid (said_of tree)
keeps-said tree =
    keeps-after IsSaid (items_of plain_header_of tree) _ (λ headers.
    keeps-given IsSaid (nat_le (length (policies_of_headers headers)) 16) _
    (λ few. (never-empty (policy_of_header (listed headers)), leb-true (length (policies_of_headers headers)) 16 few)))

-- the URL may be that of a document
abbrev IsDocumentUrl : Parts → Type 0
IsDocumentUrl url = IsTrue (is_document_url url)

keeps-top : (format : Format) (url : Parts) → IsDocumentUrl url → (tree : Data)
    → Keeps IsDocumentUrl (top_of format url tree)
keeps-top First url is tree = is
keeps-top Second url is tree =
    keeps-under IsDocumentUrl (codes "top") (found_or (Ok url) document_url_of (get (codes "top") tree))
    (keeps-found_or IsDocumentUrl (Ok url) document_url_of (get (codes "top") tree) is keeps-document_url)

keeps-document : (format : Format) (tree : Data) → Keeps IsValidDocument (document_of format tree)
keeps-document format tree =
    keeps-after IsValidDocument (only_keys (document_keys format) tree) _ (λ _.
    keeps-required IsDocumentUrl IsValidDocument (codes "url") document_url_of tree _ keeps-document_url (λ url is.
    keeps-then IsDocumentUrl IsValidDocument (top_of format url tree) _ (keeps-top format url is tree) (λ top above.
    keeps-optional IsSaid IsValidDocument (codes "headers") (policy.StrictOriginWhenCrossOrigin, []) said_of tree _
    (refl, omega arith) keeps-said (λ said holds.
    keeps-required IsValidScript IsValidDocument (codes "script") document_script_of tree _ keeps-document_script
    (λ script good.
    record { url = is; top = above; policy = holds.0; few_policies = holds.1; script = good })))))

-- ---- the whole

keeps-body_limit : (format : Format) (tree : Data) → Keeps (Within 1 1048576) (body_limit_of format tree)
keeps-body_limit First tree = (omega arith, omega arith)
keeps-body_limit Second tree =
    let read = number_of 1 1048576 in
    keeps-under (Within 1 1048576) (codes "body_limit") (found_or (Ok 1048576) read (get (codes "body_limit") tree))
    (keeps-found_or (Within 1 1048576) (Ok 1048576) read (get (codes "body_limit") tree) (omega arith, omega arith)
    (keeps-number 1 1048576))

-- each format has at most 128 documents
few-documents : (format : Format) (documents : List Document) → length documents ≤ most_documents format
    → length documents ≤ 128
few-documents First documents few = omega (arith, few)
few-documents Second documents few = few

keeps-scenario : (format : Format) (tree : Data) → Keeps IsValid (scenario_as format tree)
keeps-scenario format tree =
    keeps-after IsValid (only_keys (root_keys format) tree) _ (λ _.
    keeps-after IsValid _ _ (λ _.
    keeps-then (Within 1 1048576) IsValid (body_limit_of format tree) _ (keeps-body_limit format tree) (λ limit most.
    keeps-optional (Within 0 1099511627776) IsValid (codes "now") 0 (number_of 0 1099511627776) tree _ (
      omega arith,
      omega arith,
    ) (keeps-number 0 1099511627776) (λ now past.
    keeps-optional (IsListOf IsValidHost 4096) IsValid (codes "hsts") [] (list_of 4096 host_of) tree _
    (record { few = omega arith; all = All-nil IsValidHost }) (keeps-list IsValidHost 4096 host_of keeps-host)
    (λ hosts known.
    keeps-optional (λ cookies. All IsValidCookie cookies) IsValid (codes "cookies") [] (items_of cookie_of) tree _
    (All-nil IsValidCookie) (keeps-items IsValidCookie cookie_of keeps-cookie) (λ cookies good.
    keeps-optional (λ servers. All IsValidServer servers) IsValid (codes "servers") [] (items_of server_of) tree _
    (All-nil IsValidServer) (keeps-items IsValidServer server_of keeps-server) (λ servers each.
    keeps-optional (λ routes. All IsValidRoute routes) IsValid (codes "routes") [] (items_of route_of) tree _
    (All-nil IsValidRoute) (keeps-items IsValidRoute route_of keeps-route) (λ routes ways.
    keeps-optional (Within 1 65536) IsValid (codes "piece") 4096 (number_of 1 65536) tree _ (
      omega arith,
      omega arith,
    ) (keeps-number 1 65536) (λ piece within.
    keeps-required (IsListOf IsValidDocument (most_documents format)) IsValid (codes "documents")
    (list_of (most_documents format) (document_of format)) tree _
    (keeps-list IsValidDocument (most_documents format) (document_of format) (keeps-document format))
    (λ documents all.
    record {
      now = past.1;
      few_hosts = known.few;
      hosts = known.all;
      cookies = good;
      servers = each;
      routes = ways;
      some_piece = within.0;
      most_piece = within.1;
      few_documents = few-documents format documents all.few;
      documents = all.all;
      some_limit = most.0;
      most_limit = most.1;
    }))))))))))

-- what is read of a tree is valid
pub scenario_as-IsValid : (format : Format) (tree : Data) (scenario : Scenario) → scenario_as format tree ≡ Ok scenario
    → IsValid scenario
scenario_as-IsValid format tree scenario is =
    subst (λ (read : Read Scenario). Keeps IsValid read) is (keeps-scenario format tree)
