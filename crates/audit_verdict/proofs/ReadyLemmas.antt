-- Each document of a scenario that is read may be played: texts give its URLs, and its script is valid.
use Rattle.std.proofs.Common.{◌≡◌, Bool, List, [], ◌∷◌, Option, Some, None, Ok, Err, codes, refl, subst, true, false, ℕ}
use Rattle.std.specs.Prelude.{◌==◌, ◌&&◌, not, option_and_then}
use Rattle.std.specs.List.{All, AllByRecursion}
use Rattle.std.specs.Result.{result_ok}
use Rattle.std.proofs.lemmas.Bool.{and_parts}
use Rattle.std.proofs.lemmas.List.Elements.{All-head, All-tail}
use Rattle.serde_json.specs.Data.{Data}
use Rattle.serde_json.specs.Find.{as_str, get}
use Rattle.url.specs.Parser.{Parsed, parse_url}
use Rattle.url.specs.Parts.{Parts, has_credentials}
use Rattle.value_json.specs.Reading.{Read, found_or, items_of, list_of, number_of, only_keys, optional, present, required}
use Rattle.value_json.proofs.KeepsLemmas.{IsListOf, Keeps, keeps-after, keeps-found_or, keeps-given, keeps-list}
use Rattle.value_json.proofs.KeepsLemmas.{keeps-present, keeps-required, keeps-then, keeps-under}
use Rattle.value_origins.specs.Origins.{is_http}
use Rattle.value_requests.specs.Urls.{is_short_url, url_of_text}
use Rattle.script_reading.specs.Formats.{body_limit_of, document_keys, format_numbered, format_of, most_documents}
use Rattle.script_reading.specs.Formats.{number_of_format, root_keys, top_of, whole_number}
use Rattle.script_reading.specs.Scenarios.{cookie_of, document_of, host_of, route_of, said_of, scenario_as, scenario_in}
use Rattle.script_reading.specs.Scenarios.{scenario_of, scenario_of_tree, server_of, told, tree_of}
use Rattle.script_steps.specs.Scripts.{document_script_of}
use Rattle.value_requests.specs.declared.mode.ReferrerPolicy.TheVariants as policy
use Rattle.script_reading.specs.Urls.{document_url_of}
use Rattle.script_reading.proofs.ValidLemmas.{scenario_as-IsValid}
use Rattle.script_scenarios.specs.declared.document.Document.{Document}
use Rattle.script_scenarios.specs.declared.scenario.Scenario.{Scenario}
use Rattle.script_scenarios.specs.Urls.{is_document_url}
use Rattle.script_scenarios.specs.Valid.{IsValid, IsValidDocument}
use Rattle.play_words.specs.Given.{HasGiven, IsGiven}
use Rattle.play_words.specs.Laws.{IsReady}

-- ---- URLs

ok-from : (read : Parsed Parts) (url : Parts) → result_ok read ≡ Some url → read ≡ Ok url
ok-from (Ok made) url is = cc
ok-from (Err error) url is = absurd (cc)

keeps-url : (tree : Data) → Keeps IsGiven (document_url_of tree)
keeps-url tree =
    keeps-after IsGiven (present (as_str tree)) _ (λ text.
    keeps-then (λ url. url_of_text None (Some text) ≡ Some url) IsGiven (present (url_of_text None (Some text))) _
    (keeps-present (url_of_text None (Some text))) (λ url is.
    keeps-given IsGiven (is_document_url url) url (λ holds. record {
      text = text;
      read = ok-from (parse_url None text) url is;
      http = (and_parts (is_http url.scheme) (not (has_credentials url))
          (and_parts (is_http url.scheme && not (has_credentials url)) (is_short_url url) holds).0).0;
    })))

keeps-top : (number : Option ℕ) (url : Parts) → IsGiven url → (tree : Data)
    → Keeps IsGiven (top_of (format_numbered number) url tree)
keeps-top None url is tree = is
keeps-top (Some number) url is tree = by (number == 2) refl
  where
    optional-top : Keeps IsGiven (optional (codes "top") url document_url_of tree)
    optional-top =
        let name = codes "top" in
        keeps-under IsGiven name (found_or (Ok url) document_url_of (get name tree))
        (keeps-found_or IsGiven (Ok url) document_url_of (get name tree) is keeps-url)

    by : (second : Bool) → (number == 2) ≡ second → Keeps IsGiven (top_of (format_numbered (Some number)) url tree)
    by true same = rw same optional-top
    by false same = rw same is

-- ---- documents, in the format of this number

keeps-document : (number : Option ℕ) (tree : Data) → Keeps HasGiven (document_of (format_numbered number) tree)
keeps-document number tree =
    let format = format_numbered number in
    keeps-after HasGiven (only_keys (document_keys format) tree) _ (λ _.
    keeps-required IsGiven HasGiven (codes "url") document_url_of tree _ keeps-url (λ url is.
    keeps-then IsGiven HasGiven (top_of format url tree) _ (keeps-top number url is tree) (λ top above.
    keeps-after HasGiven (optional (codes "headers") (policy.StrictOriginWhenCrossOrigin, []) said_of tree) _ (λ said.
    keeps-after HasGiven (required (codes "script") document_script_of tree) _ (λ script.
    record { url = is; top = above })))))

-- the texts of each document's URLs give them
abbrev AreGiven : Scenario → Type 0
AreGiven scenario = All HasGiven scenario.documents

keeps-scenario : (number : Option ℕ) (tree : Data) → Keeps AreGiven (scenario_as (format_numbered number) tree)
keeps-scenario number tree =
    let format = format_numbered number in
    keeps-after AreGiven (only_keys (root_keys format) tree) _ (λ _.
    keeps-after AreGiven (required (codes "format")
    (number_of (number_of_format format) (number_of_format format)) tree) _ (λ version.
    keeps-after AreGiven (body_limit_of format tree) _ (λ limit.
    keeps-after AreGiven (optional (codes "now") 0 (number_of 0 1099511627776) tree) _ (λ now.
    keeps-after AreGiven (optional (codes "hsts") [] (list_of 4096 host_of) tree) _ (λ hosts.
    keeps-after AreGiven (optional (codes "cookies") [] (items_of cookie_of) tree) _ (λ cookies.
    keeps-after AreGiven (optional (codes "servers") [] (items_of server_of) tree) _ (λ servers.
    keeps-after AreGiven (optional (codes "routes") [] (items_of route_of) tree) _ (λ routes.
    keeps-after AreGiven (optional (codes "piece") 4096 (number_of 1 65536) tree) _ (λ piece.
    keeps-required (IsListOf HasGiven (most_documents format)) AreGiven (codes "documents")
    (list_of (most_documents format) (document_of format)) tree _
    (keeps-list HasGiven (most_documents format) (document_of format) (keeps-document number))
    (λ documents are. are.all))))))))))

-- ---- the whole

-- A scenario that is read from a text is that of its tree.
record IsRead (scenario : Scenario) : Type 0 where
  pub tree : Data
  pub is : scenario_in tree ≡ Ok scenario

told-read : (read : Read Scenario) (scenario : Scenario) → told read ≡ Ok scenario → read ≡ Ok scenario
told-read (Ok made) scenario is = cc
told-read (Err place) scenario is = absurd (cc)

tree-read : (tree : Option Data) (scenario : Scenario) → scenario_of_tree tree ≡ Ok scenario → IsRead scenario
tree-read None scenario is = absurd (cc)
tree-read (Some tree) scenario is = record { tree = tree; is = told-read (scenario_in tree) scenario is }

pub scenario-valid : (bytes : List ℕ) (scenario : Scenario) → scenario_of bytes ≡ Ok scenario → IsValid scenario
scenario-valid bytes scenario is =
    let read = tree-read (tree_of bytes) scenario is in
    scenario_as-IsValid (format_of read.tree) read.tree scenario read.is

ready-each : (documents : List Document) → All HasGiven documents → All IsValidDocument documents
    → AllByRecursion IsReady documents
ready-each [] given valid = tt
ready-each (document ∷ documents) given valid = (
  record {
    given = All-head HasGiven document documents given;
    script = (All-head IsValidDocument document documents valid).script.valid;
  },
  ready-each documents (All-tail HasGiven document documents given) (All-tail IsValidDocument document documents valid),
)

pub documents-ready : (bytes : List ℕ) (scenario : Scenario) → scenario_of bytes ≡ Ok scenario
    → AllByRecursion IsReady scenario.documents
documents-ready bytes scenario is =
    let read = tree-read (tree_of bytes) scenario is in
    let given = subst (λ (made : Read Scenario). Keeps AreGiven made) read.is
    (keeps-scenario (option_and_then whole_number (get (codes "format") read.tree)) read.tree) in
    ready-each scenario.documents given (scenario-valid bytes scenario is).documents
