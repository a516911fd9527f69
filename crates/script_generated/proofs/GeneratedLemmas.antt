-- The scenario that is generated: its URLs are those of their texts, its documents are in order, and it is valid.
use Rattle.std.proofs.Common.{◌≡◌, ℕ, ◌+◌, ◌<◌, ◌≤◌, true, List, get_or, Option, Some, None, refl, ap, sym, ◌∙◌}
use Rattle.std.proofs.Common.{◌++◌, ◌∷◌, [], subst, arith}
use Rattle.std.specs.Prelude.{IsTrue, map}
use Rattle.std.specs.List.{All, range_with_len}
use Rattle.std.proofs.lemmas.Bool.{agree_below_at}
use Rattle.std.proofs.lemmas.List.Elements.{All-nil, All-cons, All-map, All-from_get_or}
use Rattle.std.proofs.lemmas.List.FromFn.{length-range_with_len, get_or-range_with_len, length-map-range_with_len}
use Rattle.std.proofs.lemmas.List.FromFn.{get_or-map-range_with_len, map-range_with_len_more}
use Rattle.url.proofs.OnLiterals.{url_on_literals}
use Rattle.url.specs.Parts.{Parts}
use Rattle.value_requests.specs.Urls.{url_of_text}
use Rattle.script_scenarios.specs.ValidScripts.{IsValidInit, IsValidScript}
use Rattle.script_generated.specs.Generated.{api_server, put_request, put_script, address_text, address}
use Rattle.script_generated.specs.Generated.{generated_document}
use Rattle.script_generated.specs.Generated.{preflight_rule, other_rule, generated}
use Rattle.script_scenarios.specs.declared.document.Document.{Document}
use Rattle.script_scenarios.specs.Urls.{is_document_url}
use Rattle.script_scenarios.specs.Valid.{IsValidCookie, IsValidHost, IsValidRoute, IsValidRule, IsValidServer}
use Rattle.script_scenarios.specs.Valid.{IsValidDocument, IsValid}

-- ---- URLs

-- what the text of a document's URL gives
abbrev found : ℕ → Option Parts
found i = url_of_text None (Some (address_text i))

-- and what it has to give
abbrev wanted : ℕ → Option Parts
wanted i = Some (address i)

-- the two for each of the 64 documents, computed
each-found : map found (range_with_len 0 64) ≡ map wanted (range_with_len 0 64)
unfolding url_on_literals
each-found = refl

pub address-of_text : (i : ℕ) → i < 64 → url_of_text None (Some (address_text i)) ≡ Some (address i)
address-of_text i under =
    sym (get_or-map-range_with_len found 0 64 i i None under (omega arith))
    ∙ ap (λ (urls : List (Option Parts)). get_or urls i None) each-found
    ∙ get_or-map-range_with_len wanted 0 64 i i None under (omega arith)

-- what a text gives that is this one
pub address-found : (i : ℕ) → i < 64 → (text : List ℕ) → text ≡ address_text i
    → (url : Option Parts) → url ≡ url_of_text None (Some text) → url ≡ Some (address i)
address-found i under text is url gives =
    gives ∙ ap (λ (t : List ℕ). url_of_text None (Some t)) is ∙ address-of_text i under

-- it may be that of a document
documents_may : (i : ℕ) → i < 64 → IsTrue (is_document_url (address i))
unfolding url_on_literals
documents_may i under = agree_below_at (λ k. is_document_url (address k)) (λ _. true) 64 i refl under

-- ---- the server

api-valid : IsValidServer api_server
unfolding url_on_literals
api-valid = record {
  origin = refl;
  rules =
      All-cons IsValidRule preflight_rule (other_rule ∷ []) (record { method = refl })
      (All-cons IsValidRule other_rule [] (record { method = tt }) (All-nil IsValidRule));
}

-- ---- the documents

request-valid : IsValidInit put_request
request-valid = record { url = refl; few = omega arith; headers = All-nil _; body = tt }

script-valid : IsValidScript put_script
script-valid = record {
  valid = ((omega arith, (request-valid, (omega arith, tt))), tt);
  few_repeats = omega arith;
  few_choices = omega arith;
}

document-valid : (i : ℕ) → i < 64 → IsValidDocument (generated_document i)
document-valid i under = record {
  url = documents_may i under;
  top = documents_may i under;
  policy = refl;
  few_policies = omega arith;
  script = script-valid;
}

documents-valid : (n : ℕ) → n ≤ 64 → All IsValidDocument (map generated_document (range_with_len 0 n))
documents-valid n few =
    All-map IsValidDocument generated_document (range_with_len 0 n)
    (All-from_get_or (λ i. IsValidDocument (generated_document i)) (range_with_len 0 n) 0 (λ i within.
    let under : i < n = subst (λ len. i < len) (length-range_with_len 0 n) within in
    subst (λ k. IsValidDocument (generated_document k)) (sym (get_or-range_with_len 0 n i 0 under))
    (document-valid (0 + i) (omega (arith, under, few)))))

-- one document more
pub one-more : (i : ℕ) (before after : List Document) (document : Document)
    → before ≡ map generated_document (range_with_len 0 i) → document ≡ generated_document i
    → after ≡ before ++ document ∷ [] → after ≡ map generated_document (range_with_len 0 (i + 1))
one-more i before after document done is pushed =
    pushed ∙ ap (λ (documents : List Document). documents ++ document ∷ []) done
    ∙ ap (λ (d : Document). map generated_document (range_with_len 0 i) ++ d ∷ []) is
    ∙ sym (map-range_with_len_more generated_document 0 i i (omega arith))

-- ---- the whole

pub generated-valid : (n : ℕ) → n ≤ 64 → IsValid (generated n)
generated-valid n few = record {
  now = omega arith;
  few_hosts = omega arith;
  hosts = All-nil IsValidHost;
  cookies = All-nil IsValidCookie;
  servers = All-cons IsValidServer api_server [] api-valid (All-nil IsValidServer);
  routes = All-nil IsValidRoute;
  some_piece = omega arith;
  most_piece = omega arith;
  few_documents = omega (arith, length-map-range_with_len generated_document 0 n, few);
  documents = documents-valid n few;
  some_limit = omega arith;
  most_limit = omega arith;
}
