-- The path and the query of an http or https URL have no space, since the URL parser writes it as `%20`.
use Rattle.std.proofs.Common.{◌≡◌, ◌∙◌, ℕ, Bool, true, not, ◌==◌, List, [], ◌∷◌, All, ⊎_elim, refl, ap}
use Rattle.std.proofs.lemmas.Bool.{cases_Bool}
use Rattle.std.proofs.lemmas.List.Elements.{All-head, All-tail}
use Rattle.std.proofs.lemmas.List.Folds.{list_all-append}
use Rattle.std.proofs.lemmas.Slice.Eq.{bytes_eq-Decides}
use Rattle.std.specs.Prelude.{IsTrue, bytes_eq, codes, Option, Some, None, IfSome, unwrap_or}
use Rattle.percent_encoding.specs.declared.ascii_set.AsciiSet.{AsciiSet}
use Rattle.percent_encoding.specs.Percent.{IsKept}
use Rattle.url.specs.declared.scheme.SchemeType.TheVariants.{SpecialNotFile}
use Rattle.url.specs.declared.sets.TheConstants.{PATH, SPECIAL_QUERY}
use Rattle.url.specs.Parts.{Parts, IsValid, kind_of}
use Rattle.url.specs.Scheme.{default_port, is_special, scheme_type}
use Rattle.url.proofs.SetLemmas.{outside_pass, passes_from_kept}
use Rattle.url.proofs.ValidLemmas.{base_from_authority, hierarchical, segment_list_kept, special_has_authority}
use Rattle.value_text.specs.Ascii.{lacks_space, space}
use Rattle.value_requests.specs.Requests.{is_http_url}
use Rattle.value_requests.specs.Targets.{query_text, target_of}

abbrev is_no_space : ℕ → Bool
is_no_space byte = not (byte == space)

-- what a set keeps has no space, where the set has the space
kept-lacks_space : (set : AsciiSet) → outside_pass set is_no_space ≡ true → (text : List ℕ) → All (IsKept set) text
    → lacks_space text ≡ true
kept-lacks_space set inside [] kept = refl
kept-lacks_space set inside (byte ∷ text) kept =
    rw (passes_from_kept set is_no_space inside byte (All-head (IsKept set) byte text kept))
    (kept-lacks_space set inside text (All-tail (IsKept set) byte text kept))

http-kind : scheme_type (codes "http") ≡ SpecialNotFile
unfolding scheme_type default_port
http-kind = refl

pub https-kind : scheme_type (codes "https") ≡ SpecialNotFile
unfolding scheme_type default_port
https-kind = refl

-- http and https are special schemes
pub http-special : (url : Parts) → IsTrue (is_http_url url) → kind_of url ≡ SpecialNotFile
http-special url http =
    ⊎_elim (λ is. ap scheme_type ((bytes_eq-Decides url.scheme (codes "http")).0 is) ∙ http-kind)
    (λ other. ap scheme_type ((bytes_eq-Decides url.scheme (codes "https")).0 (rw other at http)) ∙ https-kind)
    (cases_Bool (bytes_eq url.scheme (codes "http")))

-- the path has no space
pub path-lacks_space : (url : Parts) → IsValid url → IsTrue (is_http_url url) → IsTrue (lacks_space url.path)
path-lacks_space url valid http =
    let special : is_special (kind_of url) ≡ true = ap is_special (http-special url http) in
    let based = base_from_authority url (special_has_authority url valid.head special) in
    kept-lacks_space PATH refl url.path (segment_list_kept _ url.path (hierarchical url valid.path based).0)

kept-query : (query : Option (List ℕ)) → IfSome query (All (IsKept SPECIAL_QUERY))
    → lacks_space (unwrap_or query []) ≡ true
kept-query None kept = refl
kept-query (Some text) kept = kept-lacks_space SPECIAL_QUERY refl text kept

-- the query has no space
pub query-lacks_space : (url : Parts) → IsValid url → IsTrue (is_http_url url)
    → IsTrue (lacks_space (unwrap_or url.query []))
query-lacks_space url valid http =
    kept-query url.query (rw (http-special url http) at valid.query)

query_text-lacks_space : (query : Option (List ℕ)) → lacks_space (unwrap_or query []) ≡ true
    → lacks_space (query_text query) ≡ true
query_text-lacks_space None lacks = refl
query_text-lacks_space (Some text) lacks = lacks

-- the request target has no space
pub target-lacks_space : (url : Parts) → IsValid url → IsTrue (is_http_url url) → IsTrue (lacks_space (target_of url))
target-lacks_space url valid http =
    rw (list_all-append is_no_space url.path (query_text url.query), path-lacks_space url valid http)
    (query_text-lacks_space url.query (query-lacks_space url valid http))
