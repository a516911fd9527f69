-- What the setters make of an http or https URL where its query and its path are taken away.
use Rattle.std.proofs.Common.{◌≡◌, ◌∙◌, ℕ, List, [], ap, refl, sym}
use Rattle.std.proofs.lemmas.Bool.{cond-false}
use Rattle.std.specs.Prelude.{codes, option_map, Option, None}
use Rattle.percent_encoding.specs.Percent.{percent_encode}
use Rattle.url.specs.declared.scheme.SchemeType.TheVariants.{SpecialNotFile}
use Rattle.url.specs.declared.sets.TheConstants.{FRAGMENT}
use Rattle.url.specs.Input.{strip_tabs_and_new_lines}
use Rattle.url.specs.Parts.{Parts}
use Rattle.url.specs.Parser.{with_path}
use Rattle.url.specs.Path.{dot_count, parse_path_start, parse_segments, push_segment}
use Rattle.url.specs.Setters as setters
use Rattle.url.proofs.SetterLemmas.{authority_from_host}
use Rattle.url.proofs.ValidLemmas.{base_from_authority}
use Rattle.value_requests.specs.Urls.{IsWeb}

-- without its query it still has no fragment
pub query-dropped : (url : Parts) → url.fragment ≡ None → setters.set_query url None ≡ record url { query = None }
query-dropped url fragment =
    ap (λ (tail : Option (List ℕ)). record url { query = None; fragment = option_map (percent_encode FRAGMENT) tail })
    fragment ∙ sym (λ i. record url { query = None; fragment = fragment i })

slash-alone : parse_path_start SpecialNotFile [] (codes "/") ≡ codes "/"
unfolding parse_path_start parse_segments push_segment dot_count percent_encode
slash-alone = refl

slash-kept : strip_tabs_and_new_lines (codes "/") ≡ codes "/"
unfolding strip_tabs_and_new_lines
slash-kept = refl

-- the path `/` is set
pub path-dropped : (url : Parts) → IsWeb url → setters.set_path url (codes "/") ≡ record url { path = codes "/" }
path-dropped url web =
    let based = base_from_authority url (authority_from_host url web.1) in
    ap (with_path url)
    (ap (setters.new_path url) slash-kept ∙ cond-false _ _ _ based
    ∙ ap (λ k. parse_path_start k [] (codes "/")) web.0 ∙ slash-alone)
