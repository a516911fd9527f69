-- The fragment of a URL, set at another.
use Rattle.std.proofs.Common.{◌≡◌, ◌∙◌, ℕ, List, All, not, refl, ap}
use Rattle.std.specs.Prelude.{Some}
use Rattle.std.proofs.lemmas.List.Elements.{All-weaker}
use Rattle.percent_encoding.proofs.PercentLemmas.{percent_encode_unchanged}
use Rattle.percent_encoding.specs.Percent.{IsKept, percent_encode}
use Rattle.url.proofs.InputLemmas.{Passes, filter_all}
use Rattle.url.proofs.SetLemmas.{passes_from_kept}
use Rattle.url.proofs.ValidLemmas.{option_unchanged}
use Rattle.url.specs.declared.sets.TheConstants.{FRAGMENT}
use Rattle.url.specs.Input.{is_tab_or_new_line, strip_tabs_and_new_lines}
use Rattle.url.specs.Parts.{Parts, IsValid}
use Rattle.url.specs.Setters.{set_fragment}

-- a fragment has no tab and no new line
unstripped : (text : List ℕ) → All (IsKept FRAGMENT) text → strip_tabs_and_new_lines text ≡ text
unfolding strip_tabs_and_new_lines
unstripped text kept =
    filter_all _ text
    (All-weaker (IsKept FRAGMENT) (Passes (λ b. not (is_tab_or_new_line b)))
    (passes_from_kept FRAGMENT (λ b. not (is_tab_or_new_line b)) refl) text kept)

-- it is set as it is, and the query stays
pub fragment_set : (url : Parts) (text : List ℕ) → IsValid url → All (IsKept FRAGMENT) text
    → set_fragment url (Some text) ≡ record url { fragment = Some text }
fragment_set url text valid kept =
    let same = ap (percent_encode FRAGMENT) (unstripped text kept) ∙ percent_encode_unchanged FRAGMENT text kept in
    λ i. record url { query = option_unchanged _ url.query valid.query i; fragment = Some (same i) }
