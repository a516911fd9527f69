-- What is asked of the directives that are kept is the same as of all.
use Rattle.std.proofs.Common.{◌≡◌, ◌∙◌, ◌+◌, ◌∷◌, ◌&&◌, ◌||◌, [], ℕ, Bool, true, false, not, List, Option, Some, None}
use Rattle.std.proofs.Common.{refl, ap, sym, map, filter, codes, inl, inr, true≢false}
use Rattle.std.proofs.lemmas.Bool.{and_parts, cases_Bool}
use Rattle.std.proofs.lemmas.Slice.Eq.{bytes_eq-Decides}
use Rattle.std.specs.List.{list_all, list_any}
use Rattle.std.specs.Option.{option_map_or, option_or}
use Rattle.std.specs.Prelude.{bytes_eq}
use Rattle.policy_csp_text.specs.declared.policy.Directive.{Directive}
use Rattle.policy_csp_text.specs.declared.policy.Policy.{Policy}
use Rattle.value_origins.specs.declared.origin.Origin.{Origin}
use Rattle.value_requests.specs.declared.policy.Directive.{Directive as Effective}
use Rattle.value_requests.specs.declared.policy.Directive.TheVariants as effective
use Rattle.value_requests.specs.declared.request.Request.{Request}
use Rattle.policy_csp.specs.Directives.{deciding_sources, effective_directive, fallback_list, sources_named}
use Rattle.policy_csp.specs.Private.Kept.{is_asked_for, kept_policy}
use Rattle.policy_csp.specs.Reading.{read_directive, read_policy}
use Rattle.policy_csp.specs.SourceLists.{passes}
use Rattle.policy_csp.specs.Violations.{is_violated, upgrades_policy, violations_from}

-- whatever names are kept
module _ (keeps : List ℕ → Bool) where
  -- the directives of such names
  abbrev kept : List Directive → List Directive
  kept directives = filter (λ directive. keeps directive.name) directives

  -- a directive that is left out has no name that is kept
  other-name : (name wanted : List ℕ) → keeps name ≡ false → keeps wanted ≡ true → bytes_eq name wanted ≡ false
  other-name name wanted out is =
      elim (cases_Bool (bytes_eq name wanted)) [
        | inl same ↦ absurd (true≢false (sym is ∙ ap keeps (sym ((bytes_eq-Decides name wanted).0 same)) ∙ out))
        | inr other ↦ other
      ]

  named-kept : (name : List ℕ) → keeps name ≡ true → (directives : List Directive)
      → sources_named name (map read_directive (kept directives)) ≡ sources_named name (map read_directive directives)
  named-kept name is [] = refl
  named-kept name is (directive ∷ directives) =
      elim (cases_Bool (keeps directive.name)) [
        | inl stays ↦ rw (stays, named-kept name is directives) refl
        | inr out ↦ rw (out, other-name directive.name name out is) (named-kept name is directives)
      ]

  deciding-kept : (names : List (List ℕ)) → list_all keeps names ≡ true → (directives : List Directive)
      → deciding_sources names (map read_directive (kept directives))
      ≡ deciding_sources names (map read_directive directives)
  deciding-kept [] are directives = refl
  deciding-kept (name ∷ names) are directives =
      let each = and_parts (keeps name) (list_all keeps names) are in
      rw (named-kept name each.0 directives, deciding-kept names each.1 directives) refl

  has-kept : (name : List ℕ) → keeps name ≡ true → (directives : List Directive)
      → list_any (λ directive. bytes_eq directive.name name) (map read_directive (kept directives))
      ≡ list_any (λ directive. bytes_eq directive.name name) (map read_directive directives)
  has-kept name is [] = refl
  has-kept name is (directive ∷ directives) =
      elim (cases_Bool (keeps directive.name)) [
        | inl stays ↦ rw (stays, has-kept name is directives) refl
        | inr out ↦ rw (out, other-name directive.name name out is) (has-kept name is directives)
      ]

-- all names of the fallback lists are asked for
lists-asked : (asked : Effective) → list_all is_asked_for (fallback_list asked) ≡ true
lists-asked effective.ConnectSrc = refl
lists-asked effective.ImgSrc = refl
lists-asked effective.MediaSrc = refl
lists-asked effective.FontSrc = refl
lists-asked effective.ManifestSrc = refl
lists-asked effective.StyleSrcElem = refl
lists-asked effective.ScriptSrcElem = refl

-- so is the name of the directive that upgrades
upgrade-asked : is_asked_for (codes "upgrade-insecure-requests") ≡ true
upgrade-asked = refl

violated-kept : (policy : Policy) (request : Request) (document : Origin)
    → is_violated (kept_policy policy) request document ≡ is_violated (read_policy policy) request document
violated-kept policy request document =
    ap (λ o. option_map_or (λ list. not (passes list request document request.destination)) o false)
    (deciding-kept is_asked_for (fallback_list (effective_directive request.destination))
    (lists-asked (effective_directive request.destination)) policy.directives)

-- the violations from a number on, of the directives that are kept and of all
pub kept_from : (number : ℕ) (asked : Option Bool) (policies : List Policy) (request : Request) (document : Origin)
    → violations_from number asked (map kept_policy policies) request document
    ≡ violations_from number asked (map read_policy policies) request document
kept_from number asked [] request document = refl
kept_from number None (policy ∷ policies) request document =
    rw (violated-kept policy request document, kept_from (number + 1) None policies request document) refl
kept_from number (Some true) (policy ∷ policies) request document =
    rw (violated-kept policy request document, kept_from (number + 1) (Some true) policies request document) refl
kept_from number (Some false) (policy ∷ policies) request document =
    rw (violated-kept policy request document, kept_from (number + 1) (Some false) policies request document) refl

-- an enforced policy upgrades, by the directives that are kept and by all
pub upgrades_kept : (policies : List Policy)
    → list_any upgrades_policy (map kept_policy policies) ≡ list_any upgrades_policy (map read_policy policies)
upgrades_kept [] = refl
upgrades_kept (policy ∷ policies) =
    let first : upgrades_policy (kept_policy policy) ≡ upgrades_policy (read_policy policy) =
    ap (λ b. policy.enforced && b)
    (has-kept is_asked_for (codes "upgrade-insecure-requests") upgrade-asked policy.directives) in
    rw (first, upgrades_kept policies) refl
