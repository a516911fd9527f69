-- The laws of source lists and of dispositions.
use Rattle.std.proofs.Common.{◌≡◌, ◌∙◌, ◌+◌, ◌∷◌, [], ℕ, Bool, true, false, not, List, Option, Some, None, refl, ap}
use Rattle.std.proofs.Common.{sym, map, codes}
use Rattle.std.proofs.Common.{inl, inr, arith}
use Rattle.std.proofs.lemmas.Bool.{cases_Bool}
use Rattle.std.proofs.lemmas.Grind.{common_steps}
use Rattle.std.specs.Option.{option_map_or, option_or}
use Rattle.std.specs.Prelude.{bytes_eq, option_map}
use Rattle.policy_csp_match.specs.declared.source.Source.{Source}
use Rattle.policy_csp_match.specs.declared.source.Source.TheVariants.{NoneWord}
use Rattle.policy_csp_match.specs.Sources.{source_of}
use Rattle.policy_csp_text.specs.declared.policy.Directive.{Directive}
use Rattle.policy_csp_text.specs.declared.policy.Policy.{Policy}
use Rattle.value_origins.specs.declared.origin.Origin.{Origin}
use Rattle.value_requests.specs.declared.policy.Destination.{Destination}
use Rattle.value_requests.specs.declared.policy.Destination.TheVariants.{Script, Style}
use Rattle.value_requests.specs.declared.request.Request.{Request}
use Rattle.policy_csp.specs.Directives.{deciding_sources, effective_directive, fallback_list, sources_named}
use Rattle.policy_csp.specs.Laws.{in_disposition, or_none, saying_none, with_none, without_disposition}
use Rattle.policy_csp.specs.Reading.{read_directive, read_policy, source_list}
use Rattle.policy_csp.specs.SourceLists.{passes}
use Rattle.policy_csp.specs.Violations.{is_violated, violation, violations_from}

none-read : source_of (codes "'none'") ≡ NoneWord
none-read = refl

-- no source, and 'none' alone
none-passes : (request : Request) (document : Origin) (destination : Destination)
    → passes [] request document destination ≡ passes (NoneWord ∷ []) request document destination
none-passes request document Script = grind (arith, common_steps)
none-passes request document Style = grind (arith, common_steps)
none-passes request document _ = refl

-- a source list, with 'none' in the place of none
abbrev none_or : List Source → List Source
none_or [] = NoneWord ∷ []
none_or (source ∷ sources) = source ∷ sources

none_or-passes : (request : Request) (document : Origin) (destination : Destination) (sources : List Source)
    → passes (none_or sources) request document destination ≡ passes sources request document destination
none_or-passes request document destination [] = sym (none-passes request document destination)
none_or-passes request document destination (source ∷ sources) = refl

none_or-read : (words : List (List ℕ)) → source_list (or_none words) ≡ none_or (source_list words)
none_or-read [] = ap (λ source. source ∷ []) none-read
none_or-read (word ∷ words) = refl

named-none : (name : List ℕ) (directives : List Directive)
    → sources_named name (map read_directive (map saying_none directives))
    ≡ option_map none_or (sources_named name (map read_directive directives))
named-none name [] = refl
named-none name (directive ∷ directives) =
    elim (cases_Bool (bytes_eq directive.name name)) [
      | inl same ↦ rw (same, none_or-read directive.words) refl
      | inr other ↦ rw other (named-none name directives)
    ]

or-both : (a b : Option (List Source)) → option_or (option_map none_or a) (option_map none_or b)
    ≡ option_map none_or (option_or a b)
or-both None b = refl
or-both (Some sources) b = refl

deciding-none : (names : List (List ℕ)) (directives : List Directive)
    → deciding_sources names (map read_directive (map saying_none directives))
    ≡ option_map none_or (deciding_sources names (map read_directive directives))
deciding-none [] directives = refl
deciding-none (name ∷ names) directives =
    rw (named-none name directives, deciding-none names directives)
    (or-both (sources_named name (map read_directive directives))
    (deciding_sources names (map read_directive directives)))

asked-none : (request : Request) (document : Origin) (sources : Option (List Source))
    → option_map_or (λ list. not (passes list request document request.destination)) (option_map none_or sources) false
    ≡ option_map_or (λ list. not (passes list request document request.destination)) sources false
asked-none request document None = refl
asked-none request document (Some sources) =
    ap not (none_or-passes request document request.destination sources)

violated-none : (policy : Policy) (request : Request) (document : Origin)
    → is_violated (read_policy (with_none policy)) request document ≡ is_violated (read_policy policy) request document
violated-none policy request document =
    ap (λ o. option_map_or (λ list. not (passes list request document request.destination)) o false)
    (deciding-none (fallback_list (effective_directive request.destination)) policy.directives)
    ∙ asked-none request document
    (deciding_sources (fallback_list (effective_directive request.destination)) (map read_directive policy.directives))

-- the violations from a number on, without words and with 'none'
pub none-from : (number : ℕ) (asked : Option Bool) (policies : List Policy) (request : Request) (document : Origin)
    → violations_from number asked (map read_policy (map with_none policies)) request document
    ≡ violations_from number asked (map read_policy policies) request document
none-from number asked [] request document = refl
none-from number None (policy ∷ policies) request document =
    rw (violated-none policy request document, none-from (number + 1) None policies request document) refl
none-from number (Some true) (policy ∷ policies) request document =
    rw (violated-none policy request document, none-from (number + 1) (Some true) policies request document) refl
none-from number (Some false) (policy ∷ policies) request document =
    rw (violated-none policy request document, none-from (number + 1) (Some false) policies request document) refl

-- the violations from a number on, in both dispositions
pub alike-from : (number : ℕ) (policies : List Policy) (request : Request) (document : Origin)
    → map without_disposition
    (violations_from number (Some true) (map read_policy (map (in_disposition true) policies)) request document)
    ≡ map without_disposition
    (violations_from number (Some false) (map read_policy (map (in_disposition false) policies)) request document)
alike-from number [] request document = refl
alike-from number (policy ∷ policies) request document =
    elim (cases_Bool (is_violated (read_policy policy) request document)) [
      | inl violated ↦ rw violated (ap (λ found. without_disposition (violation number
          (read_policy policy) request) ∷ found) (alike-from (number + 1) policies request document))
      | inr passed ↦ rw passed (alike-from (number + 1) policies request document)
    ]
