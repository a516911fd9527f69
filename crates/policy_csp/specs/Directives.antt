-- Which directive of a policy decides about a request (CSP 3, section 6.8: "get the effective directive for request"
-- and "get fetch directive fallback list").
use Rattle.std.specs.Prelude.{List, [], ◌∷◌, ◌++◌, codes, bytes_eq, Option, Some, None, if◌then◌else◌}
use Rattle.std.specs.Option.{option_or}
use Rattle.value_text.specs.Texts.{Text}
use Rattle.policy_csp_match.specs.declared.source.Source.{Source}
use Rattle.value_requests.specs.declared.policy.Destination.{Destination}
use Rattle.value_requests.specs.declared.policy.Destination.TheVariants as destination
use Rattle.value_requests.specs.declared.policy.Directive.{Directive}
use Rattle.value_requests.specs.declared.policy.Directive.TheVariants as directive
use Rattle.value_requests.specs.Names.{directive_name}
use Rattle.policy_csp.specs.declared.compiled.CompiledDirective.{CompiledDirective}

-- "get the effective directive for request"
abbrev pub effective_directive : Destination → Directive
effective_directive destination.Fetch = directive.ConnectSrc
effective_directive destination.Image = directive.ImgSrc
effective_directive destination.Audio = directive.MediaSrc
effective_directive destination.Video = directive.MediaSrc
effective_directive destination.Font = directive.FontSrc
effective_directive destination.Manifest = directive.ManifestSrc
effective_directive destination.Style = directive.StyleSrcElem
effective_directive destination.Script = directive.ScriptSrcElem

-- the names of the directives that cover it and more, other than default-src
abbrev pub broader_names : Directive → List Text
broader_names directive.StyleSrcElem = codes "style-src" ∷ []
broader_names directive.ScriptSrcElem = codes "script-src" ∷ []
broader_names _ = []

-- "get fetch directive fallback list": the first of these names that a policy has decides. A directive's own name is
-- the first, and default-src the last
abbrev pub fallback_list : Directive → List Text
fallback_list asked = directive_name asked ∷ broader_names asked ++ codes "default-src" ∷ []

-- the source list of the directive of a name, where there is one
abbrev pub sources_named : Text → List CompiledDirective → Option (List Source)
sources_named name [] = None
sources_named name (directive ∷ directives) =
    if bytes_eq directive.name name then Some directive.sources else sources_named name directives

-- the source list of the first of these names that there is a directive of
abbrev pub deciding_sources : List Text → List CompiledDirective → Option (List Source)
deciding_sources [] directives = None
deciding_sources (name ∷ names) directives =
    option_or (sources_named name directives) (deciding_sources names directives)
