-- A policy with its words read as source expressions (CSP 3, section 2.3.1: the value of a fetch directive is a source
-- list).
use Rattle.std.specs.Prelude.{List, map}
use Rattle.value_text.specs.Texts.{Text}
use Rattle.policy_csp_match.specs.declared.source.Source.{Source}
use Rattle.policy_csp_match.specs.Sources.{source_of}
use Rattle.policy_csp_text.specs.declared.policy.Directive.{Directive}
use Rattle.policy_csp_text.specs.declared.policy.Policy.{Policy}
use Rattle.policy_csp.specs.declared.compiled.CompiledDirective.{CompiledDirective}
use Rattle.policy_csp.specs.declared.compiled.CompiledPolicy.{CompiledPolicy}

-- a source list: what each of the words is
abbrev pub source_list : List Text → List Source
source_list words = map source_of words

-- a directive with its source list
abbrev pub read_directive : Directive → CompiledDirective
read_directive directive = record { name = directive.name; sources = source_list directive.words }

-- a policy whose directives have their source lists
abbrev pub read_policy : Policy → CompiledPolicy
read_policy policy = record { enforced = policy.enforced; directives = map read_directive policy.directives }
