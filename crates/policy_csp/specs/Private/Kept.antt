-- The directives that compiled policies keep: those whose names are asked for when a request is checked or upgraded.
use Rattle.std.specs.Prelude.{Bool, List, [], ◌∷◌, codes, bytes_eq, filter}
use Rattle.std.specs.List.{list_any}
use Rattle.value_text.specs.Texts.{Text}
use Rattle.policy_csp_text.specs.declared.policy.Directive.{Directive}
use Rattle.policy_csp_text.specs.declared.policy.Policy.{Policy}
use Rattle.policy_csp.specs.Reading.{read_policy}
use Rattle.policy_csp.specs.declared.compiled.CompiledPolicy.{CompiledPolicy}

-- the names in the fallback lists of all effective directives, and that of the directive that upgrades
abbrev pub asked_names : List Text
asked_names =
    codes "connect-src" ∷ codes "img-src" ∷ codes "media-src" ∷ codes "font-src" ∷ codes "manifest-src"
    ∷ codes "style-src-elem" ∷ codes "style-src" ∷ codes "script-src-elem" ∷ codes "script-src"
    ∷ codes "default-src" ∷ codes "upgrade-insecure-requests" ∷ []

-- the name is one of them
abbrev pub is_asked_for : Text → Bool
is_asked_for name = list_any (λ asked. bytes_eq asked name) asked_names

-- the directive has such a name
abbrev pub is_kept : Directive → Bool
is_kept directive = is_asked_for directive.name

-- the policy with these directives alone
abbrev pub with_kept : Policy → Policy
with_kept policy = record policy { directives = filter is_kept policy.directives }

-- a policy with these directives alone, and their source lists
abbrev pub kept_policy : Policy → CompiledPolicy
kept_policy policy = read_policy (with_kept policy)
