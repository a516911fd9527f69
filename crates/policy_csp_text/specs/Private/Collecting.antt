-- Directives collected one by one: what is new to those that were found.
use Rattle.std.specs.Prelude.{◌≡◌, Bool, List, [], ◌∷◌, ◌++◌, not, Option, Some, None, bytes_eq, if◌then◌else◌}
use Rattle.std.specs.List.{filter_map, list_any}
use Rattle.std.specs.Ordering.{is_eq}
use Rattle.std.specs.declared.cmp.Ordering.{Ordering}
use Rattle.value_text.specs.Texts.{Text}
use Rattle.value_text.specs.Orders.{text_cmp}
use Rattle.policy_csp_text.specs.Policies.{directive_of, is_named}
use Rattle.policy_csp_text.specs.declared.policy.Directive.{Directive}

-- the directives of tokens
abbrev pub directives_in : List Text → List Directive
directives_in tokens = filter_map directive_of tokens

-- none of the directives found has its name
abbrev pub is_new : List Directive → Directive → Bool
is_new found directive = not (list_any (λ other. is_named other.name directive) found)

-- the directives found and one more, where it is new
abbrev pub with_new : Directive → List Directive → List Directive
with_new directive found = if is_new found directive then found ++ directive ∷ [] else found

-- the directives found and one more, where there is one and it is new
abbrev pub with_found : Option Directive → List Directive → List Directive
with_found None found = found
with_found (Some directive) found = with_new directive found

module _ {K : Type 0} (bytes : K → Text) where
  -- the order of keys by their bytes
  abbrev pub key_cmp : K → K → Ordering
  key_cmp a b = text_cmp (bytes a) (bytes b)

  -- the key is this text
  abbrev pub is_key : Text → K → Bool
  is_key text key = is_eq (text_cmp text (bytes key))

  -- the keys are the names of the directives found
  abbrev pub AreNames : List K → List Directive → Type 0
  AreNames keys found =
      (name : Text) → list_any (is_key name) keys ≡ list_any (λ other. bytes_eq name other.name) found
