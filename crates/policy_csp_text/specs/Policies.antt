-- The policies of a header value (CSP 3, section 2.2, "parse a serialized CSP" and "parse a response's
-- Content Security Policies").
use Rattle.std.specs.Prelude.{ℕ, Bool, ◌==◌, not, List, [], ◌∷◌, length, map, filter, nat_lt, Option, Some, None}
use Rattle.std.specs.Prelude.{if◌then◌else◌}
use Rattle.std.specs.List.{filter_map, list_all, slice_split}
use Rattle.std.specs.Str.{bytes_eq, str_to_ascii_lowercase}
use Rattle.value_text.specs.Texts.{Text}
use Rattle.value_text.specs.Ascii.{comma, semicolon}
use Rattle.value_text.specs.Words.{words}
use Rattle.policy_csp_text.specs.declared.policy.Directive.{Directive}
use Rattle.policy_csp_text.specs.declared.policy.Policy.{Policy}

-- an ASCII byte
abbrev pub is_ascii : ℕ → Bool
is_ascii byte = nat_lt byte 128

-- the directive of a name and words: the name is in lower case
abbrev pub named : List Text → Option Directive
named [] = None
named (name ∷ values) = Some (record { name = str_to_ascii_lowercase name; words = values })

-- the directive of a token between semicolons: none of an empty one, and of one that is not ASCII
abbrev pub directive_of : Text → Option Directive
directive_of token = if list_all is_ascii token then named (words token) else None

-- the directive has this name
abbrev pub is_named : Text → Directive → Bool
is_named name directive = bytes_eq directive.name name

-- the first directive of each name, in order
abbrev pub first_of_each : List Directive → List Directive
first_of_each [] = []
first_of_each (directive ∷ directives) =
    directive ∷ filter (λ other. not (is_named directive.name other)) (first_of_each directives)

-- "parse a serialized CSP": the directives between the semicolons of a text
abbrev pub directives_of : Text → List Directive
directives_of text = first_of_each (filter_map directive_of (slice_split (λ byte. byte == semicolon) text))

-- a policy of these directives
abbrev pub policy_of : Bool → Text → Policy
policy_of enforced text = record { enforced = enforced; directives = directives_of text }

-- the policy has a directive
abbrev pub has_directives : Policy → Bool
has_directives policy = not (length policy.directives == 0)

-- the policies between the commas of a value; one without directives is dropped
abbrev pub policies_of : Bool → Text → List Policy
policies_of enforced value =
    filter has_directives (map (policy_of enforced) (slice_split (λ byte. byte == comma) value))
