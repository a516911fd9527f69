-- What a Strict-Transport-Security field says (RFC 6797, sections 6.1, 6.1.1 and 6.1.2).
use Rattle.std.specs.Prelude.{◌≡◌, ℕ, ◌||◌, Bool, true, false, List, [], ◌∷◌, codes, if◌then◌else◌}
use Rattle.std.specs.Prelude.{Option, Some, None, is_none, option_and_then, option_map}
use Rattle.std.specs.List.{find, list_any}
use Rattle.std.specs.Str.{bytes_eq}
use Rattle.value_text.specs.Texts.{Text}
use Rattle.value_text.specs.Digits.{capped_digits}
use Rattle.book_hosts.specs.Grammar.{IsField}
use Rattle.book_hosts.specs.declared.directives.Directive.{Directive}
use Rattle.book_hosts.specs.declared.sts.Sts.{Sts}

-- a name is there twice; names are in lower case here
abbrev pub has_twice : List Directive → Bool
has_twice [] = false
has_twice (directive ∷ directives) =
    list_any (λ other. bytes_eq directive.name other.name) directives || has_twice directives

-- the directive of a name
abbrev pub named : Text → List Directive → Option Directive
named name directives = find (λ directive. bytes_eq directive.name name) directives

-- the greatest max-age in seconds: a greater one counts as this (profile)
abbrev pub greatest_age : ℕ
greatest_age = 4294967295

-- the seconds that the value of max-age writes in digits; it has to be there and to have a value
abbrev pub max_age : List Directive → Option ℕ
max_age directives =
    option_and_then (λ digits. capped_digits digits greatest_age)
    (option_and_then (λ directive. directive.value) (named (codes "max-age") directives))

-- whether includeSubDomains is there; it must not have a value
abbrev pub is_flag : Option Directive → Option Bool
is_flag None = Some false
is_flag (Some directive) = if is_none directive.value then Some true else None

abbrev pub include_subdomains : List Directive → Option Bool
include_subdomains directives = is_flag (named (codes "includesubdomains") directives)

-- what directives say, if it is both an age and a flag; the others are ignored
abbrev pub sts_of : List Directive → Option Sts
sts_of directives =
    option_and_then (λ age. option_map (λ subdomains. record { age = age; subdomains = subdomains })
    (include_subdomains directives)) (max_age directives)

-- the value of a field that says this: directives by the grammar, no name twice, that say it
pub record IsSts (value : Text) (sts : Sts) : Type 0 where
  pub directives : List Directive
  pub is_field : IsField value directives
  pub each_once : has_twice directives ≡ false
  pub says : sts_of directives ≡ Some sts
