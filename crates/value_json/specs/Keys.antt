-- The keys that an object may have.
use Rattle.std.specs.Prelude.{◌&&◌, Bool, true, false, List, bytes_eq, Option, Some, None}
use Rattle.std.specs.List.{list_any}
use Rattle.serde_json.specs.Data.{Members, no_members, member}
use Rattle.value_text.specs.Texts.{Text}

-- the key is one of the names
abbrev pub is_one_of : List Text → Text → Bool
is_one_of names key = list_any (λ name. bytes_eq name key) names

-- each key is one of the names
abbrev pub known : List Text → Members → Bool
known names no_members = true
known names (member key value members) = is_one_of names key && known names members

-- an object with no keys but these
abbrev pub has_keys : List Text → Option Members → Bool
has_keys names None = false
has_keys names (Some members) = known names members
