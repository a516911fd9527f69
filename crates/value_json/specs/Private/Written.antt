-- The keys of an object as it is written.
use Rattle.std.specs.Prelude.{◌&&◌, Bool, true, List}
use Rattle.json.specs.Json.{Members, no_members, member}
use Rattle.value_text.specs.Texts.{Text}
use Rattle.value_json.specs.Keys.{is_one_of}

-- each key is one of the names
abbrev pub written_known : List Text → Members → Bool
written_known names no_members = true
written_known names (member key value members) = is_one_of names key && written_known names members
