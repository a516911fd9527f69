-- Domain names: their labels (RFC 1034, section 3.1), and localhost names (Secure Contexts, section 3.1).
use Rattle.std.specs.Prelude.{Bool, ◌||◌, ◌==◌, ◌-◌, List, length, take, drop, codes}
use Rattle.std.specs.Prelude.{nat_eq, bytes_eq, if◌then◌else◌}
use Rattle.value_text.specs.Texts.{Text}
use Rattle.value_text.specs.Ascii.{dot}
use Rattle.std.specs.List.{ends_with, join_with_byte, slice_split}

-- the name without one last dot
abbrev pub without_last_dot : Text → Text
without_last_dot name = if ends_with nat_eq name (codes ".") then take (length name - 1) name else name

-- the name is `localhost`, or ends in `.localhost`
abbrev pub is_localhost_or_under : Text → Bool
is_localhost_or_under name = bytes_eq name (codes "localhost") || ends_with nat_eq name (codes ".localhost")

-- a localhost name: one last dot is allowed
abbrev pub is_local_name : Text → Bool
is_local_name name = is_localhost_or_under (without_last_dot name)

-- the labels of a name, which are between its dots; a label may be empty
abbrev pub labels : Text → List Text
labels name = slice_split (λ byte. byte == dot) name

-- the last two labels, or all where there are fewer
abbrev pub last_two : List Text → List Text
last_two parts = drop (length parts - 2) parts

-- the last two labels of a name, with the dot between
abbrev pub last_two_labels : Text → Text
last_two_labels name = join_with_byte dot (last_two (labels name))
