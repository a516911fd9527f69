-- What is left of a text that begins with joined values.
use Rattle.std.specs.Prelude.{Bool, ◌++◌, codes, if◌then◌else◌}
use Rattle.value_text.specs.Texts.{Text}

-- the value and the rest, with a comma and a space in front where another value was there
abbrev pub behind_value : Bool → Text → Text → Text
behind_value found value rest = if found then codes ", " ++ (value ++ rest) else value ++ rest
