-- Names collected one by one: what is new to those that were found.
use Rattle.std.specs.Prelude.{Bool, List, [], ◌∷◌, ◌++◌, not, if◌then◌else◌}
use Rattle.std.specs.List.{list_any}
use Rattle.std.specs.Str.{str_eq_ignore_ascii_case}
use Rattle.value_text.specs.Texts.{Text}

-- none of the names found is this one, ASCII case aside
abbrev pub is_new : List Text → Text → Bool
is_new found name = not (list_any (λ other. str_eq_ignore_ascii_case other name) found)

-- the names found and one more, where it is new
abbrev pub with_new : Text → List Text → List Text
with_new name found = if is_new found name then found ++ name ∷ [] else found
