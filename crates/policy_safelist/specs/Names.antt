-- Lists of names, which are byte-case-insensitive (Fetch, section 2.2.2).
use Rattle.std.specs.Prelude.{Bool, List}
use Rattle.std.specs.List.{list_any}
use Rattle.std.specs.Str.{str_eq_ignore_ascii_case}
use Rattle.value_text.specs.Texts.{Text}

-- the name is one of these
abbrev pub is_among : List Text → Text → Bool
is_among names name = list_any (λ listed. str_eq_ignore_ascii_case listed name) names
