-- What X-Content-Type-Options says (Fetch, "determine nosniff").
use Rattle.std.specs.Prelude.{Bool, false, List, [], ◌∷◌, Option, Some, None, codes}
use Rattle.std.specs.Str.{str_eq_ignore_ascii_case}
use Rattle.value_text.specs.Texts.{Text}
use Rattle.value_lists.specs.Split.{split_values}
use Rattle.value_headers.specs.declared.headers.Header.{Header}

-- there is a first value, and it is `nosniff`, ASCII case aside
abbrev pub begins_with_nosniff : Option (List Text) → Bool
begins_with_nosniff None = false
begins_with_nosniff (Some []) = false
begins_with_nosniff (Some (value ∷ values)) = str_eq_ignore_ascii_case value (codes "nosniff")

-- the first split value of X-Content-Type-Options is `nosniff`, ASCII case aside
abbrev pub nosniff : List Header → Bool
nosniff headers = begins_with_nosniff (split_values (codes "X-Content-Type-Options") headers)
