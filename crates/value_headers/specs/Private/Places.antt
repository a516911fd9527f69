-- Where a header is in a list.
use Rattle.std.specs.Prelude.{ℕ, List, [], ◌∷◌, ◌+◌, if◌then◌else◌}
use Rattle.value_text.specs.Texts.{Text}
use Rattle.value_headers.specs.Headers.{is_named}
use Rattle.value_headers.specs.declared.headers.Header.{Header}

-- where the first header of that name is, or the length where there is none
abbrev pub first_of : Text → List Header → ℕ
first_of name [] = 0
first_of name (header ∷ headers) = if is_named name header then 0 else first_of name headers + 1
