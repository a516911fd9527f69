-- Header lists: lists of names with their values, in order (Fetch, section 2.2.2).
use Rattle.std.specs.Prelude.{List, [], ◌∷◌, ◌++◌, Bool, not, map, filter, codes}
use Rattle.std.specs.Prelude.{Option, Some, None, if◌then◌else◌}
use Rattle.std.specs.List.{list_any}
use Rattle.std.specs.Str.{str_eq_ignore_ascii_case}
use Rattle.value_text.specs.Texts.{Text}
use Rattle.value_text.specs.Mime.{is_text}
use Rattle.value_headers.specs.declared.headers.Header.{Header}

-- the header has this name: names are byte-case-insensitive
abbrev pub is_named : Text → Header → Bool
is_named name header = str_eq_ignore_ascii_case header.name name

-- the spelling of the name in the first header that has it, or else this one
abbrev pub spelling : Text → List Header → Text
spelling name [] = name
spelling name (header ∷ headers) = if is_named name header then header.name else spelling name headers

-- "append": one more header, its name spelled as the list spells it already
abbrev pub appended : Text → Text → List Header → List Header
appended name value headers = headers ++ record { name = spelling name headers; value = value } ∷ []

-- each of these appended, in order
abbrev pub all_appended : List Header → List Header → List Header
all_appended [] headers = headers
all_appended (one ∷ more) headers = all_appended more (appended one.name one.value headers)

-- "contains": a header of the list has this name
abbrev pub contains : Text → List Header → Bool
contains name headers = list_any (is_named name) headers

-- "delete": the list without the headers of that name
abbrev pub without : Text → List Header → List Header
without name headers = filter (λ header. not (is_named name header)) headers

-- "set": the first header of that name has the value and the others are gone; where there is none,
-- one header more
abbrev pub with_only : Text → Text → List Header → List Header
with_only name value [] = record { name = name; value = value } ∷ []
with_only name value (header ∷ headers) =
    if is_named name header then record { name = header.name; value = value } ∷ without name headers
    else header ∷ with_only name value headers

-- the values of the headers of that name, in order
abbrev pub values_of : Text → List Header → List Text
values_of name headers = map (λ header. header.value) (filter (is_named name) headers)

-- texts, each with a comma and a space before it
abbrev pub after_comma : List Text → Text
after_comma [] = []
after_comma (text ∷ texts) = codes ", " ++ (text ++ after_comma texts)

-- the texts with a comma and a space between, where there is one
abbrev pub joined : List Text → Option Text
joined [] = None
joined (text ∷ texts) = Some (text ++ after_comma texts)

-- "get": all values of the name, joined; nothing where the list does not contain it
abbrev pub combined : Text → List Header → Option Text
combined name headers = joined (values_of name headers)

-- what "get" gives for the name is this text
abbrev pub has_value : Text → Text → List Header → Bool
has_value name text headers = is_text text (combined name headers)
