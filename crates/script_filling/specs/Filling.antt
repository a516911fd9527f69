-- What is handed on of header values and bodies whose placeholders are replaced: no more than is needed to see that
-- they are longer than those of a request may be (this project's own).
use Rattle.std.specs.Prelude.{ℕ, ◌&&◌, ◌==◌, ◌++◌, ◌∷◌, [], Bool, true, not, nat_lt, length, map, take}
use Rattle.std.specs.Prelude.{option_map}
use Rattle.std.specs.Prelude.{Option, Some, None, if◌then◌else◌}
use Rattle.std.specs.List.{list_any}
use Rattle.value_text.specs.Texts.{Text}
use Rattle.value_text.specs.Values.{is_header_value}
use Rattle.value_requests.specs.declared.init.Init.{Init}
use Rattle.value_requests.specs.declared.init.LoadInit.{LoadInit}
use Rattle.value_requests.specs.declared.init.Pair.{Pair}

-- the byte behind what is kept of a value: a letter, or NUL, which no header value has, where the value is none
abbrev pub mark : Text → ℕ
mark value = if is_header_value value then 97 else 0

-- a header value, or the first 16,384 bytes of a longer one, with which the headers of a request are too long, and its
-- mark
abbrev pub cut_value : Text → Text
cut_value value = if nat_lt 16384 (length value) then take 16384 value ++ mark value ∷ [] else value

-- a header, its value cut so
abbrev pub cut_pair : Pair → Pair
cut_pair pair = record { name = pair.name; value = cut_value pair.value }

-- the first 65,537 bytes of a body, where one of 65,536 may be sent
abbrev pub cut_body : Text → Text
cut_body body = take 65537 body

-- what is asked for, with its headers and its body cut so
abbrev pub with_cuts : Init → Init
with_cuts init = record init { headers = map cut_pair init.headers; body = option_map cut_body init.body }

-- the first 786,433 bytes of the text of a URL, where one of 786,432 may give a URL
abbrev pub cut_url : Text → Text
cut_url text = take 786433 text

-- what a load asks for, with its URL cut so
abbrev pub with_url_cut : LoadInit → LoadInit
with_url_cut init = record init { url = cut_url init.url }

-- what a fetch asks for, with its URL cut so, too
abbrev pub with_all_cuts : Init → Init
with_all_cuts init = record (with_cuts init) { url = cut_url init.url }

-- the text has no `$`
abbrev pub lacks_dollar : Text → Bool
lacks_dollar text = not (list_any (λ byte. byte == 36) text)

-- there is no text, or one without a `$`
abbrev pub lacks_dollar_in : Option Text → Bool
lacks_dollar_in None = true
lacks_dollar_in (Some text) = lacks_dollar text

-- without headers and without a `$` there is nothing to replace and nothing to normalise
abbrev pub is_plain : Init → Bool
is_plain init = length init.headers == 0 && lacks_dollar init.url && lacks_dollar_in init.body
