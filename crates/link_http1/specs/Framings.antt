-- How the body of an answer is framed (RFC 9112, section 6.3; codings other than chunked are refused).
use Rattle.std.specs.Prelude.{ℕ, ◌^◌, ◌-◌, Bool, ◌||◌, ◌==◌, min, List, [], ◌∷◌, codes, Option, Some, None}
use Rattle.std.specs.Prelude.{if◌then◌else◌}
use Rattle.std.specs.List.{list_all}
use Rattle.std.specs.Str.{str_eq_ignore_ascii_case}
use Rattle.std.specs.Str.Parse.{digits_value}
use Rattle.value_text.specs.Texts.{Text}
use Rattle.value_text.specs.Digits.{writes}
use Rattle.value_text.specs.Trims.{tab_or_space, trimmed}
use Rattle.value_headers.specs.declared.headers.Header.{Header}
use Rattle.value_headers.specs.Headers.{combined}
use Rattle.value_lists.specs.Split.{split_values}
use Rattle.value_requests.specs.declared.hop.Head.{Head}
use Rattle.link_http1.specs.declared.framing.Framing.{Framing}
use Rattle.link_http1.specs.declared.framing.Framing.TheVariants as framing

-- such an answer has no body on the wire: No Content and Not Modified
abbrev pub has_no_body : ℕ → Bool
has_no_body status = status == 204 || status == 304

-- so many bytes, where all texts are digits of one number; as a number of 64 bits, which no body exceeds
abbrev pub by_lengths : List Text → Framing
by_lengths [] = framing.Broken
by_lengths (text ∷ texts) =
    if list_all (writes (digits_value 10 text)) (text ∷ texts)
    then framing.Length (min (digits_value 10 text) (2 ^ 64 - 1)) else framing.Broken

-- by the values of Content-Length, and to the end where there are none
abbrev pub by_length : Option (List Text) → Framing
by_length None = framing.ToEnd
by_length (Some texts) = by_lengths texts

-- by the values of Content-Length of a header list
abbrev pub of_content_length : List Header → Framing
of_content_length headers = by_length (split_values (codes "Content-Length") headers)

-- by the value of Transfer-Encoding: chunked alone is taken
abbrev pub of_coding : Text → Framing
of_coding coding =
    if str_eq_ignore_ascii_case (trimmed tab_or_space coding) (codes "chunked") then framing.Chunked
    else framing.Broken

-- by Transfer-Encoding where it is there, and else by Content-Length
abbrev pub by_coding : Option Text → List Header → Framing
by_coding None headers = of_content_length headers
by_coding (Some coding) headers = of_coding coding

-- the framing that a head tells
abbrev pub framing_of : Head → Framing
framing_of head =
    if has_no_body head.status then framing.Nothing
    else by_coding (combined (codes "Transfer-Encoding") head.headers) head.headers
