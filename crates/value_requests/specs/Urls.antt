-- URLs read from texts (URL Standard, section 4.4), and what is left of a URL that is told to others.
use Rattle.std.specs.Prelude.{◌≡◌, Bool, true, [], length, nat_le, Option, Some, None, if◌then◌else◌}
use Rattle.std.specs.Result.{result_ok}
use Rattle.std.specs.Str.{is_utf8}
use Rattle.url.specs.Parser.{parse_url}
use Rattle.url.specs.declared.scheme.SchemeType.TheVariants.{SpecialNotFile}
use Rattle.url.specs.Parts.{Parts, has_host, kind_of, serialize}
use Rattle.value_text.specs.Texts.{Text}

-- the text that bytes are, where they are UTF-8
abbrev pub utf8_text : Text → Option Text
utf8_text bytes = if is_utf8 bytes then Some bytes else None

-- the URL that a text gives, with or without a base, where it gives one
abbrev pub url_of_text : Option Parts → Option Text → Option Parts
url_of_text base None = None
url_of_text base (Some text) = result_ok (parse_url base text)

-- the URL that bytes give against a base, unless they are not UTF-8 or no URL
abbrev pub url_against : Parts → Text → Option Parts
url_against base text = url_of_text (Some base) (utf8_text text)

-- the text of the URL has at most 8,192 bytes, as that of each URL that is fetched (this project's own choice)
abbrev pub is_short_url : Parts → Bool
is_short_url url = nat_le (length (serialize url)) 8192

-- a URL with a text that is so short
abbrev pub unless_long : Option Parts → Option Parts
unless_long None = None
unless_long (Some url) = if is_short_url url then Some url else None

-- the text of a URL without its fragment
abbrev pub without_fragment : Parts → Text
without_fragment url = serialize (record url { fragment = None })

-- the URL without user name, password and fragment
abbrev pub stripped : Parts → Parts
stripped url = record url { username = []; password = []; fragment = None }

-- A special URL that is no file, with a host, as every http and https URL is: what the setters of a URL ask for.
abbrev pub IsWeb : Parts → Type 0
IsWeb url = (kind_of url ≡ SpecialNotFile) × (has_host url ≡ true)
