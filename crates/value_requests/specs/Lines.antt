-- Header lines: as bytes, and where there is a value, as in a request that is sent (Fetch, section 4.6).
use Rattle.std.specs.Prelude.{List, [], ◌∷◌, ◌++◌, codes, Option, Some, None}
use Rattle.value_text.specs.Texts.{Text}
use Rattle.value_headers.specs.declared.headers.Header.{Header}
use Rattle.value_headers.specs.Headers.{appended}

-- a header on its line (RFC 9112, sections 2.1 and 5)
abbrev pub field_line : Text → Text → Text
field_line name value = name ++ (codes ": " ++ (value ++ codes "\r\n"))

-- a header of this name and value
abbrev pub header : Text → Text → Header
header name value = record { name = name; value = value }

-- ---- lists of lines

-- a name, and its value where there is one
pub record Line : Type 0 where
  pub name : Text
  pub value : Option Text

-- a line of this name and value
abbrev pub line : Text → Text → Line
line name value = record { name = name; value = Some value }

-- a line of this name, where there is a value
abbrev pub line_where : Text → Option Text → Line
line_where name value = record { name = name; value = value }

-- the list with the header appended, where there is a value
unfoldable pub appended_where : Text → Option Text → List Header → List Header
appended_where name None headers = headers
appended_where name (Some value) headers = appended name value headers

-- the list with each line appended that has a value, in order
abbrev pub all_appended_where : List Line → List Header → List Header
all_appended_where [] headers = headers
all_appended_where (one ∷ more) headers = all_appended_where more (appended_where one.name one.value headers)

-- ---- values that are the same in every request (this project's own choice)

-- the user agent's name, as the value of User-Agent ("default `User-Agent` value", Fetch, section 2.2.2)
abbrev pub user_agent : Text
user_agent = codes "fetchplay/1"

-- the value of Accept-Encoding: it asks for bodies as they are, without a coding
abbrev pub accept_encoding : Text
accept_encoding = codes "identity"

-- the value of Connection: it asks that the connection is closed after the answer
abbrev pub connection : Text
connection = codes "close"
