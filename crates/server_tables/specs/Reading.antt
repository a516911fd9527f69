-- The text of an allow table: a row on each line, `ORIGIN METHODS NAMES CRED`, as in
-- `http://a.test GET,PUT x-a include`. The text, its limits and its refusals are this project's.
use Rattle.std.specs.Prelude.{ℕ, suc, Bool, true, false, ◌&&◌, not, ◌==◌, nat_le, List, [], ◌∷◌, length, map, codes}
use Rattle.std.specs.Prelude.{bytes_eq, Option, Some, None, Result, Ok, Err, if◌then◌else◌}
use Rattle.std.specs.List.{list_all, slice_split}
use Rattle.std.specs.Str.{str_to_ascii_lowercase}
use Rattle.value_text.specs.Texts.{Text}
use Rattle.value_text.specs.Ascii.{comma, line_feed, space}
use Rattle.value_text.specs.Tokens.{is_token}
use Rattle.value_text.specs.Wildcards.{is_wildcard}
use Rattle.value_requests.specs.OriginTexts.{is_origin_text}
use Rattle.server_tables.specs.declared.table.Row.{Row}
use Rattle.server_tables.specs.declared.read.BadLine.{BadLine}

-- how many rows a table has at most
abbrev pub most_rows : ℕ
most_rows = 256

-- how many bytes a line has at most, its LF aside
abbrev pub most_in_line : ℕ
most_in_line = 4096

-- a method or a name that a row may list: a token other than `*`
abbrev pub may_be_listed : Text → Bool
may_be_listed text = is_token text && not (is_wildcard text)

-- the texts, where each of them may be listed
abbrev pub where_listed : List Text → Option (List Text)
where_listed texts = if list_all may_be_listed texts then Some texts else None

-- a list: `()` for none, or texts with a comma between
abbrev pub listed : Text → Option (List Text)
listed text =
    if bytes_eq text (codes "()") then Some [] else where_listed (slice_split (λ byte. byte == comma) text)

-- whether a row has credentials
abbrev pub credentials_in : Text → Option Bool
credentials_in text =
    if bytes_eq text (codes "include") then Some true else if bytes_eq text (codes "other") then Some false else None

-- a row of what its four parts give. Names are kept in lower case.
abbrev pub row_with : Text → Option (List Text) → Option (List Text) → Option Bool → Option Row
row_with origin (Some methods) (Some names) (Some credentials) =
    Some (record {
      origin = origin;
      methods = methods;
      names = map str_to_ascii_lowercase names;
      credentials = credentials;
    })
row_with _ _ _ _ = None

-- a row of the parts of a line: an origin, methods, names and credentials
abbrev pub row_of_parts : List Text → Option Row
row_of_parts (origin ∷ methods ∷ names ∷ credentials ∷ []) =
    if is_origin_text origin then row_with origin (listed methods) (listed names) (credentials_in credentials) else None
row_of_parts _ = None

-- the row that a line is, if it is one
abbrev pub row_in : Text → Option Row
row_in line =
    if nat_le (length line) most_in_line then row_of_parts (slice_split (λ byte. byte == space) line) else None

-- the row of the line with this number
abbrev pub numbered_row : ℕ → Text → Option Row
numbered_row number line = if nat_le number most_rows then row_in line else None

-- this row and those after it, where they are rows
abbrev pub row_before : Row → Result (List Row) BadLine → Result (List Row) BadLine
row_before row (Ok rows) = Ok (row ∷ rows)
row_before row (Err bad) = Err bad

-- the row of the line with this number and those after it
abbrev pub with_row : ℕ → Option Row → Result (List Row) BadLine → Result (List Row) BadLine
with_row number None rows = Err (record { line = number })
with_row number (Some row) rows = row_before row rows

-- the rows of the parts between LFs, of which the first is the line with this number. What follows the last LF is to be
-- empty, or it is a line that has no LF.
abbrev pub rows_from : ℕ → List Text → Result (List Row) BadLine
rows_from number [] = Ok []
rows_from number ([] ∷ []) = Ok []
rows_from number ((byte ∷ line) ∷ []) = Err (record { line = number })
rows_from number (line ∷ part ∷ parts) =
    with_row number (numbered_row number line) (rows_from (suc number) (part ∷ parts))

-- the table that the text is, or its first line that has not the form, counted from 1
abbrev pub table_of : Text → Result (List Row) BadLine
table_of text = rows_from 1 (slice_split (λ byte. byte == line_feed) text)
