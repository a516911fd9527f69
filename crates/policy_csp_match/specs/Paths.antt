-- Whether the path of a host-source matches that of a URL (CSP 3, "path-part matches").
use Rattle.std.specs.Prelude.{Bool, ◌==◌, ◌-◌, ◌&&◌, List, length, take, nat_eq, nat_lt, bytes_eq, codes}
use Rattle.std.specs.Prelude.{if◌then◌else◌}
use Rattle.std.specs.Cmp.Lexicographic.{pointwise}
use Rattle.std.specs.List.{ends_with, slice_split, starts_with}
use Rattle.percent_encoding.specs.Percent.{percent_decode}
use Rattle.value_text.specs.Texts.{Text}
use Rattle.value_text.specs.Ascii.{slash}

-- the pieces of a path, which are between its slashes
abbrev pub pieces : Text → List Text
pieces path = slice_split (λ byte. byte == slash) path

-- all pieces but the last
abbrev pub without_last : List Text → List Text
without_last parts = take (length parts - 1) parts

-- two pieces are identical, percent-decoded
abbrev pub same_piece : Text → Text → Bool
same_piece a b = bytes_eq (percent_decode a) (percent_decode b)

-- the pieces of the URL begin with these, and there are more
abbrev pub goes_on : List Text → List Text → Bool
goes_on parts url_parts = nat_lt (length parts) (length url_parts) && starts_with same_piece url_parts parts

-- "path-part matches": where the path ends in `/`, its last piece, which is empty, is dropped, and the URL has the
-- others and more; else they have the same pieces
abbrev pub path_part_matches : Text → Text → Bool
path_part_matches path url_path =
    if ends_with nat_eq path (codes "/") then goes_on (without_last (pieces path)) (pieces url_path)
    else pointwise same_piece (pieces path) (pieces url_path)
