-- The essence of the MIME type that headers give (Fetch, "extract a MIME type").
use Rattle.std.specs.Prelude.{◌-◌, List, [], length, slice_get, codes, Option, None, unwrap_or, if◌then◌else◌}
use Rattle.std.specs.List.{filter_map}
use Rattle.value_text.specs.Texts.{Text}
use Rattle.value_text.specs.Mime.{essence_of_value, has_essence}
use Rattle.value_lists.specs.Split.{split_values}
use Rattle.value_headers.specs.declared.headers.Header.{Header}

-- the essence of a value that is a MIME type other than `*/*`
abbrev pub specific_essence : Text → Option Text
specific_essence value = if has_essence value (codes "*/*") then None else essence_of_value value

-- the last of a list
abbrev pub last_of : List Text → Option Text
last_of items = slice_get items (length items - 1)

-- the last of the values' essences
abbrev pub last_essence : List Text → Option Text
last_essence values = last_of (filter_map specific_essence values)

-- the essence of the last split value of Content-Type that is a MIME type other than `*/*`
abbrev pub essence_of : List Header → Option Text
essence_of headers = last_essence (unwrap_or (split_values (codes "Content-Type") headers) [])
