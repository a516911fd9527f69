-- Bodies of responses: which are null (Fetch, "main fetch", step 21), and which are coded (RFC 9110, section 8.4).
use Rattle.std.specs.Prelude.{Bool, false, not, ◌==◌, ◌&&◌, ◌||◌, List, length, codes, bytes_eq, Option, Some, None}
use Rattle.std.specs.List.{list_any}
use Rattle.value_text.specs.Texts.{Text}
use Rattle.value_lists.specs.Split.{split_values}
use Rattle.value_requests.specs.declared.hop.Head.{Head}
use Rattle.value_requests.specs.declared.request.Request.{Request}
use Rattle.value_requests.specs.Statuses.{is_null_body_status}

-- the answer has no body: that to HEAD has none, nor one of a null body status
abbrev pub has_null_body : Request → Head → Bool
has_null_body request head = bytes_eq request.method (codes "HEAD") || is_null_body_status head.status

-- a coding that changes the body: another than `identity`, byte for byte (this project's own choice)
abbrev pub is_other_coding : Text → Bool
is_other_coding coding = not (length coding == 0) && not (bytes_eq coding (codes "identity"))

-- one of the codings, where there are some, changes the body
abbrev pub changes_body : Option (List Text) → Bool
changes_body None = false
changes_body (Some codings) = list_any is_other_coding codings

-- the body is coded: a split value of Content-Encoding changes it; no coding is decoded here
abbrev pub is_coded : Head → Bool
is_coded head = changes_body (split_values (codes "Content-Encoding") head.headers)
