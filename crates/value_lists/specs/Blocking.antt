-- Responses that are blocked for the essence of their MIME type (Fetch, "should response to request be
-- blocked due to its MIME type" and ".. due to nosniff"); no essence means a failure to extract one.
use Rattle.std.specs.Prelude.{Bool, false, not, ◌||◌, ◌&&◌, Option, Some, None, codes, nat_eq, bytes_eq}
use Rattle.std.specs.List.{starts_with}
use Rattle.value_text.specs.Texts.{Text}
use Rattle.value_text.specs.Mime.{is_text}
use Rattle.value_lists.specs.JavaScript.{is_javascript}

-- an audio, image or video MIME type, or `text/csv`
abbrev pub is_never_script : Text → Bool
is_never_script essence =
    starts_with nat_eq essence (codes "audio/") || starts_with nat_eq essence (codes "image/")
    || starts_with nat_eq essence (codes "video/") || bytes_eq essence (codes "text/csv")

-- "should response to request be blocked due to its MIME type", for a script or for another request
abbrev pub mime_blocked : Option Text → Bool → Bool
mime_blocked None script = false
mime_blocked (Some essence) script = script && is_never_script essence

-- there is an essence, and it is that of a JavaScript MIME type
abbrev pub is_javascript_essence : Option Text → Bool
is_javascript_essence None = false
is_javascript_essence (Some essence) = is_javascript essence

-- "should response to request be blocked due to nosniff", where the headers say nosniff: a script
-- needs a JavaScript MIME type, a style `text/css`
abbrev pub nosniff_blocked : Option Text → Bool → Bool → Bool
nosniff_blocked essence script style =
    (script && not (is_javascript_essence essence)) || (style && not (is_text (codes "text/css") essence))
