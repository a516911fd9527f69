-- Texts that are serialised origins (HTML, section 7.1.1), as tables of origins have them.
use Rattle.std.specs.Prelude.{Bool, bytes_eq, Option, Some, None, is_some, option_and_then, if◌then◌else◌}
use Rattle.value_text.specs.Texts.{Text}
use Rattle.value_origins.specs.Origins.{origin_of, serialized}
use Rattle.value_origins.specs.declared.origin.Origin.{Origin}
use Rattle.value_requests.specs.Urls.{url_of_text, utf8_text}

-- the origin of the URL that a text gives, where it gives one that has an origin
abbrev pub origin_in : Option Text → Option Origin
origin_in text = option_and_then origin_of (url_of_text None text)

-- the origin, where the text is its serialisation
abbrev pub where_serialized : Text → Option Origin → Option Origin
where_serialized text None = None
where_serialized text (Some origin) = if bytes_eq (serialized origin) text then Some origin else None

-- the origin of an http or https URL whose serialisation the text is, where it is one
abbrev pub origin_of_text : Text → Option Origin
origin_of_text text = where_serialized text (origin_in (utf8_text text))

-- the text is the serialised origin of an http or https URL
abbrev pub is_origin_text : Text → Bool
is_origin_text text = is_some (origin_of_text text)
