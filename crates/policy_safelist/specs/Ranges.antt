-- Values of Range that are safelisted: one range of bytes with a start, written without whitespace
-- (Fetch, section 2.2.2, "parse a single range header value").
use Rattle.std.specs.Prelude.{Bool, ◌==◌, ◌||◌, ◌&&◌, nat_eq, length, drop, codes}
use Rattle.std.specs.Prelude.{is_some}
use Rattle.std.specs.List.{after_first, before_first, position, starts_with}
use Rattle.value_text.specs.Texts.{Text}
use Rattle.value_text.specs.Ascii.{hyphen}
use Rattle.value_text.specs.Digits.{digits_at_most, is_digits}

-- what is before the first dash
abbrev pub start_of : Text → Text
start_of text = before_first (λ byte. byte == hyphen) text

-- what is after the first dash
abbrev pub end_of : Text → Text
end_of text = after_first (λ byte. byte == hyphen) text

-- the end is left out, or it is digits and not below the start
abbrev pub is_end_of : Text → Text → Bool
is_end_of start end = length end == 0 || (is_digits end && digits_at_most start end)

-- the text has a dash
abbrev pub has_dash : Text → Bool
has_dash text = is_some (position (λ byte. byte == hyphen) text)

-- digits, a dash, and an end
abbrev pub is_span : Text → Bool
is_span text = has_dash text && is_digits (start_of text) && is_end_of (start_of text) (end_of text)

-- the unit `bytes`, an equals sign and a span
abbrev pub is_simple_range : Text → Bool
is_simple_range value = starts_with nat_eq value (codes "bytes=") && is_span (drop 6 value)
