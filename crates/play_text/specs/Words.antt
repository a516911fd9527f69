-- Which operations a line of the printed text can tell (the output of `fetchplay play`).
use Rattle.std.specs.Prelude.{ℕ, ◌==◌, ◌&&◌, Bool, true, not, nat_lt, length, Option, Some, None}
use Rattle.std.specs.List.{list_all}
use Rattle.value_text.specs.Texts.{Text}
use Rattle.value_text.specs.Ascii.{delete_byte, space}
use Rattle.value_text.specs.Tokens.{is_token}
use Rattle.book_calls.specs.declared.op.Op.{Op}
use Rattle.book_calls.specs.declared.op.Op.TheVariants.{Match, Note, Covers, Learn, Clear}

-- a byte of printable ASCII other than a space
abbrev pub is_visible : ℕ → Bool
is_visible byte = nat_lt space byte && nat_lt byte delete_byte

-- a word: one such byte or more
abbrev pub is_word : Text → Bool
is_word text = not (length text == 0) && list_all is_visible text

-- there is no method, or it is a token
abbrev pub is_method : Option Text → Bool
is_method None = true
is_method (Some method) = is_token method

-- the op's method, methods and names are tokens, and its other texts are words
abbrev pub has_words : Op → Bool
has_words (Match host now) = is_word host
has_words (Note host sts now) = is_word host
has_words (Covers question now) =
    is_word question.key && is_word question.origin && is_method question.method && list_all is_token question.names
    && is_word question.url
has_words (Learn lesson now) =
    is_word lesson.key && is_word lesson.origin && list_all is_token lesson.methods && list_all is_token lesson.names
    && is_word lesson.url
has_words (Clear key origin url now) = is_word key && is_word origin && is_word url
