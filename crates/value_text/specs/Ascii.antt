-- The ASCII bytes that headers, policies and messages give a meaning to, by name.
use Rattle.std.specs.Prelude.{ℕ, Bool, ◌==◌, not}
use Rattle.std.specs.List.{list_all}
use Rattle.value_text.specs.Texts.{Text}

-- NUL
abbrev pub nul : ℕ
nul = 0

-- tab
abbrev pub tab : ℕ
tab = 9

-- LF
abbrev pub line_feed : ℕ
line_feed = 10

-- CR
abbrev pub carriage_return : ℕ
carriage_return = 13

-- a space
abbrev pub space : ℕ
space = 32

-- `"`
abbrev pub quotation_mark : ℕ
quotation_mark = 34

-- `%`
abbrev pub percent_sign : ℕ
percent_sign = 37

-- `+`
abbrev pub plus_sign : ℕ
plus_sign = 43

-- `,`
abbrev pub comma : ℕ
comma = 44

-- `-`
abbrev pub hyphen : ℕ
hyphen = 45

-- `.`
abbrev pub dot : ℕ
dot = 46

-- `/`
abbrev pub slash : ℕ
slash = 47

-- `0`
abbrev pub digit_zero : ℕ
digit_zero = 48

-- `:`
abbrev pub colon : ℕ
colon = 58

-- `;`
abbrev pub semicolon : ℕ
semicolon = 59

-- `=`
abbrev pub equals_sign : ℕ
equals_sign = 61

-- `?`
abbrev pub question_mark : ℕ
question_mark = 63

-- `\`
abbrev pub backslash : ℕ
backslash = 92

-- `_`
abbrev pub underscore : ℕ
underscore = 95

-- DEL
abbrev pub delete_byte : ℕ
delete_byte = 127

-- no byte of the text is a space
abbrev pub lacks_space : Text → Bool
lacks_space text = list_all (λ byte. not (byte == space)) text
