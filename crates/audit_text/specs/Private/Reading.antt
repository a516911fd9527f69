-- How the words of a history's line are read.
use Rattle.std.specs.Prelude.{ℕ, ◌+◌, ◌==◌, ◌&&◌, Bool, true, false, List, [], ◌∷◌, length, codes, bytes_eq, Option}
use Rattle.std.specs.Prelude.{Some, None, option_map, option_and_then, if◌then◌else◌}
use Rattle.std.specs.List.{before_first, list_all, slice_split}
use Rattle.value_text.specs.Texts.{Text}
use Rattle.value_text.specs.Ascii.{colon, comma, space}
use Rattle.value_text.specs.Tokens.{is_token}
use Rattle.value_decimal.specs.Decimals.{number_up_to}
use Rattle.book_calls.specs.declared.entry.Entry.{Entry}
use Rattle.book_calls.specs.declared.op.Op.{Op}
use Rattle.book_calls.specs.declared.op.Op.TheVariants.{Match, Note, Covers, Learn, Clear}
use Rattle.book_calls.specs.declared.op.Reply.{Reply}
use Rattle.book_calls.specs.declared.op.Reply.TheVariants.{Yes, No, Done}
use Rattle.book_preflights.specs.declared.question.Lesson.{Lesson}
use Rattle.book_preflights.specs.declared.question.Question.{Question}
use Rattle.audit_text.specs.declared.calls.Call.{Call}
use Rattle.audit_text.specs.declared.tail.Tail.{Tail}
use Rattle.play_text.specs.Words.{is_word}

-- ---- words

-- the words of a line: what is between its spaces
abbrev pub words_in : Text → List Text
words_in text = slice_split (λ byte. byte == space) text

-- a time before 2^48, with the colon after it
abbrev pub time_in : Text → Option ℕ
time_in word =
    if length (before_first (λ byte. byte == colon) word) + 1 == length word
    then number_up_to 281474976710655 (before_first (λ byte. byte == colon) word) else None

abbrev pub reply_in : Text → Option Reply
reply_in word =
    if bytes_eq word (codes "yes") then Some Yes else if bytes_eq word (codes "no") then Some No
    else if bytes_eq word (codes "done") then Some Done else None

abbrev pub credentials_in : Text → Option Bool
credentials_in word =
    if bytes_eq word (codes "include") then Some true else if bytes_eq word (codes "other") then Some false else None

abbrev pub subdomains_in : Text → Option Bool
subdomains_in word =
    if bytes_eq word (codes "sub") then Some true else if bytes_eq word (codes "exact") then Some false else None

abbrev pub method_in : Text → Option (Option Text)
method_in word =
    if bytes_eq word (codes "()") then Some None else if is_token word then Some (Some word) else None

-- tokens, joined by commas
abbrev pub tokens_in : List Text → Option (List Text)
tokens_in parts = if list_all is_token parts then Some parts else None

abbrev pub list_in : Text → Option (List Text)
list_in word =
    if bytes_eq word (codes "()") then Some [] else tokens_in (slice_split (λ byte. byte == comma) word)

-- ---- calls

abbrev pub tail : ℕ → Reply → Tail
tail now reply = record { now = now; reply = reply }

abbrev pub call : Op → Tail → Call
call op tail = record { op = op; reply = tail.reply }

-- `at`, the time and the reply
abbrev pub tail_in : List Text → Option Tail
tail_in (at ∷ now ∷ reply ∷ []) =
    if bytes_eq at (codes "at") then option_and_then (λ now. option_map (tail now) (reply_in reply)) (time_in now)
    else None
tail_in _ = None

-- what follows the name of each operation
abbrev pub match_in : List Text → Option Call
match_in (host ∷ rest) =
    if is_word host then option_map (λ tail. call (Match host tail.now) tail) (tail_in rest) else None
match_in [] = None

abbrev pub note_of : Text → ℕ → Bool → Tail → Call
note_of host age subdomains tail = call (Note host (record { age = age; subdomains = subdomains }) tail.now) tail

abbrev pub note_in : List Text → Option Call
note_in (host ∷ age ∷ subdomains ∷ rest) =
    if is_word host then option_and_then (λ age. option_and_then (λ subdomains.
    option_map (note_of host age subdomains) (tail_in rest)) (subdomains_in subdomains))
    (number_up_to 281474976710655 age)
    else None
note_in _ = None

abbrev pub question_of : Text → Text → Bool → Option Text → Text → List Text → Question
question_of key origin include method url names = record {
  key = key;
  origin = origin;
  url = url;
  include = include;
  method = method;
  names = names;
}

abbrev pub covers_in : List Text → Option Call
covers_in (key ∷ origin ∷ credentials ∷ method ∷ names ∷ url ∷ rest) =
    if is_word key && is_word origin && is_word url then option_and_then (λ include. option_and_then (λ tail.
    option_and_then (λ method. option_map (λ names.
    call (Covers (question_of key origin include method url names) tail.now) tail)
    (list_in names)) (method_in method)) (tail_in rest)) (credentials_in credentials)
    else None
covers_in _ = None

abbrev pub lesson_of : Text → Text → Bool → ℕ → Text → List Text → List Text → Lesson
lesson_of key origin include age url methods names = record {
  key = key;
  origin = origin;
  url = url;
  include = include;
  age = age;
  methods = methods;
  names = names;
}

abbrev pub learn_in : List Text → Option Call
learn_in (key ∷ origin ∷ credentials ∷ age ∷ methods ∷ names ∷ url ∷ rest) =
    if is_word key && is_word origin && is_word url then option_and_then (λ include. option_and_then (λ age.
    option_and_then (λ tail. option_and_then (λ methods. option_map (λ names.
    call (Learn (lesson_of key origin include age url methods names) tail.now) tail)
    (list_in names)) (list_in methods)) (tail_in rest)) (number_up_to 7200 age)) (credentials_in credentials)
    else None
learn_in _ = None

abbrev pub clear_in : List Text → Option Call
clear_in (key ∷ origin ∷ url ∷ rest) =
    if is_word key && is_word origin && is_word url
    then option_map (λ tail. call (Clear key origin url tail.now) tail) (tail_in rest) else None
clear_in _ = None

-- a call: the name of the operation, and what follows it
abbrev pub call_in : List Text → Option Call
call_in [] = None
call_in (name ∷ words) =
    if bytes_eq name (codes "match") then match_in words else if bytes_eq name (codes "note") then note_in words
    else if bytes_eq name (codes "covers") then covers_in words
    else if bytes_eq name (codes "learn") then learn_in words
    else if bytes_eq name (codes "clear") then clear_in words else None

-- ---- entries

abbrev pub entry_of : ℕ → ℕ → Call → Entry
entry_of turn document call =
    record { turn = turn; document = document; op = call.op; reply = call.reply }

abbrev pub entry_in : List Text → Option Entry
entry_in (turn ∷ document ∷ words) =
    option_and_then (λ turn. option_and_then (λ document. option_map (entry_of turn document) (call_in words))
    (number_up_to 4294967295 document)) (number_up_to 18446744073709551615 turn)
entry_in _ = None
