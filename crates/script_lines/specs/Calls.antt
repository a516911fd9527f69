-- The printed text of what was done on the shared book: an operation with its time, and what it replied (the output of
-- `fetchplay play`).
use Rattle.std.specs.Prelude.{ℕ, Bool, true, false, List, [], ◌∷◌, ◌++◌, codes, decimal, Option, Some, None}
use Rattle.script_lines.specs.Words.{Clear, Covers, Done, Learn, Lesson, Match, No, Note, Op, Question, Reply, Sts}
use Rattle.script_lines.specs.Words.{Text, Yes, flat_map}

-- what an operation replied
abbrev pub reply_text : Reply → Text
reply_text Yes = codes "yes"
reply_text No = codes "no"
reply_text Done = codes "done"

-- texts, each after a comma
abbrev pub comma_texts : List Text → Text
comma_texts texts = flat_map (λ text. codes "," ++ text) texts

-- a list of texts, joined by commas; the empty one is written `()`
abbrev pub list_text : List Text → Text
list_text [] = codes "()"
list_text (text ∷ texts) = text ++ comma_texts texts

-- the method that is asked for; `()` where there is none
abbrev pub method_text : Option Text → Text
method_text None = codes "()"
method_text (Some method) = method

-- whether the credentials mode is include
abbrev pub credentials_text : Bool → Text
credentials_text true = codes "include"
credentials_text false = codes "other"

-- whether the names under a host are meant too (RFC 6797, section 6.1.2)
abbrev pub subdomains_text : Bool → Text
subdomains_text true = codes "sub"
subdomains_text false = codes "exact"

-- what a Strict-Transport-Security field said: for how long a host is known, and whether the names under it are too
abbrev pub sts_text : Sts → Text
sts_text sts = decimal sts.age ++ codes " " ++ subdomains_text sts.subdomains

-- what a request would need of the preflight cache
abbrev pub question_text : Question → Text
question_text question =
    question.key ++ codes " " ++ question.origin ++ codes " " ++ credentials_text question.include ++ codes " "
    ++ method_text question.method ++ codes " " ++ list_text question.names ++ codes " " ++ question.url

-- what a preflight taught
abbrev pub lesson_text : Lesson → Text
lesson_text lesson =
    lesson.key ++ codes " " ++ lesson.origin ++ codes " " ++ credentials_text lesson.include ++ codes " "
    ++ decimal lesson.age ++ codes " " ++ list_text lesson.methods ++ codes " " ++ list_text lesson.names
    ++ codes " " ++ lesson.url

-- the time of an operation, in seconds
abbrev pub time_text : ℕ → Text
time_text now = codes " at " ++ decimal now

-- an operation and its time; its texts are written as they are
abbrev pub op_text : Op → Text
op_text (Match host now) = codes "match " ++ host ++ time_text now
op_text (Note host sts now) = codes "note " ++ host ++ codes " " ++ sts_text sts ++ time_text now
op_text (Covers question now) = codes "covers " ++ question_text question ++ time_text now
op_text (Learn lesson now) = codes "learn " ++ lesson_text lesson ++ time_text now
op_text (Clear key origin url now) =
    codes "clear " ++ key ++ codes " " ++ origin ++ codes " " ++ url ++ time_text now

-- an operation, and what it replied
abbrev pub call_text : Op → Reply → Text
call_text op reply = op_text op ++ codes ": " ++ reply_text reply
