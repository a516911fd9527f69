-- Laws of the printed text: that of a history gives the history back (the output of `fetchplay play`).
use Rattle.std.specs.Prelude.{◌≡◌, ◌≢◌, ℕ, ◌<◌, ◌^◌, ◌==◌, not, IsTrue, List, codes, IfSome}
use Rattle.std.specs.List.{All, list_all}
use Rattle.book_calls.specs.declared.entry.Entry.{Entry}
use Rattle.book_calls.specs.declared.op.Op.{Op}
use Rattle.book_calls.specs.declared.op.Op.TheVariants.{Match, Note, Covers, Learn, Clear}
use Rattle.book_calls.specs.Ops.{time_of}
use Rattle.book_preflights.specs.declared.question.Lesson.{Lesson}
use Rattle.book_preflights.specs.declared.question.Question.{Question}
use Rattle.value_text.specs.Texts.{Text}
use Rattle.value_text.specs.Ascii.{comma, lacks_space}
use Rattle.play_text.specs.Text.{history_text}

-- ---- what can be read back

-- a number of 64 bits
abbrev pub IsNumber : ℕ → Type 0
IsNumber n = n < 2 ^ 64

-- a word: a text without a space
abbrev pub IsWord : Text → Type 0
IsWord text = IsTrue (lacks_space text)

-- a word other than `()`, which is written where there is none
abbrev pub IsNamed : Text → Type 0
IsNamed text = IsWord text × (text ≢ codes "()")

-- such a word without a comma, which separates the words of a list
abbrev pub IsListed : Text → Type 0
IsListed text = IsNamed text × IsTrue (list_all (λ byte. not (byte == comma)) text)

-- what a request would need of the preflight cache
pub record IsReadableQuestion (question : Question) : Type 0 where
  pub key : IsWord question.key
  pub origin : IsWord question.origin
  pub method : IfSome question.method IsNamed
  pub names : All IsListed question.names
  pub url : IsWord question.url

-- what a preflight taught
pub record IsReadableLesson (lesson : Lesson) : Type 0 where
  pub key : IsWord lesson.key
  pub origin : IsWord lesson.origin
  pub age : IsNumber lesson.age
  pub methods : All IsListed lesson.methods
  pub names : All IsListed lesson.names
  pub url : IsWord lesson.url

-- an operation, its time aside
abbrev pub IsReadableOp : Op → Type 0
IsReadableOp (Match host now) = IsWord host
IsReadableOp (Note host sts now) = IsWord host × IsNumber sts.age
IsReadableOp (Covers question now) = IsReadableQuestion question
IsReadableOp (Learn lesson now) = IsReadableLesson lesson
IsReadableOp (Clear key origin url now) = IsWord key × IsWord origin × IsWord url

-- an entry of the history
pub record IsReadable (entry : Entry) : Type 0 where
  pub turn : IsNumber entry.turn
  pub document : IsNumber entry.document
  pub time : IsNumber (time_of entry.op)
  pub op : IsReadableOp entry.op

-- ---- laws

-- two such histories with one text are one history
abbrev pub HasOneHistory : Type 0
HasOneHistory =
    (one other : List Entry) → All IsReadable one → All IsReadable other → history_text one ≡ history_text other
    → one ≡ other
