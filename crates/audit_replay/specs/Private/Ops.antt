-- Whether two ops are one, part by part.
use Rattle.std.specs.Prelude.{◌==◌, ◌&&◌, Bool, true, false, List, [], ◌∷◌, bytes_eq, Option, Some, None}
use Rattle.value_text.specs.Texts.{Text}
use Rattle.book_calls.specs.declared.op.Op.{Op}
use Rattle.book_calls.specs.declared.op.Op.TheVariants.{Match, Note, Covers, Learn, Clear}
use Rattle.book_hosts.specs.declared.sts.Sts.{Sts}
use Rattle.book_preflights.specs.declared.question.Lesson.{Lesson}
use Rattle.book_preflights.specs.declared.question.Question.{Question}

abbrev pub bool_eq : Bool → Bool → Bool
bool_eq true true = true
bool_eq false false = true
bool_eq true false = false
bool_eq false true = false

abbrev pub texts_eq : List Text → List Text → Bool
texts_eq [] [] = true
texts_eq [] (text ∷ texts) = false
texts_eq (text ∷ texts) [] = false
texts_eq (one ∷ texts) (other ∷ others) = bytes_eq one other && texts_eq texts others

abbrev pub method_eq : Option Text → Option Text → Bool
method_eq None None = true
method_eq (Some one) (Some other) = bytes_eq one other
method_eq None (Some other) = false
method_eq (Some one) None = false

abbrev pub sts_eq : Sts → Sts → Bool
sts_eq one other = one.age == other.age && bool_eq one.subdomains other.subdomains

abbrev pub question_eq : Question → Question → Bool
question_eq one other =
    bytes_eq one.key other.key && bytes_eq one.origin other.origin && bytes_eq one.url other.url
    && bool_eq one.include other.include && method_eq one.method other.method && texts_eq one.names other.names

abbrev pub lesson_eq : Lesson → Lesson → Bool
lesson_eq one other =
    bytes_eq one.key other.key && bytes_eq one.origin other.origin && bytes_eq one.url other.url
    && bool_eq one.include other.include && one.age == other.age && texts_eq one.methods other.methods
    && texts_eq one.names other.names

abbrev pub op_eq : Op → Op → Bool
op_eq (Match host now) (Match other then) = bytes_eq host other && now == then
op_eq (Note host sts now) (Note other field then) = bytes_eq host other && sts_eq sts field && now == then
op_eq (Covers question now) (Covers other then) = question_eq question other && now == then
op_eq (Learn lesson now) (Learn other then) = lesson_eq lesson other && now == then
op_eq (Clear key origin url now) (Clear key' origin' url' then) =
    bytes_eq key key' && bytes_eq origin origin' && bytes_eq url url' && now == then
op_eq _ _ = false
