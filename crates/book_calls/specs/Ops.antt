-- The operations on the book: which are in range, and which answer a question.
use Rattle.std.specs.Prelude.{ℕ, ◌<◌, ◌≤◌, ◌^◌, ◌&&◌, Bool, true, false, nat_le, nat_lt}
use Rattle.book_calls.specs.declared.op.Op.{Op}
use Rattle.book_calls.specs.declared.op.Op.TheVariants.{Match, Note, Covers, Learn, Clear}
use Rattle.book_calls.specs.declared.op.Reply.{Reply}
use Rattle.book_calls.specs.declared.op.Reply.TheVariants.{Yes, No, Done}

-- when the op is done
abbrev pub time_of : Op → ℕ
time_of (Match host now) = now
time_of (Note host sts now) = now
time_of (Covers question now) = now
time_of (Learn lesson now) = now
time_of (Clear key origin url now) = now

-- the ages that an op brings
abbrev pub HasSmallAge : Op → Type 0
HasSmallAge (Match host now) = Unit {0}
HasSmallAge (Note host sts now) = sts.age < 2 ^ 48
HasSmallAge (Covers question now) = Unit {0}
HasSmallAge (Learn lesson now) = lesson.age ≤ 7200
HasSmallAge (Clear key origin url now) = Unit {0}

-- the op's time and the age of a Note are below 2^48, and the age of a Learn is at most 7,200
abbrev pub InRange : Op → Type 0
InRange op = (time_of op < 2 ^ 48) × HasSmallAge op

-- the test of it
abbrev pub is_in_range : Op → Bool
is_in_range (Match host now) = nat_lt now (2 ^ 48)
is_in_range (Note host sts now) = nat_lt now (2 ^ 48) && nat_lt sts.age (2 ^ 48)
is_in_range (Covers question now) = nat_lt now (2 ^ 48)
is_in_range (Learn lesson now) = nat_lt now (2 ^ 48) && nat_le lesson.age 7200
is_in_range (Clear key origin url now) = nat_lt now (2 ^ 48)

-- the op asks a question
abbrev pub is_question : Op → Bool
is_question (Match host now) = true
is_question (Note host sts now) = false
is_question (Covers question now) = true
is_question (Learn lesson now) = false
is_question (Clear key origin url now) = false

-- the reply answers one
abbrev pub is_answer : Reply → Bool
is_answer Yes = true
is_answer No = true
is_answer Done = false
