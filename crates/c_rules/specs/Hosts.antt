-- The known hosts of a book.
use Rattle.std.specs.Prelude.{ℕ, ◌^◌, Bool, not, nat_lt, Option, Some, None, is_some, Result, Ok, Err}
use Rattle.std.specs.Prelude.{if◌then◌else◌}
use Rattle.value_text.specs.Texts.{Text}
use Rattle.book_calls.specs.Book.{after}
use Rattle.book_calls.specs.declared.book.Book.{Book}
use Rattle.book_calls.specs.declared.op.Op.TheVariants.{Note}
use Rattle.book_hosts.specs.Hosts.{matches_host}
use Rattle.book_hosts.specs.Reading.{sts_in}
use Rattle.book_hosts.specs.declared.sts.Sts.{Sts}
use Rattle.value_requests.specs.HostNames.{are_host_name}
use Rattle.c_rules.specs.Answers.{and_then}
use Rattle.c_rules.specs.declared.refusal.Refusal.{Refusal}
use Rattle.c_rules.specs.declared.refusal.Refusal.TheVariants.{NotHost, TooLate}

-- a host may be known, and a book can have the time
abbrev pub checked : Text → ℕ → Result (Unit {0}) Refusal
checked host now =
    if not (are_host_name host) then Err NotHost
    else if nat_lt now (2 ^ 48) then Ok tt
    else Err TooLate

-- what is told of such a host at such a time
abbrev pub of_host : Text → ℕ → Bool → Result Bool Refusal
of_host host now answer = and_then (checked host now) (λ _. Ok answer)

-- whether the field of the host says something
abbrev pub says : Text → Text → ℕ → Result Bool Refusal
says host field now = of_host host now (is_some (sts_in field))

-- the book after what a field says, if it says something
abbrev pub after_sts : Text → ℕ → Book → Option Sts → Book
after_sts host now book None = book
after_sts host now book (Some sts) = after book (Note host sts now)

abbrev pub after_field : Text → Text → ℕ → Book → Book
after_field host field now book = after_sts host now book (sts_in field)

-- whether the host is known
abbrev pub is_known_host : Text → ℕ → Book → Result Bool Refusal
is_known_host host now book = of_host host now (matches_host book.hosts host now)
