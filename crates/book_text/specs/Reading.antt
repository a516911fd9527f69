-- What a text is read as: a book, or the first line that is none of a book's and why (this project's own).
use Rattle.std.specs.Prelude.{ℕ, zero, suc, ◌+◌, ◌==◌, nat_lt, Bool, List, [], ◌∷◌, ◌++◌, length, take, drop, codes}
use Rattle.std.specs.Prelude.{bytes_eq, Option, Some, None, option_map, option_and_then, Result, Ok, Err, if◌then◌else◌}
use Rattle.std.specs.List.{position}
use Rattle.value_text.specs.Texts.{Text}
use Rattle.value_text.specs.Ascii.{colon, line_feed, space}
use Rattle.value_decimal.specs.Decimals.{number_up_to}
use Rattle.book_hosts.specs.Hosts.{known_host}
use Rattle.book_hosts.specs.Hosts as hosts
use Rattle.book_hosts.specs.declared.hosts.KnownHost.{KnownHost}
use Rattle.book_preflights.specs.Keys.{entries_of}
use Rattle.book_preflights.specs.declared.entry.Keyed.{Keyed}
use Rattle.book_preflights.specs.Keys as keys
use Rattle.book_preflights.specs.declared.entry.Allowed.{Allowed}
use Rattle.book_preflights.specs.declared.entry.Allowed.TheVariants.{Method, HeaderName}
use Rattle.book_calls.specs.Book.{book_of}
use Rattle.book_calls.specs.declared.book.Book.{Book}
use Rattle.book_text.specs.Texts.{greatest, heading}
use Rattle.book_text.specs.declared.refusal.Reason.{Reason}
use Rattle.book_text.specs.declared.refusal.Reason.TheVariants.{NoBook, OtherFormat, BadLine, Order, Full, TooLong}
use Rattle.book_text.specs.declared.refusal.Refusal.{Refusal}

-- ---- fields: what is read at the front of a text, and what follows it

-- a number up to this one, before the first such byte
abbrev pub number_at : ℕ → ℕ → Text → Option (ℕ × Text)
number_at most stop text =
    option_and_then (λ end. option_map (λ number. (number, drop (end + 1) text)) (number_up_to most (take end text)))
    (position (λ byte. byte == stop) text)

-- what was read, where this byte follows it
abbrev pub stopped : ℕ → Text → Text → Option (Text × Text)
stopped stop front [] = None
stopped stop front (byte ∷ rest) = if byte == stop then Some (front, rest) else None

-- so many bytes
abbrev pub bytes_at : ℕ → ℕ → Text → Option (Text × Text)
bytes_at stop count text = if nat_lt (length text) count then None else stopped stop (take count text) (drop count text)

-- a text behind its length
abbrev pub text_at : ℕ → Text → Option (Text × Text)
text_at stop text = option_and_then (λ found. bytes_at stop found.0 found.1) (number_at greatest colon text)

-- one thing, and then another
abbrev pub both_at : {A B : Type 0} → (Text → Option (A × Text)) → (Text → Option (B × Text)) → Text
    → Option ((A × B) × Text)
both_at first second text =
    option_and_then (λ x. option_map (λ y. ((x.0, y.0), y.1)) (second x.1)) (first text)

-- what a thing that is read stands for
abbrev pub made_at : {A B : Type 0} → (A → B) → (Text → Option (A × Text)) → Text → Option (B × Text)
made_at make read text = option_map (λ x. (make x.0, x.1)) (read text)

-- these bytes
abbrev pub after_prefix : Text → Text → Option Text
after_prefix prefix text =
    if nat_lt (length text) (length prefix) then None
    else if bytes_eq (take (length prefix) text) prefix then Some (drop (length prefix) text) else None

-- ---- lines

abbrev pub host_of : ℕ × (ℕ × Text) → KnownHost
host_of x = known_host x.1.1 (x.1.0 == 1) x.0

abbrev pub host_at : Text → Option (KnownHost × Text)
host_at = made_at host_of
    (both_at (number_at greatest space) (both_at (number_at 1 space) (text_at line_feed)))

abbrev pub allowed_of : ℕ → Text → Allowed
allowed_of kind item = if kind == 1 then HeaderName item else Method item

-- the numbers of an entry, and its texts
abbrev pub Numbers : Type 0
Numbers = ℕ × (ℕ × (ℕ × ℕ))

abbrev pub Texts : Type 0
Texts = Text × (Text × (Text × Text))

abbrev pub entry_of : Numbers × Texts → Keyed
entry_of x = record {
  key = x.1.0;
  entry = record {
    origin = x.1.1.0;
    url = x.1.1.1.0;
    include = x.0.1.1.0 == 1;
    made = x.0.0;
    age = x.0.1.0;
    allowed = allowed_of x.0.1.1.1 x.1.1.1.1;
  };
}

abbrev pub numbers_at : Text → Option (Numbers × Text)
numbers_at = both_at (number_at greatest space) (both_at (number_at greatest space)
    (both_at (number_at 1 space) (number_at 1 space)))

abbrev pub texts_at : Text → Option (Texts × Text)
texts_at = both_at (text_at space) (both_at (text_at space) (both_at (text_at space) (text_at line_feed)))

abbrev pub entry_at : Text → Option (Keyed × Text)
entry_at = made_at entry_of (both_at numbers_at texts_at)

-- ---- lists of lines

abbrev pub refusal : ℕ → Reason → Refusal
refusal line reason = record { line = line; reason = reason }

-- how a list of lines goes on
module _ {A : Type 0} (read : Text → Option (A × Text)) (may : A → List A → Bool) (why : A → List A → Reason) where
  -- what a line comes to behind those before it
  abbrev pub next_line : ℕ → List A → Option (A × Text) → (List A → Text → Result (List A × Text) Refusal)
      → Result (List A × Text) Refusal
  next_line line before None next = Err (refusal line BadLine)
  next_line line before (Some found) next =
      if may found.0 before then next (before ++ found.0 ∷ []) found.1 else Err (refusal line (why found.0 before))

  -- so many lines from this one on, behind these: each is one of the things that are read, and may stand behind those
  -- before it
  abbrev pub lines_from : ℕ → ℕ → List A → Text → Result (List A × Text) Refusal
  lines_from line zero before text = Ok (before, text)
  lines_from line (suc left) before text =
      next_line line before (read text) (λ lines rest. lines_from (line + 1) left lines rest)

-- a host that may not stand last is out of order
abbrev pub why_no_host : KnownHost → List KnownHost → Reason
why_no_host new before = Order

-- an entry that may not is out of order, where its key has room
abbrev pub why_by_key : Text → List Keyed → Reason
why_by_key key before = if nat_lt (length (entries_of key before)) 64 then Order else Full

abbrev pub why_no_entry : Keyed → List Keyed → Reason
why_no_entry new before = why_by_key new.key before

abbrev pub hosts_from : ℕ → Text → Result (List KnownHost × Text) Refusal
hosts_from count text = lines_from host_at hosts.may_stand_last why_no_host 3 count [] text

abbrev pub entries_from : ℕ → ℕ → Text → Result (List Keyed × Text) Refusal
entries_from line count text = lines_from entry_at keys.may_stand_last why_no_entry line count [] text

-- ---- texts

-- where there is no refusal, what comes then
abbrev pub onward : {A B : Type 0} → Result A Refusal → (A → Result B Refusal) → Result B Refusal
onward (Ok x) next = next x
onward (Err refused) next = Err refused

-- what is there, or a line that is none
abbrev pub or_bad : {A : Type 0} → ℕ → Option A → Result A Refusal
or_bad line (Some x) = Ok x
or_bad line None = Err (refusal line BadLine)

-- the line that counts what follows
abbrev pub count_at : Text → ℕ → Text → Option (ℕ × Text)
count_at label most text = option_and_then (number_at most line_feed) (after_prefix label text)

-- the first line is not this format's: it may be that of another
abbrev pub reason_by_name : Option Text → Reason
reason_by_name (Some rest) = OtherFormat
reason_by_name None = NoBook

abbrev pub other_heading : Text → Reason
other_heading text = reason_by_name (after_prefix (codes "fiorrudda book ") text)

abbrev pub after_heading : Text → Option Text → Result Text Refusal
after_heading text (Some rest) = Ok rest
after_heading text None = Err (refusal 1 (other_heading text))

abbrev pub first_line : Text → Result Text Refusal
first_line text = after_heading text (after_prefix heading text)

-- the end of the text
abbrev pub at_end : {A : Type 0} → ℕ → A → Text → Result A Refusal
at_end line x [] = Ok x
at_end line x (byte ∷ rest) = Err (refusal line TooLong)

-- the hosts behind the line that counts them, and then the entries
abbrev pub counted_hosts : Text → Result (ℕ × (List KnownHost × Text)) Refusal
counted_hosts text =
    onward (or_bad 2 (count_at (codes "hosts ") 4096 text)) (λ count.
    onward (hosts_from count.0 count.1) (λ read. Ok (count.0, read)))

abbrev pub counted_entries : ℕ → Text → Result (ℕ × (List Keyed × Text)) Refusal
counted_entries line text =
    onward (or_bad line (count_at (codes "entries ") 9223372036854775807 text)) (λ count.
    onward (entries_from (line + 1) count.0 count.1) (λ read. Ok (count.0, read)))

-- the hosts and the entries, with nothing behind them
abbrev pub book_after : Text → Result Book Refusal
book_after text =
    onward (counted_hosts text) (λ known.
    onward (counted_entries (known.0 + 3) known.1.1) (λ cache.
    at_end (known.0 + cache.0 + 4) (book_of known.1.0 cache.1.0) cache.1.1))

-- what a text is read as
abbrev pub read_book : Text → Result Book Refusal
read_book text = onward (first_line text) book_after
