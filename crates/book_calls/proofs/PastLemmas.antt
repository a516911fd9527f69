-- Two books that agree for one key.
use Rattle.std.proofs.Common.{◌≡◌, ℕ, Bool, true, false, cond, List, [], ◌∷◌, filter, not, refl, sym, ap, ◌∙◌}
use mathlib.Core.Bool.{true≢false}
use Rattle.std.specs.Str.{bytes_eq}
use Rattle.std.specs.Cmp.Lexicographic.{bytes_decides}
use Rattle.book_hosts.specs.declared.hosts.KnownHost.{KnownHost}
use Rattle.book_hosts.specs.Hosts.{matches_host, noted}
use Rattle.book_preflights.specs.declared.entry.CacheEntry.{CacheEntry}
use Rattle.book_preflights.specs.declared.question.Lesson.{Lesson}
use Rattle.book_preflights.specs.Cache.{cleared, learned}
use Rattle.book_preflights.specs.Entries.{covered, is_of}
use Rattle.book_preflights.specs.Keys.{entries_of}
use Rattle.book_preflights.specs.declared.entry.Keyed.{Keyed}
use Rattle.book_preflights.specs.Laws.{ClearsKeepOtherKeys, LessonsKeepOtherKeys}
use Rattle.book_preflights.specs.Teaching.{taught}
use Rattle.book_calls.specs.declared.book.Book.{Book}
use Rattle.book_calls.specs.declared.entry.Entry.{Entry}
use Rattle.book_calls.specs.declared.op.Op.{Op}
use Rattle.book_calls.specs.declared.op.Op.TheVariants.{Match, Note, Covers, Learn, Clear}
use Rattle.book_calls.specs.Book.{after, reply, yes_or_no}
use Rattle.book_calls.specs.Entries.{book_after}
use Rattle.book_calls.specs.Past.{PastReplies, is_of_key, may_change, past}

-- the same hosts, and the same cache entries of the key
record Agree (key : List ℕ) (a b : Book) : Type 0 where
  pub hosts : a.hosts ≡ b.hosts
  pub entries : entries_of key a.cache ≡ entries_of key b.cache

module _ (lessons : LessonsKeepOtherKeys) (clears : ClearsKeepOtherKeys) (key : List ℕ) where
  same-key : (other : List ℕ) → bytes_eq other key ≡ true → other ≡ key
  same-key other is = (bytes_decides other key).0 is

  -- what a lesson of the key, or of another key, leaves of the key's entries
  taught-here : (lesson : Lesson) (now : ℕ) (cache : List Keyed) → bytes_eq lesson.key key ≡ true
      → entries_of key (learned lesson now cache) ≡ taught lesson now (entries_of key cache)
  taught-here lesson now cache is =
      lessons key lesson now cache
      ∙ (ap (λ (b : Bool). cond b (taught lesson now (entries_of lesson.key cache)) (entries_of key cache)) is
      ∙ ap (λ (k : List ℕ). taught lesson now (entries_of k cache)) (same-key lesson.key is))

  taught-there : (lesson : Lesson) (now : ℕ) (cache : List Keyed) → bytes_eq lesson.key key ≡ false
      → entries_of key (learned lesson now cache) ≡ entries_of key cache
  taught-there lesson now cache is = lessons key lesson now cache
      ∙ ap (λ (b : Bool). cond b (taught lesson now (entries_of lesson.key cache)) (entries_of key cache)) is

  abbrev left : List ℕ → List ℕ → List CacheEntry → List CacheEntry
  left origin url entries = filter (λ entry. not (is_of origin url entry)) entries

  cleared-by : (other origin url : List ℕ) (cache : List Keyed) (b : Bool) → bytes_eq other key ≡ b
      → entries_of key (cleared other origin url cache)
      ≡ cond b (left origin url (entries_of key cache)) (entries_of key cache)
  cleared-by other origin url cache b is = clears key other origin url cache
      ∙ ap (λ (c : Bool). cond c (left origin url (entries_of key cache)) (entries_of key cache)) is

  -- an op that may change what the key is told, on both books
  both : (a b : Book) (op : Op) → may_change key op ≡ true → Agree key a b → Agree key (after a op) (after b op)
  both a b (Match host now) is agree = absurd (true≢false (sym is))
  both a b (Note host sts now) is agree =
      record { hosts = ap (noted host sts now) agree.hosts; entries = agree.entries }
  both a b (Covers question now) is agree = absurd (true≢false (sym is))
  both a b (Learn lesson now) is agree = record {
    hosts = agree.hosts;
    entries = taught-here lesson now a.cache is
        ∙ (ap (taught lesson now) agree.entries ∙ sym (taught-here lesson now b.cache is));
  }
  both a b (Clear other origin url now) is agree = record {
    hosts = agree.hosts;
    entries = cleared-by other origin url a.cache true is
        ∙ (ap (left origin url) agree.entries ∙ sym (cleared-by other origin url b.cache true is));
  }

  -- any other op, on one of them alone
  one : (a b : Book) (op : Op) → may_change key op ≡ false → Agree key a b → Agree key a (after b op)
  one a b (Match host now) is agree = agree
  one a b (Note host sts now) is agree = absurd (true≢false is)
  one a b (Covers question now) is agree = agree
  one a b (Learn lesson now) is agree =
      record { hosts = agree.hosts; entries = agree.entries ∙ sym (taught-there lesson now b.cache is) }
  one a b (Clear other origin url now) is agree =
      record { hosts = agree.hosts; entries = agree.entries ∙ sym (cleared-by other origin url b.cache false is) }

  past-head : (a b : Book) (e : Entry) (es : List Entry)
      → ((a b : Book) → Agree key a b → Agree key (book_after a (past key es)) (book_after b es)) → Agree key a b
      → (c : Bool) → may_change key e.op ≡ c
      → Agree key (book_after a (cond c (e ∷ past key es) (past key es))) (book_after b (e ∷ es))
  past-head a b e es rest agree true is = rest (after a e.op) (after b e.op) (both a b e.op is agree)
  past-head a b e es rest agree false is = rest a (after b e.op) (one a b e.op is agree)

  past-agrees : (history : List Entry) (a b : Book) → Agree key a b
      → Agree key (book_after a (past key history)) (book_after b history)
  past-agrees [] a b agree = agree
  past-agrees (e ∷ es) a b agree = past-head a b e es (past-agrees es) agree (may_change key e.op) refl

  -- books that agree reply alike to the key
  reply-alike : (a b : Book) (op : Op) → is_of_key key op ≡ true → Agree key a b → reply a op ≡ reply b op
  reply-alike a b (Match host now) is agree =
      ap (λ (hosts : List KnownHost). yes_or_no (matches_host hosts host now)) agree.hosts
  reply-alike a b (Note host sts now) is agree = refl
  reply-alike a b (Covers question now) is agree =
      ap (λ (k : List ℕ). yes_or_no (covered question now (entries_of k a.cache))) (same-key question.key is)
      ∙ (ap (λ (entries : List CacheEntry). yes_or_no (covered question now entries)) agree.entries
      ∙ sym (ap (λ (k : List ℕ). yes_or_no (covered question now (entries_of k b.cache))) (same-key question.key is)))
  reply-alike a b (Learn lesson now) is agree = refl
  reply-alike a b (Clear other origin url now) is agree = refl

pub past-replies : LessonsKeepOtherKeys → ClearsKeepOtherKeys → PastReplies
past-replies lessons clears key opening history op is =
    reply-alike lessons clears key (book_after opening (past key history)) (book_after opening history) op is
    (past-agrees lessons clears key history opening opening (record { hosts = refl; entries = refl }))
