-- Books are read back, and nothing else is read as one.
use Rattle.std.proofs.Common.{◌≡◌, ◌≤◌, ◌<◌, ◌+◌, ℕ, Bool, true, false, cond, List, [], ◌∷◌, ◌++◌, length, map}
use Rattle.std.proofs.Common.{filter, codes, refl, ap, sym, subst, ◌∙◌, arith, Option, Some, None, ◌⊎◌, inl, Result}
use Rattle.std.proofs.Common.{Ok, Err, append_assoc, length-append}
use Rattle.std.proofs.lemmas.List.{append-nil}
use Rattle.std.specs.Prelude.{option_and_then}
use Rattle.std.specs.List.{AllByRecursion, flat_map}
use Rattle.std.specs.Str.{bytes_eq}
use Rattle.value_lemmas.proofs.Options.{option_and_then-some}
use Rattle.book_hosts.specs.Hosts as hosts
use Rattle.book_hosts.specs.Hosts.{AreHosts}
use Rattle.book_hosts.specs.declared.hosts.KnownHost.{KnownHost}
use Rattle.book_hosts.proofs.WalkLemmas as host_walk
use Rattle.book_preflights.specs.Keys as keys
use Rattle.book_preflights.specs.Keys.{IsCache, entries_of, stands_before}
use Rattle.book_preflights.specs.declared.entry.Keyed.{Keyed}
use Rattle.book_preflights.proofs.CacheLaws.{changes-keep-caches}
use Rattle.book_preflights.proofs.WalkLemmas as cache_walk
use Rattle.book_calls.specs.Book.{book_of}
use Rattle.book_calls.specs.declared.book.Book.{Book}
use Rattle.book_text.specs.Laws.{ReadsOnlyWritten, ReadsWritten}
use Rattle.book_text.specs.Reading.{after_heading, after_prefix, at_end, book_after, count_at, counted_entries}
use Rattle.book_text.specs.Reading.{counted_hosts, entries_from, first_line, hosts_from, number_at, onward, or_bad}
use Rattle.book_text.specs.Reading.{why_no_entry, why_no_host}
use Rattle.book_text.specs.Texts.{FitsEntry, FitsHost, IsBook, book_text, count_line, entry_line, greatest, heading}
use Rattle.book_text.specs.Texts.{host_line, number_field}
use Rattle.book_text.specs.declared.refusal.Refusal.{Refusal}
use Rattle.book_text.proofs.FieldLemmas.{number-reads, prefix-complete, prefix-sound}
use Rattle.book_text.proofs.LineLemmas.{Lines, MayAll, entry-reads, host-reads, lines-complete, lines-sound}

all-front : {A : Type 0} (P : A → Type 0) (a b : List A) → AllByRecursion P (a ++ b) → AllByRecursion P a
all-front P [] b all = tt
all-front P (x ∷ a) b all = (all.0, all-front P a b all.1)

-- ---- which hosts may stand last

sorted-hosts-front : (a b : List KnownHost) → hosts.AreSorted (a ++ b) → hosts.AreSorted a
sorted-hosts-front [] b sorted = tt
sorted-hosts-front (x ∷ a) b sorted = (all-front _ a b sorted.0, sorted-hosts-front a b sorted.1)

hosts-front : (a b : List KnownHost) → AreHosts (a ++ b) → AreHosts a
hosts-front a b are = record {
  sorted = sorted-hosts-front a b are.sorted;
  few = omega (arith, are.few, length-append a b);
}

hosts-all : (before xs : List KnownHost) → AreHosts before → MayAll hosts.may_stand_last before xs
    → AreHosts (before ++ xs)
hosts-all before [] are may = subst AreHosts (sym (append-nil before)) are
hosts-all before (x ∷ xs) are may =
    subst AreHosts (append_assoc before (x ∷ []) xs)
    (hosts-all (before ++ x ∷ []) xs ((host_walk.extends-exactly x before are).0 may.0) may.1)

hosts-back : (before xs : List KnownHost) → AreHosts (before ++ xs) → MayAll hosts.may_stand_last before xs
hosts-back before [] are = tt
hosts-back before (x ∷ xs) are =
    let all : AreHosts ((before ++ x ∷ []) ++ xs) = subst AreHosts (sym (append_assoc before (x ∷ []) xs)) are in
    let front : AreHosts (before ++ x ∷ []) = hosts-front (before ++ x ∷ []) xs all in (
      (host_walk.extends-exactly x before (hosts-front before (x ∷ []) front)).1 front,
      hosts-back (before ++ x ∷ []) xs all,
    )

no-hosts : AreHosts []
no-hosts = record { sorted = tt; few = omega arith }

-- ---- which entries may

sorted-cache-front : (a b : List Keyed) → keys.AreSorted (a ++ b) → keys.AreSorted a
sorted-cache-front [] b sorted = tt
sorted-cache-front (x ∷ a) b sorted = (all-front _ a b sorted.0, sorted-cache-front a b sorted.1)

fewer : (key : List ℕ) (a b : List Keyed) → length (entries_of key a) ≤ length (entries_of key (a ++ b))
fewer key [] b = omega arith
fewer key (k ∷ a) b = by (bytes_eq k.key key) (fewer key a b)
  where
    by : (same : Bool) → length (entries_of key a) ≤ length (entries_of key (a ++ b))
        → length (map (λ (k : Keyed). k.entry) (cond same (k ∷ filter (λ k. bytes_eq k.key key) a)
        (filter (λ k. bytes_eq k.key key) a)))
        ≤ length (map (λ (k : Keyed). k.entry) (cond same (k ∷ filter (λ k. bytes_eq k.key key) (a ++ b))
        (filter (λ k. bytes_eq k.key key) (a ++ b))))
    by true h = omega (arith, h)
    by false h = h

cache-front : (a b : List Keyed) → IsCache (a ++ b) → IsCache a
cache-front a b is = record {
  sorted = sorted-cache-front a b is.sorted;
  bounded = λ key. omega (arith, fewer key a b, is.bounded key);
}

cache-all : (before xs : List Keyed) → IsCache before → MayAll keys.may_stand_last before xs → IsCache (before ++ xs)
cache-all before [] is may = subst IsCache (sym (append-nil before)) is
cache-all before (x ∷ xs) is may =
    subst IsCache (append_assoc before (x ∷ []) xs)
    (cache-all (before ++ x ∷ []) xs ((cache_walk.extends-exactly x before is).0 may.0) may.1)

cache-back : (before xs : List Keyed) → IsCache (before ++ xs) → MayAll keys.may_stand_last before xs
cache-back before [] is = tt
cache-back before (x ∷ xs) is =
    let all : IsCache ((before ++ x ∷ []) ++ xs) = subst IsCache (sym (append_assoc before (x ∷ []) xs)) is in
    let front : IsCache (before ++ x ∷ []) = cache-front (before ++ x ∷ []) xs all in (
      (cache_walk.extends-exactly x before (cache-front before (x ∷ []) front)).1 front,
      cache-back (before ++ x ∷ []) xs all,
    )

-- ---- lines that count

line-apart : (10 < 48) ⊎ (57 < 10)
line-apart = inl (omega arith)

module _ (label : List ℕ) (most : ℕ) (few : most ≤ greatest) where
  count-complete : (n : ℕ) (rest : List ℕ) → n ≤ most → count_at label most (count_line label n ++ rest) ≡ Some (n, rest)
  count-complete n rest fits =
      ap (count_at label most) (append_assoc label (number_field 10 n) rest)
      ∙ ap (λ (o : Option (List ℕ)). option_and_then (number_at most 10) o)
      (prefix-complete label (number_field 10 n ++ rest))
      ∙ (number-reads most 10 few line-apart).complete n rest fits

  count-sound : (text : List ℕ) (n : ℕ) (rest : List ℕ) → count_at label most text ≡ Some (n, rest)
      → (text ≡ count_line label n ++ rest) × (n ≤ most)
  count-sound text n rest e =
      let found = option_and_then-some (number_at most 10) (after_prefix label text) (n, rest) e in
      let is = (number-reads most 10 few line-apart).sound found.0 n rest found.2 in (
        prefix-sound label text found.0 found.1 ∙ ap (λ (l : List ℕ). label ++ l) is.0
            ∙ sym (append_assoc label (number_field 10 n) rest),
        is.1,
      )

-- ---- what comes after what

onward-ok : {A B : Type 0} (r : Result A Refusal) (next : A → Result B Refusal) (y : B) → onward r next ≡ Ok y
    → (x : A) × (r ≡ Ok x) × (next x ≡ Ok y)
onward-ok (Ok x) next y e = (x, refl, e)
onward-ok (Err refused) next y e = absurd (cc)

or-bad-ok : {A : Type 0} (line : ℕ) (o : Option A) (x : A) → or_bad line o ≡ Ok x → o ≡ Some x
or-bad-ok line (Some y) x e = ap Some (ok-is y x e)
  where
    ok-is : {X : Type 0} (a b : X) → (let r : Result X Refusal = Ok a in r ≡ Ok b) → a ≡ b
    ok-is a b e = cc
or-bad-ok line None x e = absurd (cc)

pub ok-is : {X : Type 0} (a b : X) → (let r : Result X Refusal = Ok a in r ≡ Ok b) → a ≡ b
ok-is a b e = cc

heading-ok : (text : List ℕ) (o : Option (List ℕ)) (rest : List ℕ) → after_heading text o ≡ Ok rest → o ≡ Some rest
heading-ok text (Some r) rest e = ap Some (ok-is r rest e)
heading-ok text None rest e = absurd (cc)

end-ok : {A : Type 0} (line : ℕ) (x : A) (rest : List ℕ) (y : A) → at_end line x rest ≡ Ok y → (rest ≡ []) × (x ≡ y)
end-ok line x [] y e = (refl, ok-is x y e)
end-ok line x (byte ∷ rest) y e = absurd (cc)

-- ---- hosts and entries behind their counts

hosts-label : List ℕ
hosts-label = codes "hosts "

abbrev after-host-count : ℕ × List ℕ → Result (ℕ × (List KnownHost × List ℕ)) Refusal
after-host-count count = onward (hosts_from count.0 count.1) (λ read. Ok (count.0, read))

abbrev after-entry-count : ℕ → ℕ × List ℕ → Result (ℕ × (List Keyed × List ℕ)) Refusal
after-entry-count line count = onward (entries_from (line + 1) count.0 count.1) (λ read. Ok (count.0, read))

hosts-complete : (known : List KnownHost) (rest : List ℕ) → AreHosts known → AllByRecursion FitsHost known
    → counted_hosts (count_line (codes "hosts ") (length known) ++ (flat_map host_line known ++ rest))
    ≡ Ok (length known, (known, rest))
hosts-complete known rest are fit =
    ap (λ (o : Option (ℕ × List ℕ)). onward (or_bad 2 o) after-host-count)
    (count-complete (codes "hosts ") 4096 (omega arith) (length known) (flat_map host_line known ++ rest) are.few)
    ∙ ap (λ (r : Result (List KnownHost × List ℕ) Refusal). onward r (λ read. Ok (length known, read)))
    (lines-complete host-reads hosts.may_stand_last why_no_host 3 [] known rest fit (hosts-back [] known are))

entries-complete : (line : ℕ) (cache : List Keyed) (rest : List ℕ) → IsCache cache → AllByRecursion FitsEntry cache
    → length cache ≤ 9223372036854775807
    → counted_entries line (count_line (codes "entries ") (length cache) ++ (flat_map entry_line cache ++ rest))
    ≡ Ok (length cache, (cache, rest))
entries-complete line cache rest is fit few =
    ap (λ (o : Option (ℕ × List ℕ)). onward (or_bad line o) (after-entry-count line))
    (count-complete (codes "entries ") 9223372036854775807 (omega arith) (length cache)
    (flat_map entry_line cache ++ rest) few)
    ∙ ap (λ (r : Result (List Keyed × List ℕ) Refusal). onward r (λ read. Ok (length cache, read)))
    (lines-complete entry-reads keys.may_stand_last why_no_entry (line + 1) [] cache rest fit (cache-back [] cache is))

abbrev after-entries-of : ℕ → List KnownHost → ℕ × (List Keyed × List ℕ) → Result Book Refusal
after-entries-of count known cache = at_end (count + cache.0 + 4) (book_of known cache.1.0) cache.1.1

abbrev after-hosts-of : ℕ × (List KnownHost × List ℕ) → Result Book Refusal
after-hosts-of known = onward (counted_entries (known.0 + 3) known.1.1) (after-entries-of known.0 known.1.0)

pub reads-written : ReadsWritten
reads-written book is =
    let entries = flat_map entry_line book.cache in
    let behind : List ℕ = count_line (codes "entries ") (length book.cache) ++ entries in
    let text : List ℕ = count_line (codes "hosts ") (length book.hosts) ++ (flat_map host_line book.hosts ++ behind) in
    let known : counted_hosts text ≡ Ok (length book.hosts, (book.hosts, behind)) =
    hosts-complete book.hosts behind is.hosts is.hosts_fit in
    let cache : counted_entries (length book.hosts + 3) behind ≡ Ok (length book.cache, (book.cache, [])) =
    ap (λ (l : List ℕ). counted_entries (length book.hosts + 3) (count_line (codes "entries ") (length book.cache) ++ l))
    (sym (append-nil entries))
    ∙ entries-complete (length book.hosts + 3) book.cache [] is.cache is.cache_fits is.count in
    ap (λ (o : Option (List ℕ)). onward (after_heading (heading ++ text) o) book_after) (prefix-complete heading text)
    ∙ ap (λ (r : Result (ℕ × (List KnownHost × List ℕ)) Refusal). onward r after-hosts-of) known
    ∙ ap (λ (r : Result (ℕ × (List Keyed × List ℕ)) Refusal). onward r
    (after-entries-of (length book.hosts) book.hosts)) cache

-- ---- and nothing else

-- what was counted and read is written so
pub record Counted {A : Type 0} (spell : A → List ℕ) (Fits : A → Type 0) (Good : List A → Type 0) (label : List ℕ) (most : ℕ)
    (text : List ℕ) (x : ℕ × (List A × List ℕ)) : Type 0 where
  pub text_is : text ≡ count_line label x.0 ++ (flat_map spell x.1.0 ++ x.1.1)
  pub count : x.0 ≡ length x.1.0
  pub few : x.0 ≤ most
  pub good : Good x.1.0
  pub fit : AllByRecursion Fits x.1.0

counted-by : {A : Type 0} (spell : A → List ℕ) (Fits : A → Type 0) (may : A → List A → Bool) (Good : List A → Type 0)
    (label : List ℕ) (most : ℕ) (text : List ℕ) (count : ℕ) (after : List ℕ) (read : List A × List ℕ)
    → ((xs : List A) → MayAll may [] xs → Good xs) → (text ≡ count_line label count ++ after) × (count ≤ most)
    → Lines spell Fits may count [] after read.0 read.1 → Counted spell Fits Good label most text (count, read)
counted-by spell Fits may Good label most text count after read good front lines =
    let same : lines.xs ≡ read.0 = sym lines.all_are in
    record {
      text_is = front.0 ∙ ap (λ (l : List ℕ). count_line label count ++ l)
          (lines.text_is ∙ ap (λ xs. flat_map spell xs ++ read.1) same);
      count = sym lines.count ∙ ap length same;
      few = front.1;
      good = subst Good same (good lines.xs lines.may_all);
      fit = subst (AllByRecursion Fits) same lines.fit;
    }

hosts-sound : (text : List ℕ) (x : ℕ × (List KnownHost × List ℕ)) → counted_hosts text ≡ Ok x
    → Counted host_line FitsHost AreHosts (codes "hosts ") 4096 text x
hosts-sound text x e =
    let count = onward-ok (or_bad 2 (count_at (codes "hosts ") 4096 text)) after-host-count x e in
    let read = onward-ok (hosts_from count.0.0 count.0.1) (λ (read : List KnownHost × List ℕ). Ok (count.0.0, read)) x count.2 in
    subst (Counted host_line FitsHost AreHosts (codes "hosts ") 4096 text) (ok-is (count.0.0, read.0) x read.2)
    (counted-by host_line FitsHost hosts.may_stand_last AreHosts (codes "hosts ") 4096 text count.0.0 count.0.1 read.0
    (λ xs may. hosts-all [] xs no-hosts may)
    (count-sound (codes "hosts ") 4096 (omega arith) text count.0.0 count.0.1
    (or-bad-ok 2 (count_at (codes "hosts ") 4096 text) count.0 count.1))
    (lines-sound host-reads hosts.may_stand_last why_no_host 3 count.0.0 [] count.0.1 read.0.0 read.0.1 read.1))

entries-sound : (line : ℕ) (text : List ℕ) (x : ℕ × (List Keyed × List ℕ)) → counted_entries line text ≡ Ok x
    → Counted entry_line FitsEntry IsCache (codes "entries ") 9223372036854775807 text x
entries-sound line text x e =
    let count = onward-ok (or_bad line (count_at (codes "entries ") 9223372036854775807 text)) (after-entry-count line) x e in
    let read = onward-ok (entries_from (line + 1) count.0.0 count.0.1) (λ (read : List Keyed × List ℕ). Ok (count.0.0, read))
    x count.2 in
    subst (Counted entry_line FitsEntry IsCache (codes "entries ") 9223372036854775807 text)
    (ok-is (count.0.0, read.0) x read.2)
    (counted-by entry_line FitsEntry keys.may_stand_last IsCache (codes "entries ") 9223372036854775807 text count.0.0
    count.0.1 read.0 (λ xs may. cache-all [] xs changes-keep-caches.new may)
    (count-sound (codes "entries ") 9223372036854775807 (omega arith) text count.0.0 count.0.1
    (or-bad-ok line (count_at (codes "entries ") 9223372036854775807 text) count.0 count.1))
    (lines-sound entry-reads keys.may_stand_last why_no_entry (line + 1) count.0.0 [] count.0.1 read.0.0 read.0.1 read.1))

-- a book's text, by its parts
assembled : (text rest : List ℕ) (known : ℕ × (List KnownHost × List ℕ)) (cache : ℕ × (List Keyed × List ℕ)) (book : Book)
    → text ≡ heading ++ rest → Counted host_line FitsHost AreHosts (codes "hosts ") 4096 rest known
    → Counted entry_line FitsEntry IsCache (codes "entries ") 9223372036854775807 known.1.1 cache
    → cache.1.1 ≡ [] → book_of known.1.0 cache.1.0 ≡ book → (text ≡ book_text book) × IsBook book
assembled text rest known cache book front of_hosts of_cache end is =
    subst (λ (b : Book). (text ≡ book_text b) × IsBook b) is (
      front ∙ ap (λ (l : List ℕ). heading ++ l)
          (of_hosts.text_is ∙ (λ i. count_line (codes "hosts ") (of_hosts.count i)
          ++ (flat_map host_line known.1.0 ++ (of_cache.text_is
          ∙ (λ j. count_line (codes "entries ") (of_cache.count j) ++ (flat_map entry_line cache.1.0 ++ end j))
          ∙ ap (λ (l : List ℕ). count_line (codes "entries ") (length cache.1.0) ++ l)
          (append-nil (flat_map entry_line cache.1.0))) i))),
      record {
        hosts = of_hosts.good;
        hosts_fit = of_hosts.fit;
        cache = of_cache.good;
        cache_fits = of_cache.fit;
        count = subst (λ (n : ℕ). n ≤ 9223372036854775807) of_cache.count of_cache.few;
      },
    )

pub reads-only-written : ReadsOnlyWritten
reads-only-written text book e =
    let top = onward-ok (first_line text) book_after book e in
    let known = onward-ok (counted_hosts top.0) after-hosts-of book top.2 in
    let cache = onward-ok (counted_entries (known.0.0 + 3) known.0.1.1) (after-entries-of known.0.0 known.0.1.0) book known.2 in
    let last = end-ok (known.0.0 + cache.0.0 + 4) (book_of known.0.1.0 cache.0.1.0) cache.0.1.1 book cache.2 in
    assembled text top.0 known.0 cache.0 book
    (prefix-sound heading text top.0 (heading-ok text (after_prefix heading text) top.0 top.1))
    (hosts-sound top.0 known.0 known.1) (entries-sound (known.0.0 + 3) known.0.1.1 cache.0 cache.1) last.0 last.1
