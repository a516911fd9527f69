-- What is written is read back, line by line.
use Rattle.std.proofs.Common.{◌≡◌, ◌≤◌, ◌<◌, ◌+◌, ◌-◌, ℕ, zero, suc, Bool, true, false, List, [], ◌∷◌, ◌++◌, length}
use Rattle.std.proofs.Common.{refl, ap}
use Rattle.std.proofs.Common.{sym, subst, ◌∙◌, arith, Option, Some, None, ◌⊎◌, inl, Result, Ok, Err, append_assoc}
use Rattle.std.proofs.lemmas.List.{append-nil}
use Rattle.std.specs.Prelude.{◌==◌, if◌then◌else◌}
use Rattle.std.specs.List.{AllByRecursion, flat_map}
use Rattle.book_hosts.specs.declared.hosts.KnownHost.{KnownHost}
use Rattle.book_preflights.specs.declared.entry.Keyed.{Keyed}
use Rattle.book_preflights.specs.declared.entry.Allowed.{Allowed}
use Rattle.book_preflights.specs.declared.entry.Allowed.TheVariants.{Method, HeaderName}
use Rattle.book_text.specs.Reading.{Numbers, Texts, allowed_of, entry_at, entry_of, host_at, host_of, lines_from}
use Rattle.book_text.specs.Reading.{next_line}
use Rattle.book_text.specs.Texts.{FitsEntry, FitsHost, entry_line, flag, greatest, host_line, is_name, item}
use Rattle.book_text.specs.Private.Steps.{Fails}
use Rattle.book_text.specs.declared.refusal.ReadError.{ReadError}
use Rattle.book_text.specs.declared.refusal.Reason.{Reason}
use Rattle.book_text.specs.declared.refusal.Refusal.{Refusal}
use Rattle.book_text.proofs.FieldLemmas.{Reads, both-reads, made-reads, number-reads, text-reads}

-- ---- hosts

space-apart : (32 < 48) ⊎ (57 < 32)
space-apart = inl (omega arith)

flag-back : (b : Bool) → (flag b == 1) ≡ b
flag-back true = refl
flag-back false = refl

flag-over : (n : ℕ) → n ≤ 1 → flag (n == 1) ≡ n
flag-over zero few = refl
flag-over (suc zero) few = refl
flag-over (suc (suc n)) few = absurd (omega (arith, few))

flag-few : (b : Bool) → flag b ≤ 1
flag-few true = omega arith
flag-few false = omega arith

abbrev host_parts : KnownHost → ℕ × (ℕ × List ℕ)
host_parts known = (known.until, (flag known.subdomains, known.host))

abbrev FitsHostParts : ℕ × (ℕ × List ℕ) → Type 0
FitsHostParts x = (x.0 ≤ greatest) × ((x.1.0 ≤ 1) × (length x.1.1 ≤ greatest))

host-over : (x : ℕ × (ℕ × List ℕ)) → FitsHostParts x → host_parts (host_of x) ≡ x
host-over x fits = λ i. (x.0, (flag-over x.1.0 fits.1.0 i, x.1.1))

host-same : (known : KnownHost) → host_of (host_parts known) ≡ known
host-same known = λ i. record { host = known.host; subdomains = flag-back known.subdomains i; until = known.until }

parts-read : Reads host_line (λ known. FitsHostParts (host_parts known)) host_at
parts-read = made-reads host_of host_parts host-over host-same
    (both-reads (number-reads greatest 32 (omega arith) space-apart)
    (both-reads (number-reads 1 32 (omega arith) space-apart) (text-reads 10)))

pub host-reads : Reads host_line FitsHost host_at
host-reads = record {
  sound = λ text known rest e. let is = parts-read.sound text known rest e in
      (is.0, record { until = is.1.0; host = is.1.1.1 });
  complete = λ known rest fits. parts-read.complete known rest (fits.until, (flag-few known.subdomains, fits.host));
}

-- ---- entries

abbrev entry_parts : Keyed → Numbers × Texts
entry_parts k = (
  (k.entry.made, (k.entry.age, (flag k.entry.include, flag (is_name k.entry.allowed)))),
  (k.key, (k.entry.origin, (k.entry.url, item k.entry.allowed))),
)

abbrev FitsEntryParts : Numbers × Texts → Type 0
FitsEntryParts x =
    ((x.0.0 ≤ greatest) × ((x.0.1.0 ≤ greatest) × ((x.0.1.1.0 ≤ 1) × (x.0.1.1.1 ≤ 1))))
    × ((length x.1.0 ≤ greatest) × ((length x.1.1.0 ≤ greatest) × ((length x.1.1.1.0 ≤ greatest)
    × (length x.1.1.1.1 ≤ greatest))))

name-by : (b : Bool) (text : List ℕ) → is_name (if b then HeaderName text else Method text) ≡ b
name-by true text = refl
name-by false text = refl

item-by : (b : Bool) (text : List ℕ) → item (if b then HeaderName text else Method text) ≡ text
item-by true text = refl
item-by false text = refl

entry-over : (x : Numbers × Texts) → FitsEntryParts x → entry_parts (entry_of x) ≡ x
entry-over x fits =
    let kind : flag (is_name (allowed_of x.0.1.1.1 x.1.1.1.1)) ≡ x.0.1.1.1 =
    ap flag (name-by (x.0.1.1.1 == 1) x.1.1.1.1) ∙ flag-over x.0.1.1.1 fits.0.1.1.1 in
    λ i. (
      (x.0.0, (x.0.1.0, (flag-over x.0.1.1.0 fits.0.1.1.0 i, kind i))),
      (x.1.0, (x.1.1.0, (x.1.1.1.0, item-by (x.0.1.1.1 == 1) x.1.1.1.1 i))),
    )

allowed-same : (allowed : Allowed) → allowed_of (flag (is_name allowed)) (item allowed) ≡ allowed
allowed-same (Method method) = refl
allowed-same (HeaderName name) = refl

entry-same : (k : Keyed) → entry_of (entry_parts k) ≡ k
entry-same k = λ i. record {
  key = k.key;
  entry = record {
    origin = k.entry.origin;
    url = k.entry.url;
    include = flag-back k.entry.include i;
    made = k.entry.made;
    age = k.entry.age;
    allowed = allowed-same k.entry.allowed i;
  };
}

entry-parts-read : Reads entry_line (λ k. FitsEntryParts (entry_parts k)) entry_at
entry-parts-read = made-reads entry_of entry_parts entry-over entry-same
    (both-reads
    (both-reads (number-reads greatest 32 (omega arith) space-apart)
    (both-reads (number-reads greatest 32 (omega arith) space-apart)
    (both-reads (number-reads 1 32 (omega arith) space-apart) (number-reads 1 32 (omega arith) space-apart))))
    (both-reads (text-reads 32) (both-reads (text-reads 32) (both-reads (text-reads 32) (text-reads 10)))))

pub entry-reads : Reads entry_line FitsEntry entry_at
entry-reads = record {
  sound = λ text k rest e. let is = entry-parts-read.sound text k rest e in (
    is.0,
    record {
      made = is.1.0.0;
      age = is.1.0.1.0;
      key = is.1.1.0;
      origin = is.1.1.1.0;
      url = is.1.1.1.1.0;
      item = is.1.1.1.1.1;
    },
  );
  complete = λ k rest fits. entry-parts-read.complete k rest (
    (fits.made, (fits.age, (flag-few k.entry.include, flag-few (is_name k.entry.allowed)))),
    (fits.key, (fits.origin, (fits.url, fits.item))),
  );
}

-- ---- lists of lines

-- each may stand behind those before it
abbrev pub MayAll : {A : Type 0} → (A → List A → Bool) → List A → List A → Type 0
MayAll may before [] = Unit {0}
MayAll may before (x ∷ xs) = (may x before ≡ true) × MayAll may (before ++ x ∷ []) xs

-- what was read, of lines behind others
pub record Lines {A : Type 0} (spell : A → List ℕ) (Fits : A → Type 0) (may : A → List A → Bool) (left : ℕ)
    (before : List A) (text : List ℕ) (all : List A) (rest : List ℕ) : Type 0 where
  pub xs : List A
  pub all_are : all ≡ before ++ xs
  pub text_is : text ≡ flat_map spell xs ++ rest
  pub count : length xs ≡ left
  pub fit : AllByRecursion Fits xs
  pub may_all : MayAll may before xs

module _ {A : Type 0} {spell : A → List ℕ} {Fits : A → Type 0} {read : List ℕ → Option (A × List ℕ)}
    (reads : Reads spell Fits read) (may : A → List A → Bool) (why : A → List A → Reason) where
  pub lines-complete : (line : ℕ) (before xs : List A) (rest : List ℕ) → AllByRecursion Fits xs → MayAll may before xs
      → lines_from read may why line (length xs) before (flat_map spell xs ++ rest) ≡ Ok (before ++ xs, rest)
  lines-complete line before [] rest fit may_all = ap (λ (l : List A). Ok (l, rest)) (sym (append-nil before))
  lines-complete line before (x ∷ xs) rest fit may_all =
      let next = λ (lines : List A) (after : List ℕ). lines_from read may why (line + 1) (length xs) lines after in
      ap (λ (text : List ℕ). next_line read may why line before (read text) next)
      (append_assoc (spell x) (flat_map spell xs) rest)
      ∙ ap (λ found. next_line read may why line before found next) (reads.complete x (flat_map spell xs ++ rest) fit.0)
      ∙ ap (λ (b : Bool). if b then next (before ++ x ∷ []) (flat_map spell xs ++ rest)
      else Err (record { line = line; reason = why x before })) may_all.0
      ∙ lines-complete (line + 1) (before ++ x ∷ []) xs rest fit.1 may_all.1
      ∙ ap (λ (l : List A). Ok (l, rest)) (append_assoc before (x ∷ []) xs)

  pub lines-sound : (line left : ℕ) (before : List A) (text : List ℕ) (all : List A) (rest : List ℕ)
      → lines_from read may why line left before text ≡ Ok (all, rest)
      → Lines spell Fits may left before text all rest
  lines-sound line zero before text all rest e =
      let pair : (before, text) ≡ (all, rest) = ok-is (before, text) (all, rest) e in
      record {
        xs = [];
        all_are = sym (ap (λ p. p.0) pair) ∙ sym (append-nil before);
        text_is = ap (λ p. p.1) pair;
        count = refl;
        fit = tt;
        may_all = tt;
      }
    where
      ok-is : {X : Type 0} (a b : X) → (let r : Result X Refusal = Ok a in r ≡ Ok b) → a ≡ b
      ok-is a b e = cc
  lines-sound line (suc left) before text all rest e =
      one (λ lines after h. lines-sound (line + 1) left lines after all rest h) (read text) refl e
    where
      go : (x : A) (after : List ℕ) → read text ≡ Some (x, after) → may x before ≡ true
          → Lines spell Fits may left (before ++ x ∷ []) after all rest
          → Lines spell Fits may (suc left) before text all rest
      go x after is yes_it lines =
          let front = reads.sound text x after is in
          record {
            xs = x ∷ lines.xs;
            all_are = lines.all_are ∙ append_assoc before (x ∷ []) lines.xs;
            text_is = front.0 ∙ ap (λ (l : List ℕ). spell x ++ l) lines.text_is
                ∙ sym (append_assoc (spell x) (flat_map spell lines.xs) rest);
            count = ap suc lines.count;
            fit = (front.1, lines.fit);
            may_all = (yes_it, lines.may_all);
          }

      two : ((lines : List A) (after : List ℕ) → lines_from read may why (line + 1) left lines after ≡ Ok (all, rest)
          → Lines spell Fits may left lines after all rest) → (x : A) (after : List ℕ) → read text ≡ Some (x, after)
          → (b : Bool) → may x before ≡ b
          → (if b then lines_from read may why (line + 1) left (before ++ x ∷ []) after
          else Err (record { line = line; reason = why x before })) ≡ Ok (all, rest)
          → Lines spell Fits may (suc left) before text all rest
      two again x after is true may_it e = go x after is may_it (again (before ++ x ∷ []) after e)
      two again x after is false may_it e = absurd (cc)

      one : ((lines : List A) (after : List ℕ) → lines_from read may why (line + 1) left lines after ≡ Ok (all, rest)
          → Lines spell Fits may left lines after all rest) → (found : Option (A × List ℕ)) → read text ≡ found
          → next_line read may why line before found (λ lines after. lines_from read may why (line + 1) left lines after)
          ≡ Ok (all, rest) → Lines spell Fits may (suc left) before text all rest
      one again None is e = absurd (cc)
      one again (Some found) is e = two again found.0 found.1 is (may found.0 before) refl e

-- ---- one line of a list that is read

module _ {A : Type 0} (read : List ℕ → Option (A × List ℕ)) (may : A → List A → Bool) (why : A → List A → Reason)
    (base count index : ℕ) (before : List A) (text : List ℕ) where
  abbrev Next : Type 0
  Next = List A → List ℕ → Result (List A × List ℕ) Refusal

  one-left : index < count → count - index ≡ suc (count - (index + 1))
  one-left lt = omega (arith, lt)

  -- a line is read, and what is left is read behind it
  pub line-read : (new : List A) (rest : List ℕ) → index < count
      → ((next : Next) → next_line read may why (base + index) before (read text) next ≡ next new rest)
      → lines_from read may why (base + index) (count - index) before text
      ≡ lines_from read may why (base + (index + 1)) (count - (index + 1)) new rest
  line-read new rest lt goes =
      ap (λ (n : ℕ). lines_from read may why (base + index) n before text) (one-left lt)
      ∙ goes (λ lines after. lines_from read may why (base + index + 1) (count - (index + 1)) lines after)
      ∙ ap (λ (n : ℕ). lines_from read may why n (count - (index + 1)) new rest) (omega arith)

  -- a line is refused, and so is the list
  pub line-failed : (error : ReadError) (whole : Result (List A × List ℕ) Refusal) → index < count
      → lines_from read may why (base + index) (count - index) before text ≡ whole
      → ((next : Next) → Fails error (next_line read may why (base + index) before (read text) next))
      → Fails error whole
  line-failed error whole lt is fails =
      subst (Fails error)
      (sym (ap (λ (n : ℕ). lines_from read may why (base + index) n before text) (one-left lt)) ∙ is)
      (fails (λ lines after. lines_from read may why (base + index + 1) (count - (index + 1)) lines after))

  -- no line is left
  pub lines-over : (whole : Result (List A × List ℕ) Refusal) → count ≤ index
      → lines_from read may why (base + index) (count - index) before text ≡ whole → whole ≡ Ok (before, text)
  lines-over whole over is =
      let none : count - index ≡ 0 = omega (arith, over) in
      sym is ∙ ap (λ (n : ℕ). lines_from read may why (base + index) n before text) none
