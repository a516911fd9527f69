-- The lines of a table's text, read one after the other.
use Rattle.std.proofs.Common.{arith, ◌≡◌, ◌==◌, ◌<◌, ◌≤◌, ◌+◌, ◌++◌, ◌∷◌, [], ℕ, suc, Bool, List, length, take, drop}
use Rattle.std.proofs.Common.{refl}
use Rattle.std.proofs.Common.{ap, sym, ◌∙◌, append_assoc, Option, Some, None, Result, Ok, Err, if◌then◌else◌, true}
use Rattle.std.proofs.Common.{false}
use Rattle.std.proofs.Common.{get_or, map}
use Rattle.std.proofs.lemmas.Bool.{le-leb, lt-leb}
use Rattle.std.proofs.lemmas.Grind.{common_steps}
use Rattle.std.proofs.lemmas.List.Splits.{length-slice_split, slice_split_first}
use Rattle.std.specs.List.{list_all, position, position_or_len, slice_split}
use Rattle.value_lemmas.proofs.Lists.{slice_split-whole}
use Rattle.value_text.specs.Ascii.{line_feed, space}
use Rattle.server_tables.specs.Reading.{may_be_listed, numbered_row, row_before, row_in, row_of_parts, rows_from}
use Rattle.server_tables.specs.Reading.{where_listed}
use Rattle.server_tables.specs.Reading.{with_row}
use Rattle.server_tables.specs.declared.table.Row.{Row}
use Rattle.server_tables.specs.declared.read.BadLine.{BadLine}

abbrev is_end : ℕ → Bool
is_end byte = byte == line_feed

abbrev pub lines : List ℕ → List (List ℕ)
lines text = slice_split is_end text

cut : (text : List ℕ) (index : ℕ) → position is_end text ≡ Some index
    → lines text ≡ take index text ∷ lines (drop (index + 1) text)
cut text index some =
    let here : (position_or_len is_end text < length text) × (position_or_len is_end text ≡ index) =
    grind (arith, common_steps) in
    slice_split_first is_end text 0 here.0
    ∙ ap (λ n. take n text ∷ slice_split is_end (drop (n + 1) text)) here.1

-- ---- rows

-- a line that ends
rows-more : (n : ℕ) (line part : List ℕ) (parts : List (List ℕ)) → rows_from n (line ∷ part ∷ parts)
    ≡ with_row n (numbered_row n line) (rows_from (suc n) (part ∷ parts))
rows-more n [] part parts = refl
rows-more n (byte ∷ line) part parts = refl

rows-before : (n : ℕ) (line : List ℕ) (parts : List (List ℕ)) → 0 < length parts → rows_from n (line ∷ parts)
    ≡ with_row n (numbered_row n line) (rows_from (suc n) parts)
rows-before n line [] some = absurd (omega (arith, some))
rows-before n line (part ∷ parts) some = rows-more n line part parts

pub line-ended : (text : List ℕ) (index n : ℕ) → position is_end text ≡ Some index → rows_from n (lines text)
    ≡ with_row n (numbered_row n (take index text)) (rows_from (suc n) (lines (drop (index + 1) text)))
line-ended text index n some =
    ap (rows_from n) (cut text index some)
    ∙ rows-before n (take index text) (lines (drop (index + 1) text))
    (omega (arith, length-slice_split is_end (drop (index + 1) text)))

-- a line that does not
pub line-open : (text : List ℕ) (n : ℕ) → position is_end text ≡ None → 0 < length text
    → rows_from n (lines text) ≡ Err (record { line = n })
line-open [] n none some = absurd (omega (arith, some))
line-open (byte ∷ text) n none some =
    ap (rows_from n) (slice_split-whole is_end (byte ∷ text) (grind (arith, common_steps)))

-- ---- one line after another

-- these rows, and then those that follow
abbrev pub rows_after : List Row → Result (List Row) BadLine → Result (List Row) BadLine
rows_after rows (Ok more) = Ok (rows ++ more)
rows_after rows (Err bad) = Err bad

pub after-one : (rows : List Row) (row : Row) (more : Result (List Row) BadLine)
    → rows_after rows (row_before row more) ≡ rows_after (rows ++ row ∷ []) more
after-one rows row (Ok more) = λ i. Ok (sym (append_assoc rows (row ∷ []) more) i)
after-one rows row (Err bad) = refl

module _ (rows : List Row) (text : List ℕ) (index n : ℕ) (found : position is_end text ≡ Some index) where
  -- a line that is no row
  pub line-bad : numbered_row n (take index text) ≡ None
      → rows_after rows (rows_from n (lines text)) ≡ Err (record { line = n })
  line-bad none =
      ap (rows_after rows) (line-ended text index n found
      ∙ ap (λ (row : Option Row). with_row n row (rows_from (suc n) (lines (drop (index + 1) text)))) none)

  -- a line that is one
  pub line-good : (row : Row) → numbered_row n (take index text) ≡ Some row
      → rows_after rows (rows_from n (lines text))
      ≡ rows_after (rows ++ row ∷ []) (rows_from (n + 1) (lines (drop (index + 1) text)))
  line-good row some =
      ap (rows_after rows) (line-ended text index n found
      ∙ ap (λ (row : Option Row). with_row n row (rows_from (suc n) (lines (drop (index + 1) text)))) some)
      ∙ after-one rows row (rows_from (suc n) (lines (drop (index + 1) text)))
      ∙ ap (λ (m : ℕ). rows_after (rows ++ row ∷ []) (rows_from m (lines (drop (index + 1) text)))) (omega (arith))

-- a line before line 257, and from there on
pub numbered-in : (n : ℕ) (line : List ℕ) → n ≤ 256 → numbered_row n line ≡ row_in line
numbered-in n line few = ap (λ (b : Bool). if b then row_in line else None) (le-leb n 256 few)

pub numbered-out : (n : ℕ) (line : List ℕ) → 256 < n → numbered_row n line ≡ None
numbered-out n line many = ap (λ (b : Bool). if b then row_in line else None) (lt-leb n 256 many)

-- ---- parts

pub where-yes : (texts : List (List ℕ)) → list_all may_be_listed texts ≡ true → where_listed texts ≡ Some texts
where-yes texts is = ap (λ (b : Bool). if b then Some texts else None) is

pub where-no : (texts : List (List ℕ)) → list_all may_be_listed texts ≡ false → where_listed texts ≡ None
where-no texts is = ap (λ (b : Bool). if b then Some texts else None) is

-- a line of a length that is taken
pub row-within : (line : List ℕ) → length line ≤ 4096
    → row_in line ≡ row_of_parts (slice_split (λ byte. byte == space) line)
row-within line few =
    ap (λ (b : Bool). if b then row_of_parts (slice_split (λ byte. byte == space) line) else None)
    (le-leb (length line) 4096 few)

-- the four parts of a line
pub four-are : {X Y : Type 0} (f : X → Y) (xs : List X) (a b c d : X) → length xs ≡ 4 → a ≡ get_or xs 0 a
    → b ≡ get_or xs 1 b → c ≡ get_or xs 2 c → d ≡ get_or xs 3 d → f a ∷ f b ∷ f c ∷ f d ∷ [] ≡ map f xs
four-are f [] a b c d four one two three last = absurd (omega (arith, four))
four-are f (x ∷ []) a b c d four one two three last = absurd (omega (arith, four))
four-are f (x ∷ y ∷ []) a b c d four one two three last = absurd (omega (arith, four))
four-are f (x ∷ y ∷ z ∷ []) a b c d four one two three last = absurd (omega (arith, four))
four-are f (x ∷ y ∷ z ∷ w ∷ []) a b c d four one two three last =
    λ i. f (one i) ∷ f (two i) ∷ f (three i) ∷ f (last i) ∷ []
four-are f (x ∷ y ∷ z ∷ w ∷ v ∷ xs) a b c d four one two three last = absurd (omega (arith, four))

pub some-left : (n : ℕ) → (n == 0) ≡ false → 0 < n
some-left n some = grind (arith, common_steps)
