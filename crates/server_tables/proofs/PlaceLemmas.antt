-- The place of the first row with an origin: in a list of rows, and in the map that keeps it.
use Rattle.std.proofs.Common.{arith, Bor, ◌≡◌, ◌<◌, ◌+◌, ◌++◌, ◌∷◌, [], ℕ, suc, List, Bool, true, false, cond, length}
use Rattle.std.proofs.Common.{refl}
use Rattle.std.proofs.Common.{sym, ap, ◌∙◌, Option, Some, None, subst, true≢false, get_or}
use Rattle.std.proofs.lemmas.Option.{slice_get-get_or}
use Rattle.std.specs.Prelude.{bytes_eq, is_some, option_copied, slice_get}
use Rattle.std.specs.List.{find, position_from}
use Rattle.std.specs.BTreeMap.{insert_entry}
use Rattle.std.specs.Cmp.Lexicographic.{bytes_decides, texts_ties}
use Rattle.std.specs.Map.{lookup}
use Rattle.std.specs.Ordering.{is_eq, match_ordering}
use Rattle.std.specs.declared.cmp.Ordering.{Ordering}
use Rattle.std.specs.declared.cmp.Ordering.TheVariants.{Equal, Greater, Less}
use Rattle.value_lemmas.proofs.Bytes.{slice_cmp-equal}
use Rattle.value_text.specs.Orders.{text_cmp}
use Rattle.server_tables.specs.Private.Places.{ArePlaced, is_key, key_cmp, place_of}
use Rattle.server_tables.specs.Tables.{row_of}
use Rattle.server_tables.specs.declared.table.Row.{Row}

-- ---- a list of rows

-- the place, or else another
abbrev pub or_else : Option ℕ → Option ℕ → Option ℕ
or_else None other = other
or_else (Some place) other = Some place

module _ {X : Type 0} (test : X → Bool) where
  -- the item at this place is the first that passes
  pub record IsFirst (xs : List X) (start place : ℕ) : Type 0 where
    pub index : ℕ
    pub at : place ≡ start + index
    pub within : index < length xs
    pub item : slice_get xs index ≡ find test xs

  first-by : (x : X) (xs : List X) (start place : ℕ) (b : Bool)
      → (position_from test (start + 1) xs ≡ Some place → IsFirst xs (start + 1) place)
      → test x ≡ b → cond b (Some start) (position_from test (start + 1) xs) ≡ Some place
      → IsFirst (x ∷ xs) start place
  first-by x xs start place true rest is same = record {
    index = 0;
    at = some-is start place same;
    within = omega (arith);
    item = rw is refl;
  }
    where
      some-is : (a b : ℕ) → Some a ≡ Some b → b ≡ a + 0
      some-is a b same = omega (arith, ap (λ (o : Option ℕ). from_some o) same)
        where
          from_some : Option ℕ → ℕ
          from_some None = 0
          from_some (Some n) = n
  first-by x xs start place false rest is same =
      let found = rest same in
      record {
        index = suc found.index;
        at = omega (arith, found.at);
        within = omega (arith, found.within);
        item = rw is found.item;
      }

  pub first-found : (xs : List X) (start place : ℕ) → position_from test start xs ≡ Some place → IsFirst xs start place
  first-found [] start place same = absurd (true≢false (sym (ap is_some same)))
  first-found (x ∷ xs) start place same =
      first-by x xs start place (test x) (first-found xs (start + 1) place) refl same

  none-by : (x : X) (xs : List X) (start : ℕ) (b : Bool)
      → (position_from test (start + 1) xs ≡ None → find test xs ≡ None)
      → cond b (Some start) (position_from test (start + 1) xs) ≡ None → cond b (Some x) (find test xs) ≡ None
  none-by x xs start true rest same = absurd (true≢false (ap is_some same))
  none-by x xs start false rest same = rest same

  pub none-found : (xs : List X) (start : ℕ) → position_from test start xs ≡ None → find test xs ≡ None
  none-found [] start same = refl
  none-found (x ∷ xs) start same = none-by x xs start (test x) (none-found xs (start + 1)) same

  behind-by : (x y : X) (xs : List X) (start : ℕ) (b : Bool)
      → position_from test (start + 1) (xs ++ y ∷ [])
      ≡ or_else (position_from test (start + 1) xs) (cond (test y) (Some ((start + 1) + length xs)) None)
      → cond b (Some start) (position_from test (start + 1) (xs ++ y ∷ []))
      ≡ or_else (cond b (Some start) (position_from test (start + 1) xs))
      (cond (test y) (Some (start + suc (length xs))) None)
  behind-by x y xs start true rest = refl
  behind-by x y xs start false rest =
      rest ∙ ap (λ (n : ℕ). or_else (position_from test (start + 1) xs) (cond (test y) (Some n) None))
      (omega (arith))

  -- behind a list there is one more
  pub behind : (xs : List X) (y : X) (start : ℕ) → position_from test start (xs ++ y ∷ [])
      ≡ or_else (position_from test start xs) (cond (test y) (Some (start + length xs)) None)
  behind [] y start = ap (λ (n : ℕ). cond (test y) (Some n) None) (omega (arith))
  behind (x ∷ xs) y start = behind-by x y xs start (test x) (behind xs y (start + 1))

-- the row there, where the list is indexed
pub row-at : (origin : List ℕ) (rows : List Row) (place : ℕ) (row : Row)
    → IsFirst (λ (r : Row). bytes_eq r.origin origin) rows 0 place → row ≡ get_or rows place row
    → Some row ≡ row_of rows origin
row-at origin rows place row is at =
    let same : place ≡ is.index = omega (arith, is.at) in
    ap (λ (r : Row). let found : Option Row = Some r in found)
    (at ∙ ap (λ (n : ℕ). get_or rows n row) same)
    ∙ sym (slice_get-get_or rows is.index row is.within) ∙ is.item

-- ---- the map

text-self : (a b : List ℕ) → a ≡ b → is_eq (text_cmp a b) ≡ true
text-self a b same = sym (texts_ties a b) ∙ (bytes_decides a b).1 same

module _ {K : Type 0} (bytes : K → List ℕ) (text : List ℕ) (k : K) (v : ℕ) where
  abbrev inserted : List (K × ℕ) → List (K × ℕ)
  inserted es = insert_entry (key_cmp bytes) es k v

  twice : (b : Bool) (x y : ℕ) (other : Option ℕ) → cond b (Some x) other ≡ cond b (Some x) (cond b (Some y) other)
  twice true x y other = refl
  twice false x y other = refl

  apart : (b c : Bool) (x y : ℕ) (other : Option ℕ) → ¬ ((b ≡ true) × (c ≡ true))
      → cond c (Some y) (cond b (Some x) other) ≡ cond b (Some x) (cond c (Some y) other)
  apart true true x y other not_both = absurd (not_both (refl, refl))
  apart true false x y other not_both = refl
  apart false c x y other not_both = refl

  inserted-by : (e : K × ℕ) (es : List (K × ℕ)) (o : Ordering) → text_cmp (bytes k) (bytes e.0) ≡ o
      → lookup (is_key bytes text) (inserted es)
      ≡ cond (is_key bytes text k) (Some v) (lookup (is_key bytes text) es)
      → lookup (is_key bytes text) (match_ordering o ((k, v) ∷ e ∷ es) ((e.0, v) ∷ es) (e ∷ inserted es))
      ≡ cond (is_key bytes text k) (Some v) (lookup (is_key bytes text) (e ∷ es))
  inserted-by e es Less is rest = refl
  inserted-by e es Equal is rest =
      let equal : bytes k ≡ bytes e.0 = slice_cmp-equal (bytes k) (bytes e.0) (ap is_eq is) in
      let same : is_key bytes text k ≡ is_key bytes text e.0 = ap (λ (b : List ℕ). is_eq (text_cmp text b)) equal in
      rw same (twice (is_key bytes text e.0) v e.1 (lookup (is_key bytes text) es))
  inserted-by e es Greater is rest =
      ap (λ (found : Option ℕ). cond (is_key bytes text e.0) (Some e.1) found) rest
      ∙ apart (is_key bytes text k) (is_key bytes text e.0) v e.1 (lookup (is_key bytes text) es)
      (λ both. true≢false (sym (text-self (bytes k) (bytes e.0)
      (sym (slice_cmp-equal text (bytes k) both.0) ∙ slice_cmp-equal text (bytes e.0) both.1)) ∙ ap is_eq is))

  pub looked-up : (es : List (K × ℕ)) → lookup (is_key bytes text) (inserted es)
      ≡ cond (is_key bytes text k) (Some v) (lookup (is_key bytes text) es)
  looked-up [] = refl
  looked-up (e ∷ es) = inserted-by e es (text_cmp (bytes k) (bytes e.0)) refl (looked-up es)

-- ---- what a look-up finds

pub none-got : (found : Option (Bor ℕ)) (place : Option ℕ) → option_copied found ≡ place → is_some found ≡ false
    → place ≡ None
none-got None place same none = sym same
none-got (Some at) place same none = absurd (true≢false none)

pub some-got : (found : Option (Bor ℕ)) (place : Option ℕ) → option_copied found ≡ place → is_some found ≡ true
    → (at : ℕ) × (place ≡ Some at)
some-got None place same some = absurd (true≢false (sym some))
some-got (Some at) place same some = (at.now, sym same)

-- ---- one row more

bytes-flip : (a b : List ℕ) → is_eq (text_cmp a b) ≡ bytes_eq b a
bytes-flip a b = by_both (is_eq (text_cmp a b)) (bytes_eq b a) refl refl
  where
    by_both : (c d : Bool) → is_eq (text_cmp a b) ≡ c → bytes_eq b a ≡ d → c ≡ d
    by_both true true one two = refl
    by_both false false one two = refl
    by_both true false one two =
        absurd (true≢false (sym ((bytes_decides b a).1 (sym (slice_cmp-equal a b one))) ∙ two))
    by_both false true one two =
        absurd (true≢false (sym (text-self a b (sym ((bytes_decides b a).0 two))) ∙ one))

or-none : (place : Option ℕ) → or_else place None ≡ place
or-none None = refl
or-none (Some n) = refl

one-behind : (origin : List ℕ) (rows : List Row) (row : Row) → place_of origin (rows ++ row ∷ [])
    ≡ or_else (place_of origin rows) (cond (bytes_eq row.origin origin) (Some (length rows)) None)
one-behind origin rows row =
    behind (λ (r : Row). bytes_eq r.origin origin) rows row 0
    ∙ ap (λ (n : ℕ). or_else (place_of origin rows) (cond (bytes_eq row.origin origin) (Some n) None)) (omega (arith))

module _ {K : Type 0} (bytes : K → List ℕ) (es : List (K × ℕ)) (rows : List Row) (row : Row)
    (placed : ArePlaced bytes es rows) where
  -- its origin has none yet
  new-at : (k : K) → bytes k ≡ row.origin → lookup (is_key bytes row.origin) es ≡ None → (origin : List ℕ) (b : Bool)
      → bytes_eq row.origin origin ≡ b
      → cond b (Some (length rows)) (lookup (is_key bytes origin) es)
      ≡ or_else (place_of origin rows) (cond b (Some (length rows)) None)
  new-at k key none origin true is =
      let same : row.origin ≡ origin = (bytes_decides row.origin origin).0 is in
      let gone : place_of origin rows ≡ None = subst (λ (o : List ℕ). place_of o rows ≡ None) same
      (sym (placed row.origin) ∙ none) in
      rw gone refl
  new-at k key none origin false is = placed origin ∙ sym (or-none (place_of origin rows))

  placed-last : (k : K) → bytes k ≡ row.origin → lookup (is_key bytes row.origin) es ≡ None
      → ArePlaced bytes (insert_entry (key_cmp bytes) es k (length rows)) (rows ++ row ∷ [])
  placed-last k key none = λ origin.
      let is : is_key bytes origin k ≡ bytes_eq row.origin origin = rw key (bytes-flip origin row.origin) in
      looked-up bytes origin k (length rows) es
      ∙ ap (λ (b : Bool). cond b (Some (length rows)) (lookup (is_key bytes origin) es)) is
      ∙ new-at k key none origin (bytes_eq row.origin origin) refl
      ∙ sym (one-behind origin rows row)

  pub placed-new : (k : K) (v : ℕ) → bytes k ≡ row.origin → v ≡ length rows
      → lookup (is_key bytes row.origin) es ≡ None
      → ArePlaced bytes (insert_entry (key_cmp bytes) es k v) (rows ++ row ∷ [])
  placed-new k v key last none = λ origin.
      ap (λ (n : ℕ). lookup (is_key bytes origin) (insert_entry (key_cmp bytes) es k n)) last
      ∙ placed-last k key none origin

  -- its origin has one
  known-at : (place : ℕ) → lookup (is_key bytes row.origin) es ≡ Some place → (origin : List ℕ) (b : Bool)
      → bytes_eq row.origin origin ≡ b → lookup (is_key bytes origin) es
      ≡ or_else (place_of origin rows) (cond b (Some (length rows)) None)
  known-at place some origin true is =
      let same : row.origin ≡ origin = (bytes_decides row.origin origin).0 is in
      let there : place_of origin rows ≡ Some place = subst (λ (o : List ℕ). place_of o rows ≡ Some place) same
      (sym (placed row.origin) ∙ some) in
      placed origin ∙ rw there refl
  known-at place some origin false is = placed origin ∙ sym (or-none (place_of origin rows))

  pub placed-known : (place : ℕ) → lookup (is_key bytes row.origin) es ≡ Some place
      → ArePlaced bytes es (rows ++ row ∷ [])
  placed-known place some = λ origin.
      known-at place some origin (bytes_eq row.origin origin) refl
      ∙ sym (one-behind origin rows row)
