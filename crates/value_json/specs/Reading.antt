-- Reading a JSON tree (RFC 8259) by tables of keys: the value, or the first refused place. A place is
-- written from the value that is being read: a segment is put before it at each level.
use Rattle.std.specs.Prelude.{ℕ, ◌+◌, ◌&&◌, Bool, true, nat_le, List, [], ◌∷◌, ◌++◌, codes, decimal}
use Rattle.std.specs.Prelude.{bytes_eq, Option, Some, None, is_some, option_and_then, Result, Ok, Err, if◌then◌else◌, ⊤}
use Rattle.serde_json.specs.Data.{Data, Items, no_items, item}
use Rattle.serde_json.specs.Find.{get, as_bool, as_number, as_u64, as_str, as_array, as_object}
use Rattle.value_text.specs.Texts.{Text}
pub use Rattle.value_json.specs.Keys.{is_one_of, known, has_keys}
pub use Rattle.value_json.specs.Trees.{count}

-- a value, or the place that is refused
abbrev pub Read : Type 0 → Type 0
Read A = Result A Text

-- then read on, unless a place was refused
infixl 10 ◌>>=◌
abbrev pub ◌>>=◌ : {A B : Type 0} → Read A → (A → Read B) → Read B
(Ok x) >>= next = next x
(Err place) >>= next = Err place

-- the place, under a segment
abbrev pub below : Text → Text → Text
below segment place = codes "/" ++ (segment ++ place)

-- what is read under a segment
abbrev pub under : {A : Type 0} → Text → Read A → Read A
under segment (Ok x) = Ok x
under segment (Err place) = Err (below segment place)

-- ---- values

-- the value, where there is one
abbrev pub present : {A : Type 0} → Option A → Read A
present None = Err []
present (Some x) = Ok x

-- the value, where it passes its test
abbrev pub given : {A : Type 0} → Bool → A → Read A
given passes x = if passes then Ok x else Err []

-- a whole number from least to most
abbrev pub number_of : ℕ → ℕ → Data → Read ℕ
number_of least most tree = do
  number ← present (option_and_then as_u64 (as_number tree))
  given (nat_le least number && nat_le number most) number

-- true or false
abbrev pub truth_of : Data → Read Bool
truth_of tree = present (as_bool tree)

-- a text that passes its test
abbrev pub text_that : (Text → Bool) → Data → Read Text
text_that passes tree = do
  text ← present (as_str tree)
  given (passes text) text

-- any text passes
abbrev pub any : Text → Bool
any text = true

-- the meaning of a word in a table of words
abbrev pub meaning : {A : Type 0} → List (Text × A) → Text → Option A
meaning [] text = None
meaning (entry ∷ words) text = if bytes_eq entry.0 text then Some entry.1 else meaning words text

-- the meaning of one of these words
abbrev pub word_of : {A : Type 0} → List (Text × A) → Data → Read A
word_of words tree = do
  text ← present (as_str tree)
  present (meaning words text)

-- the value where it is there: for a key whose default is that there is none
abbrev pub some_of : {A : Type 0} → (Data → Read A) → Data → Read (Option A)
some_of read tree = do
  x ← read tree
  Ok (Some x)

-- ---- objects

-- refused where the tree is no object, or has a key that is not named
abbrev pub only_keys : List Text → Data → Read ⊤
only_keys names tree = given (has_keys names (as_object tree)) tt

-- the tree has this key
abbrev pub has_key : Text → Data → Bool
has_key name tree = is_some (get name tree)

-- the value that was found, as it is read, or else the default
abbrev pub found_or : {A : Type 0} → Read A → (Data → Read A) → Option Data → Read A
found_or default read None = default
found_or default read (Some tree) = read tree

-- the value of a key, which has to be there
abbrev pub required : {A : Type 0} → Text → (Data → Read A) → Data → Read A
required name read tree = under name (found_or (Err []) read (get name tree))

-- the value of a key, or the default where the key is not there
abbrev pub optional : {A : Type 0} → Text → A → (Data → Read A) → Data → Read A
optional name default read tree = under name (found_or (Ok default) read (get name tree))

-- ---- lists

-- each item, counted from i
abbrev pub each_from : {A : Type 0} → (Data → Read A) → ℕ → Items → Read (List A)
each_from read i no_items = Ok []
each_from read i (item tree items) = do
  x ← under (decimal i) (read tree)
  xs ← each_from read (i + 1) items
  Ok (x ∷ xs)

-- a list of any length
abbrev pub items_of : {A : Type 0} → (Data → Read A) → Data → Read (List A)
items_of read tree = do
  items ← present (as_array tree)
  each_from read 0 items

-- a list of at most this many items
abbrev pub list_of : {A : Type 0} → ℕ → (Data → Read A) → Data → Read (List A)
list_of most read tree = do
  items ← present (as_array tree)
  few ← given (nat_le (count items) most) items
  each_from read 0 few

-- the two items of a list of two
abbrev pub two_of : Items → Option (Data × Data)
two_of (item first (item second no_items)) = Some (first, second)
two_of items = None

-- a list of two, each read in its own way
abbrev pub pair_of : {A B : Type 0} → (Data → Read A) → (Data → Read B) → Data → Read (A × B)
pair_of first second tree = do
  two ← present (option_and_then two_of (as_array tree))
  x ← under (decimal 0) (first two.0)
  y ← under (decimal 1) (second two.1)
  Ok (x, y)
