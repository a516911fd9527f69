-- "convert header names to a sorted-lowercase set" (Fetch, section 2.2.2).
use Rattle.std.specs.Prelude.{◌≡◌, List, [], ◌∷◌, map, bytes_eq}
use Rattle.std.specs.BTreeSet.{insert_key}
use Rattle.std.specs.List.{list_any}
use Rattle.std.specs.List.Sorted.{IsStrictlySortedBy}
use Rattle.std.specs.Str.{str_to_ascii_lowercase}
use Rattle.value_text.specs.Texts.{Text}
use Rattle.value_text.specs.Orders.{text_cmp}

-- the names in lower case, in ascending order of their bytes, each once
abbrev pub sorted_lowercase_set : List Text → List Text
sorted_lowercase_set [] = []
sorted_lowercase_set (name ∷ names) =
    insert_key text_cmp (sorted_lowercase_set names) (str_to_ascii_lowercase name)

-- the texts ascend strictly, and their members are the names in lower case
pub record IsSortedLowercaseSet (names texts : List Text) : Type 0 where
  pub ascending : IsStrictlySortedBy text_cmp texts
  pub members :
      (text : Text) → list_any (bytes_eq text) texts ≡ list_any (bytes_eq text) (map str_to_ascii_lowercase names)
