-- How a cache is held: for each key the list of its own entries.
use Rattle.std.specs.Prelude.{List, [], ◌∷◌, ◌++◌, map}
use Rattle.std.specs.declared.cmp.Ordering.{Ordering}
use Rattle.value_text.specs.Texts.{Text}
use Rattle.value_text.specs.Orders.{text_cmp}
use Rattle.book_preflights.specs.declared.entry.CacheEntry.{CacheEntry}
use Rattle.book_preflights.specs.Keys.{Keyed, keyed}

-- the order of keys by their bytes
abbrev pub key_cmp : {K : Type 0} → (K → Text) → K → K → Ordering
key_cmp bytes a b = text_cmp (bytes a) (bytes b)

-- the entries that lists of entries hold under their keys, as one list
abbrev pub listed : {K : Type 0} → (K → Text) → List (K × List CacheEntry) → List Keyed
listed bytes [] = []
listed bytes (p ∷ ps) = map (keyed (bytes p.0)) p.1 ++ listed bytes ps
