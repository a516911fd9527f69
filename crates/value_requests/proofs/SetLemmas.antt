-- Sets of texts: what one has once a text was added.
use Rattle.std.proofs.Common.{◌≡◌, ◌∷◌, [], ℕ, Bool, ◌||◌, List, map, refl, ap, ◌∙◌}
use Rattle.std.proofs.lemmas.Map.Text.{is_eq-slice_cmp}
use Rattle.std.specs.Prelude.{bytes_eq}
use Rattle.std.specs.BTreeSet.{insert_key}
use Rattle.std.specs.Cmp.Lexicographic.{nat_list_eq_equiv}
use Rattle.std.specs.List.{list_any}
use Rattle.std.specs.Ordering.{is_eq, match_ordering}
use Rattle.std.specs.declared.cmp.Ordering.{Ordering}
use Rattle.std.specs.declared.cmp.Ordering.TheVariants.{Equal, Greater, Less}
use Rattle.value_lemmas.proofs.Tests.{or-again, or-left_comm}
use Rattle.value_lemmas.proofs.Bytes.{slice_cmp-equal}
use Rattle.value_text.specs.Orders.{text_cmp}
use Rattle.value_requests.specs.TextSets.{has_text}

module _ {K : Type 0} (bytes : K → List ℕ) where
  -- the order of keys by their bytes
  abbrev pub key_cmp : K → K → Ordering
  key_cmp a b = text_cmp (bytes a) (bytes b)

  inserted-by : (text : List ℕ) (k x : K) (keys : List K) (o : Ordering) → text_cmp (bytes k) (bytes x) ≡ o
      → has_text (map bytes (insert_key key_cmp keys k)) text
      ≡ (bytes_eq (bytes k) text || has_text (map bytes keys) text)
      → has_text (map bytes (match_ordering o (k ∷ x ∷ keys) (x ∷ keys) (x ∷ insert_key key_cmp keys k))) text
      ≡ (bytes_eq (bytes k) text || has_text (map bytes (x ∷ keys)) text)
  inserted-by text k x keys Less is rest = refl
  inserted-by text k x keys Equal is rest =
      let same : bytes_eq (bytes k) text ≡ bytes_eq (bytes x) text =
      ap (λ (b : List ℕ). bytes_eq b text) (slice_cmp-equal (bytes k) (bytes x) (ap is_eq is)) in
      rw same (or-again (bytes_eq (bytes x) text) (has_text (map bytes keys) text))
  inserted-by text k x keys Greater is rest =
      ap (λ (b : Bool). bytes_eq (bytes x) text || b) rest
      ∙ or-left_comm (bytes_eq (bytes x) text) (bytes_eq (bytes k) text) (has_text (map bytes keys) text)

  -- a key was added
  pub has-inserted : (text : List ℕ) (k : K) (keys : List K)
      → has_text (map bytes (insert_key key_cmp keys k)) text
      ≡ (bytes_eq (bytes k) text || has_text (map bytes keys) text)
  has-inserted text k [] = refl
  has-inserted text k (x ∷ keys) =
      inserted-by text k x keys (text_cmp (bytes k) (bytes x)) refl (has-inserted text k keys)

  -- a text is looked up
  pub has-found : (text : List ℕ) (keys : List K)
      → list_any (λ key. is_eq (text_cmp text (bytes key))) keys ≡ has_text (map bytes keys) text
  has-found text [] = refl
  has-found text (x ∷ keys) =
      rw (has-found text keys, is_eq-slice_cmp text (bytes x), nat_list_eq_equiv.symm text (bytes x)) refl
