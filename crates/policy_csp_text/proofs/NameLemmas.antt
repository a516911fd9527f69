-- The set of the names of the directives found.
use Rattle.std.proofs.Common.{◌≡◌, ◌++◌, ◌∷◌, [], ℕ, Bool, true, false, ◌||◌, not, List, refl, ap, sym, ◌∙◌}
use Rattle.std.proofs.Common.{Bor, None, Option, Some, map}
use Rattle.std.proofs.lemmas.List.{map-append}
use Rattle.std.proofs.lemmas.List.Elements.{filter_map-append}
use Rattle.std.proofs.lemmas.List.Folds.{list_any-append}
use Rattle.std.specs.Prelude.{bytes_eq, option_map}
use Rattle.std.specs.BTreeSet.{insert_key}
use Rattle.std.specs.Cmp.Lexicographic.{texts_ties}
use Rattle.std.specs.List.{cons_option, list_any}
use Rattle.std.specs.Ordering.{is_eq, match_ordering}
use Rattle.std.specs.declared.cmp.Ordering.{Ordering}
use Rattle.std.specs.declared.cmp.Ordering.TheVariants.{Equal, Greater, Less}
use Rattle.value_lemmas.proofs.Tests.{or-again, or-left_comm}
use Rattle.value_lemmas.proofs.Bytes.{slice_cmp-equal}
use Rattle.value_text.specs.Orders.{text_cmp}
use Rattle.policy_csp_text.specs.Private.Collecting.{AreNames, directives_in, is_key, is_new, key_cmp, with_found}
use Rattle.policy_csp_text.specs.Policies.{directive_of}
use Rattle.policy_csp_text.specs.declared.policy.Directive.{Directive}

at-end : (a b : Bool) → (a || b) ≡ (b || (a || false))
at-end true true = refl
at-end true false = refl
at-end false true = refl
at-end false false = refl

module _ {K : Type 0} (bytes : K → List ℕ) where
  inserted-by : (name : List ℕ) (k x : K) (keys : List K) (o : Ordering) → text_cmp (bytes k) (bytes x) ≡ o
      → list_any (is_key bytes name) (insert_key (key_cmp bytes) keys k)
      ≡ (is_key bytes name k || list_any (is_key bytes name) keys)
      → list_any (is_key bytes name) (match_ordering o (k ∷ x ∷ keys) (x ∷ keys)
      (x ∷ insert_key (key_cmp bytes) keys k))
      ≡ (is_key bytes name k || list_any (is_key bytes name) (x ∷ keys))
  inserted-by name k x keys Less is rest = refl
  inserted-by name k x keys Equal is rest =
      let same : is_key bytes name k ≡ is_key bytes name x =
      ap (λ (b : List ℕ). is_eq (text_cmp name b)) (slice_cmp-equal (bytes k) (bytes x) (ap is_eq is)) in
      rw same (or-again (is_key bytes name x) (list_any (is_key bytes name) keys))
  inserted-by name k x keys Greater is rest =
      ap (λ (b : Bool). is_key bytes name x || b) rest
      ∙ or-left_comm (is_key bytes name x) (is_key bytes name k) (list_any (is_key bytes name) keys)

  any-inserted : (name : List ℕ) (k : K) (keys : List K)
      → list_any (is_key bytes name) (insert_key (key_cmp bytes) keys k)
      ≡ (is_key bytes name k || list_any (is_key bytes name) keys)
  any-inserted name k [] = refl
  any-inserted name k (x ∷ keys) =
      inserted-by name k x keys (text_cmp (bytes k) (bytes x)) refl (any-inserted name k keys)

  -- one name more
  pub names-more : (keys more : List K) (found : List Directive) (k : K) (directive : Directive)
      → AreNames bytes keys found → bytes k ≡ directive.name → more ≡ insert_key (key_cmp bytes) keys k
      → AreNames bytes more (found ++ directive ∷ [])
  names-more keys more found k directive are key is = λ name.
      ap (list_any (is_key bytes name)) is ∙ any-inserted name k keys
      ∙ rw (are name, key, ← texts_ties name directive.name)
      (at-end (bytes_eq name directive.name) (list_any (λ (d : Directive). bytes_eq name d.name) found))
      ∙ sym (list_any-append (λ (d : Directive). bytes_eq name d.name) found (directive ∷ []))

  -- whether the name is new
  pub added-new : (keys : List K) (found : List Directive) (k : K) (directive : Directive) (added : Bool)
      → AreNames bytes keys found → bytes k ≡ directive.name
      → added ≡ not (list_any (λ x. is_eq (text_cmp (bytes k) (bytes x))) keys) → added ≡ is_new found directive
  added-new keys found k directive added are key is =
      is ∙ ap (λ (n : List ℕ). not (list_any (is_key bytes n) keys)) key ∙ ap not (are directive.name)

-- the directives of tokens and one token more
more-in : (tokens : List (Bor (List ℕ))) (token : Bor (List ℕ)) (directive : Directive)
    → directive_of token.now ≡ Some directive
    → directives_in (map (λ t. t.now) (tokens ++ token ∷ []))
    ≡ directives_in (map (λ t. t.now) tokens) ++ directive ∷ []
more-in tokens token directive is =
    ap directives_in (map-append (λ t. t.now) tokens (token ∷ []))
    ∙ filter_map-append directive_of (map (λ t. t.now) tokens) (token.now ∷ [])
    ∙ ap (λ o. directives_in (map (λ t. t.now) tokens) ++ cons_option o []) is

-- a directive that is new is added
adds-new : (found : Option Directive) (old : List Directive) (directive : Directive) → found ≡ Some directive
    → is_new old directive ≡ true → with_found found old ≡ old ++ directive ∷ []
adds-new found old directive is new = ap (λ o. with_found o old) is ∙ rw new refl

-- a directive that is not new is not added
keeps-old : (found : Option Directive) (old : List Directive) (directive : Directive) → found ≡ Some directive
    → is_new old directive ≡ false → with_found found old ≡ old
keeps-old found old directive is known = ap (λ o. with_found o old) is ∙ rw known refl

-- the directive of a token whose name is known
abbrev HasName : List ℕ → Option Directive → Type 0
HasName name found = (directive : Directive) × (found ≡ Some directive) × (name ≡ directive.name)

named-of : (name : List ℕ) (found : Option Directive) → Some name ≡ option_map (λ directive. directive.name) found
    → HasName name found
named-of name None is = absurd (cc)
named-of name (Some directive) is = (directive, refl, cc)

module _ {K : Type 0} (bytes : K → List ℕ) where
  -- a token whose name is new is added
  pub token-added : (keys more : List K) (firsts : List (Bor (List ℕ))) (k : K) (token : Bor (List ℕ))
      → AreNames bytes keys (directives_in (map (λ t. t.now) firsts))
      → Some (bytes k) ≡ option_map (λ directive. directive.name) (directive_of token.now)
      → not (list_any (λ x. is_eq (text_cmp (bytes k) (bytes x))) keys) ≡ true
      → more ≡ insert_key (key_cmp bytes) keys k
      → (directives_in (map (λ t. t.now) (firsts ++ token ∷ []))
      ≡ with_found (directive_of token.now) (directives_in (map (λ t. t.now) firsts)))
      × AreNames bytes more (directives_in (map (λ t. t.now) (firsts ++ token ∷ [])))
  token-added keys more firsts k token are name new is =
      let (directive, found, named) = named-of (bytes k) (directive_of token.now) name in
      let old = directives_in (map (λ t. t.now) firsts) in
      let adds : is_new old directive ≡ true = sym (added-new bytes keys old k directive _ are named refl) ∙ new in
      let now = more-in firsts token directive found in (
        now ∙ sym (adds-new (directive_of token.now) old directive found adds),
        λ n.
            names-more bytes keys more old k directive are named is n
            ∙ ap (list_any (λ other. bytes_eq n other.name)) (sym now),
      )

  -- a token whose name is there is not added
  pub token-passed : (keys : List K) (firsts : List (Bor (List ℕ))) (k : K) (token : Bor (List ℕ))
      → AreNames bytes keys (directives_in (map (λ t. t.now) firsts))
      → Some (bytes k) ≡ option_map (λ directive. directive.name) (directive_of token.now)
      → not (list_any (λ x. is_eq (text_cmp (bytes k) (bytes x))) keys) ≡ false
      → directives_in (map (λ t. t.now) firsts)
      ≡ with_found (directive_of token.now) (directives_in (map (λ t. t.now) firsts))
  token-passed keys firsts k token are name old-name =
      let (directive, found, named) = named-of (bytes k) (directive_of token.now) name in
      let old = directives_in (map (λ t. t.now) firsts) in
      let stays : is_new old directive ≡ false = sym (added-new bytes keys old k directive _ are named refl) ∙ old-name in
      sym (keeps-old (directive_of token.now) old directive found stays)
