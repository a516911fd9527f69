-- What a set of hash-sources has once a source was added.
use Rattle.std.proofs.Common.{◌≡◌, ℕ, Bool, true, false, ◌||◌, ◌&&◌, ◌==◌, cond, List, Bor, refl, ap, sym, ◌∙◌}
use Rattle.std.proofs.lemmas.Map.Text.{is_eq-slice_cmp}
use Rattle.std.specs.Prelude.{bytes_eq}
use Rattle.std.specs.Cmp.{unsigned_ties, tied_then}
use Rattle.std.specs.List.{list_any}
use Rattle.std.specs.Ordering.{is_eq, nat_cmp, ordering_then}
use Rattle.std.specs.declared.cmp.Ordering.{Ordering}
use Rattle.value_lemmas.proofs.Tests.{cond-or}
use Rattle.value_text.specs.Orders.{text_cmp}
use Rattle.policy_csp.specs.Private.Hashes.{is_in}
use Rattle.policy_integrity.specs.declared.metadata.HashExpression.{HashExpression}

-- the key of a hash-source
abbrev pub Key : Type 0
Key = ℕ × Bor (List ℕ)

abbrev pub key_cmp : Key → Key → Ordering
key_cmp a b = ordering_then (nat_cmp a.0 b.0) (text_cmp a.1.now b.1.now)

-- two keys are equal
same-key : (algorithm other : ℕ) (value text : List ℕ)
    → is_eq (ordering_then (nat_cmp algorithm other) (text_cmp value text))
    ≡ (algorithm == other && bytes_eq value text)
same-key algorithm other value text =
    sym (tied_then (nat_cmp algorithm other) (text_cmp value text))
    ∙ rw (is_eq-slice_cmp value text, ← unsigned_ties algorithm other) refl

-- a key was added
pub added-hash : (keys more : List Key) (algorithm : ℕ) (value : Bor (List ℕ)) (text : List ℕ) → value.now ≡ text
    → ((q : Key) → list_any (λ key. is_eq (key_cmp q key)) more
    ≡ cond (is_eq (key_cmp (algorithm, value) q)) true (list_any (λ key. is_eq (key_cmp q key)) keys))
    → (hash : HashExpression)
    → is_in hash more ≡ ((algorithm == hash.algorithm && bytes_eq text hash.value) || is_in hash keys)
added-hash keys more algorithm value text is grown hash =
    grown (hash.algorithm, record { ref_ptr = (0, 0); now = hash.value })
    ∙ cond-or _ (is_in hash keys)
    ∙ ap (λ (b : Bool). b || is_in hash keys)
    (same-key algorithm hash.algorithm value.now hash.value
    ∙ ap (λ (t : List ℕ). algorithm == hash.algorithm && bytes_eq t hash.value) is)

-- neither nonce nor integrity lets a script through
pub passes-by-url : (nonce integrity url answer : Bool) → nonce ≡ false → integrity ≡ false → answer ≡ url
    → answer ≡ ((nonce || integrity) || url)
passes-by-url nonce integrity url answer first second is =
    is ∙ sym (ap (λ (b : Bool). (b || integrity) || url) first ∙ ap (λ (b : Bool). (false || b) || url) second)
