-- Hash-sources in a set: their algorithms and their values.
use Rattle.std.specs.Prelude.{ℕ, Bool, List}
use Rattle.std.specs.Borrow.{Bor}
use Rattle.std.specs.List.{list_any}
use Rattle.std.specs.Ordering.{is_eq, nat_cmp, ordering_then}
use Rattle.value_text.specs.Texts.{Text}
use Rattle.value_text.specs.Orders.{text_cmp}
use Rattle.policy_integrity.specs.declared.metadata.HashExpression.{HashExpression}

-- the hash expression is one of the keys
abbrev pub is_in : HashExpression → List (ℕ × Bor Text) → Bool
is_in hash keys = list_any
    (λ key. is_eq (ordering_then (nat_cmp hash.algorithm key.0) (text_cmp hash.value key.1.now))) keys
