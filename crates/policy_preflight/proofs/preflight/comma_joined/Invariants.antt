use Rattle.std.proofs.Common.{◌≡◌, ◌++◌, ◌∷◌, drop}
use Rattle.std.specs.List.{flat_map, join_with_byte}
use Rattle.value_text.specs.Ascii.{comma}
use Rattle.policy_preflight.proofs.preflight.comma_joined.Given as goal

abbrev pub invariant-loop-name : goal.invariant-loop-name
invariant-loop-name l =
    l.text ++ flat_map (λ name. comma ∷ name) (drop l.name-index l.names)
    ≡ join_with_byte comma (l.first ∷ l.names)
