use Rattle.std.proofs.Common.{◌≡◌, ◌++◌, ◌∷◌, drop}
use Rattle.std.specs.List.{flat_map, join_with_byte}
use Rattle.value_text.specs.Ascii.{comma}
use Rattle.server_tables.proofs.replies.add_joined.Given as goal

abbrev pub invariant-loop-one : goal.invariant-loop-one
invariant-loop-one l =
    l.text.items ++ flat_map (λ one. comma ∷ one) (drop l.one-index l.rest)
    ≡ l.fn.text.items ++ join_with_byte comma (l.first ∷ l.rest)
