use Rattle.std.proofs.Common.{◌∙◌, ap, sym, append_assoc, ◌++◌, ◌∷◌, List, ℕ}
use Rattle.std.specs.List.{flat_map}
use Rattle.value_lemmas.proofs.Lists.{join_with_byte_cons}
use Rattle.value_text.specs.Ascii.{comma}
use Rattle.server_tables.proofs.replies.add_joined.Goals as goal

pub loop-one-init : goal.loop-one-init
loop-one-init c =
    let behind : List ℕ = flat_map (λ one. comma ∷ one) c.args.rest.now in
    ap (λ (l : List ℕ). l ++ behind) (c.in_ok-extend_from_slice.ensures.items
    ∙ ap (λ (l : List ℕ). c.args.text.now.items ++ l) c.as_slice.ensures)
    ∙ append_assoc c.args.text.now.items c.args.first.now behind
    ∙ ap (λ (l : List ℕ). c.args.text.now.items ++ l) (sym (join_with_byte_cons comma c.args.first.now c.args.rest.now))
