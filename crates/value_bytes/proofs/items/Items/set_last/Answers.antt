use Rattle.std.proofs.Common.{arith, ◌≡◌, ◌-◌, ◌<◌, ◌≤◌, ◌++◌, ◌∷◌, [], ℕ, List, length, take, set, suc, ap, ◌∙◌}
use Rattle.std.proofs.lemmas.List.{set_split}
use Rattle.std.proofs.Math.ListN.{drop_of_length-le}
use Rattle.value_bytes.proofs.items.Items.set_last.Goals as goal

-- writing the last item leaves those before it
set-last : {X : Type 0} (xs : List X) (i : ℕ) (y : X) → i < length xs → length xs ≤ suc i
    → set xs i y ≡ take i xs ++ y ∷ []
set-last xs i y lt le = set_split xs i y lt ∙ ap (λ l. take i xs ++ y ∷ l) (drop_of_length-le xs le)

pub returns : goal.returns
returns g c =
    let xs = c.args.self.now in
    let some : 0 < length xs = c.requires in
    let same : c.len-last.result ≡ length xs = grind (arith, c.len-last.ensures) in
    let lt : length xs - 1 < length xs = omega arith in
    let le : length xs ≤ suc (length xs - 1) = omega arith in
    let last = set-last xs (length xs - 1) c.args.item lt le in
    grind (arith, same, last)
