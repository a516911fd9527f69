use Rattle.std.proofs.Common.{rules, subst, ◌↔◌, ◌≡◌, IsTrue, Some, Option, List, ℕ, Bool}
use Rattle.value_headers.specs.Headers.{combined}
use Rattle.value_headers.proofs.JoinLemmas.{is_text-Some}
use Rattle.value_headers.proofs.headers.HeaderList.has_value.Goals as goal

pub returns-clause-equal : goal.returns-clause-equal
returns-clause-equal c =
    let found : Option (List ℕ) = combined c.args.name.now c.args.self.now in
    subst (λ (b : Bool). IsTrue b ↔ (found ≡ Some c.args.text.now)) (search rules) (is_text-Some c.args.text.now found)
