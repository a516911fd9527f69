use Rattle.std.proofs.Common.{arith, ◌≡◌, subst, sym}
use Rattle.std.proofs.lemmas.Grind.{common_steps}
use Rattle.value_headers.specs.Headers.{appended}
use Rattle.value_headers.specs.Spelling.{HaveOneSpelling}
use Rattle.value_headers.proofs.SpellingLemmas.{one_spelling-appended}
use Rattle.value_headers.proofs.headers.HeaderList.append.Goals as goal

pub invariant_of-self-2 : goal.invariant_of-self-2
invariant_of-self-2 c =
    let old = c.self.inside.headers.items in
    let added : c.push.new.self.items ≡ appended c.args.name.now c.args.value.now old =
    grind (
      arith,
      common_steps,
      c.in_ok-push.ensures.items,
      c.in_ok-field.ensures,
      c.spelling_in-name.ensures,
      c.as_slice.ensures.value,
    ) in
    subst HaveOneSpelling (sym added) (one_spelling-appended c.args.name.now c.args.value.now old c.self.invariant)
