use Rattle.std.proofs.Common.{subst, sym}
use Rattle.value_headers.specs.Spelling.{HaveOneSpelling}
use Rattle.value_headers.proofs.SpellingLemmas.{one_spelling-filter}
use Rattle.value_headers.proofs.headers.HeaderList.copy_where.Goals as goal

pub invariant_of-result : goal.invariant_of-result
invariant_of-result g c =
    let one = subst HaveOneSpelling (sym c.as_slice.ensures.value) c.self.invariant in
    subst HaveOneSpelling (sym c.in_ok-headers.ensures)
    (one_spelling-filter (g.T.HeaderTest.passing c.args.test.now) c.as_slice.result.now one)
