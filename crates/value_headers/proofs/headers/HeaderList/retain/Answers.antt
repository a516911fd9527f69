use Rattle.std.proofs.Common.{subst, sym}
use Rattle.value_headers.specs.Spelling.{HaveOneSpelling}
use Rattle.value_headers.proofs.SpellingLemmas.{one_spelling-filter}
use Rattle.value_headers.proofs.headers.HeaderList.retain.Goals as goal

pub invariant_of-self : goal.invariant_of-self
invariant_of-self g c =
    subst HaveOneSpelling (sym c.keep_in.ensures.items)
    (one_spelling-filter (g.T.HeaderTest.passing c.args.test.now) c.self.inside.headers.items c.self.invariant)
