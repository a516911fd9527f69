use Rattle.std.proofs.Common.{◌≡◌, ℕ, List, Result, Ok, Err, OnOk, OnErr, subst, sym}
use Rattle.value_headers.specs.Headers.{with_only}
use Rattle.value_headers.specs.Spelling.{HaveOneSpelling}
use Rattle.value_headers.specs.declared.headers.Header.{Header}
use Rattle.value_headers.proofs.SpellingLemmas.{one_spelling-with_only}
use Rattle.value_headers.proofs.headers.HeaderList.set.Goals as goal

-- the list is set, or as it was
one_spelling-set : {E : Type 0} (answer : Result (Unit {0}) E) (name value : List ℕ) (old new : List Header)
    → OnOk answer (new ≡ with_only name value old) → OnErr answer (new ≡ old) → HaveOneSpelling old
    → HaveOneSpelling new
one_spelling-set (Ok u) name value old new set same one =
    subst HaveOneSpelling (sym set) (one_spelling-with_only name value old one)
one_spelling-set (Err e) name value old new set same one = subst HaveOneSpelling (sym same) one

pub invariant_of-self : goal.invariant_of-self
invariant_of-self c =
    one_spelling-set c.set_in.result c.args.name.now c.args.value.now c.self.inside.headers.items
    c.set_in.new.headers.items c.set_in.ensures.ok c.set_in.ensures.err c.self.invariant
