use Rattle.std.proofs.Common.{◌≡◌, ◌≤◌, ◌↔◌, Some, IfSome, refl}
use Rattle.book_hosts.specs.Field.{IsSts, greatest_age}
use Rattle.book_hosts.specs.Reading.{sts_in}
use Rattle.book_hosts.specs.declared.sts.Sts.{Sts}
use Rattle.book_hosts.proofs.StsLemmas.{age-bounded, of-answer, reads-the-grammar}
use Rattle.book_hosts.proofs.sts.parse_sts.Goals as goal

pub returns-clause-grammar : goal.returns-clause-grammar
returns-clause-grammar c =
    of-answer (λ parsed. (sts : Sts) → (parsed ≡ Some sts) ↔ IsSts c.args.value.now sts) c.args.value.now
    c.sts_in.result (reads-the-grammar c.args.value.now) c.sts_in.ensures

pub returns-clause-age : goal.returns-clause-age
returns-clause-age c =
    of-answer (λ parsed. IfSome parsed (λ sts. sts.age ≤ greatest_age)) c.args.value.now c.sts_in.result
    (age-bounded c.args.value.now (sts_in c.args.value.now) refl) c.sts_in.ensures
