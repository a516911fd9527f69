use Rattle.std.proofs.Common.{sym, ap, Ok, rules}
use Rattle.value_requests.proofs.StripLemmas.{fragment-absent, fragment-dropped}
use Rattle.value_requests.proofs.stripping.drop_fragment.Goals as goal

pub returns-then-is_none-clause-value : goal.returns-then-is_none-clause-value
returns-then-is_none-clause-value c = ap Ok (sym (fragment-absent c.args.url.now (search rules)))

pub returns-clause-value : goal.returns-clause-value
returns-clause-value c =
    (rw (fragment-dropped c.args.url.now c.fragment.ensures.valid) at c.set_fragment.ensures).0
