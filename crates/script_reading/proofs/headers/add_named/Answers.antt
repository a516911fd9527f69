use Rattle.script_reading.proofs.HeaderLemmas.{appended-named, on-ok}
use Rattle.script_reading.proofs.headers.add_named.Goals as goal

pub returns-then-eq_fold : goal.returns-then-eq_fold
returns-then-eq_fold c =
    on-ok c.append.result _ _ (λ is. appended-named c.args.name.now c.as_slice-then-eq_fold.result.now
    c.as_slice-then-eq_fold-2.result.now c.args.list.now c.append.new.self c.args.header.now is
    c.as_slice-then-eq_fold.ensures c.as_slice-then-eq_fold-2.ensures) c.append.ensures.ok
