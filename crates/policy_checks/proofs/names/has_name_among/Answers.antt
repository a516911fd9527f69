use Rattle.std.proofs.Common.{◌∙◌}
use Rattle.policy_checks.proofs.NameLemmas.{among_now}
use Rattle.policy_checks.proofs.names.has_name_among.Goals as goal

pub returns : goal.returns
returns c = rw c.name.ensures at c.is_among_fold.ensures ∙ among_now c.args.names.now c.args.header.now
