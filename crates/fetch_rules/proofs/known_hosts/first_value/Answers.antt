use Rattle.std.proofs.Common.{rules, sym}
use Rattle.fetch_rules.proofs.HeadLemmas.{first-found}
use Rattle.fetch_rules.proofs.known_hosts.first_value.Goals as goal

pub returns-in_err-first_named : goal.returns-in_err-first_named
returns-in_err-first_named c = rw (sym (first-found c.args.name.now c.args.headers.now)) (search rules)

pub returns : goal.returns
returns c = rw (sym (first-found c.args.name.now c.args.headers.now)) (search rules)
