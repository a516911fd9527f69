use Rattle.std.proofs.Common.{None, rules}
use Rattle.policy_checks.proofs.StripLemmas.{query-dropped, path-dropped}
use Rattle.policy_checks.proofs.strip.drop_path_and_query.Goals as goal

pub returns : goal.returns
returns c =
    let query = query-dropped c.args.url.now c.requires.fragment in
    let path = path-dropped (record c.args.url.now { query = None }) c.requires.web in
    search rules
