use Rattle.value_requests.proofs.TargetLemmas.{target-lacks_space}
use Rattle.value_requests.proofs.target.target_of.Goals as goal

pub returns-clause-no_space : goal.returns-clause-no_space
returns-clause-no_space c = λ http.
    rw c.path_and_query.ensures.value (target-lacks_space c.args.url.now c.path_and_query.ensures.valid http)
