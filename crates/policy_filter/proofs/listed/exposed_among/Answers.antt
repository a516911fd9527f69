use Rattle.std.proofs.lemmas.Result.{IfOk-weaker}
use Rattle.std.specs.Str.{str_to_ascii_lowercase}
use Rattle.policy_filter.proofs.ListedLemmas.{found-named}
use Rattle.policy_filter.proofs.listed.exposed_among.Goals as goal

pub returns : goal.returns
returns c =
    IfOk-weaker c.found_in.result _ _ (λ found are. found-named c.in_ok-lower.lower c.args.names.now found
    c.args.headers.now (λ text. c.in_ok-lower.ensures (str_to_ascii_lowercase text)) are) c.found_in.ensures
