use Rattle.std.proofs.Common.{rules}
use Rattle.value_requests.proofs.StripLemmas.{http-web}
use Rattle.value_requests.proofs.stripping.strip_copy.Goals as goal

pub drop_credentials-requires : goal.drop_credentials-requires
drop_credentials-requires c =
    let web = http-web _ c.drop_fragment.ensures.valid (search rules) in
    search rules

pub returns-clause-web : goal.returns-clause-web
returns-clause-web c =
    let web = http-web _ c.drop_fragment.ensures.valid (search rules) in
    search rules
