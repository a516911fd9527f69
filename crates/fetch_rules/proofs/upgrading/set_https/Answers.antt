use Rattle.value_requests.proofs.StripLemmas.{http-web}
use Rattle.fetch_rules.proofs.UpgradingLemmas.{scheme-set}
use Rattle.fetch_rules.proofs.upgrading.set_https.Goals as goal

pub returns : goal.returns
returns c =
    let web = http-web c.args.url.now c.scheme.ensures.valid c.requires in
    (rw (scheme-set c.args.url.now web) at c.set_scheme.ensures).0
