use Rattle.std.proofs.Common.{◌≡◌, rules, subst, sym}
use Rattle.value_requests.specs.Requests.{IsAtHttp, IsRequest, current_url}
use Rattle.fetch_rules.specs.Upgrading.{with_https, with_last}
use Rattle.fetch_rules.proofs.UpgradingLemmas.{secured-http, secured-request}
use Rattle.fetch_rules.proofs.upgrading.secure.Goals as goal

pub returns-clause-valid : goal.returns-clause-valid
returns-clause-valid c =
    let request = c.args.request.now in
    let is : c.set_last.new.self ≡ with_last (with_https (current_url request)) request.urls = search rules in
    subst (λ urls. IsRequest (record request { urls = urls })) (sym is) (secured-request request c.requires.valid)

pub returns-clause-http : goal.returns-clause-http
returns-clause-http c =
    let request = c.args.request.now in
    let is : c.set_last.new.self ≡ with_last (with_https (current_url request)) request.urls = search rules in
    subst (λ urls. IsAtHttp (record request { urls = urls })) (sym is) (secured-http request)
