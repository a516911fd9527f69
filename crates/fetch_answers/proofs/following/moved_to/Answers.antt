use Rattle.std.proofs.Common.{refl, subst, sym}
use Rattle.value_requests.specs.Requests.{IsRequest}
use Rattle.fetch_answers.proofs.FollowingLemmas.{StaysAt, authorization_stays, next_is}
use Rattle.fetch_answers.proofs.following.moved_to.Goals as goal

pub returns-clause-request : goal.returns-clause-request
returns-clause-request c =
    let is = c.requires.request in
    let same : StaysAt c.args.request c.args.request =
    record { urls = refl; redirects = refl; referrer = refl; method = is.method } in
    let stays = subst (StaysAt c.args.request) (sym c.set_authorization_at.ensures)
    (authorization_stays c.args.url c.args.request c.args.request same) in
    subst IsRequest (sym c.in_ok-go_to.ensures)
    (next_is c.args.url c.args.request c.set_authorization_at.new.request is c.requires.few c.requires.at_http stays)
