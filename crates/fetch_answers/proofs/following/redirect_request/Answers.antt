use Rattle.std.proofs.Common.{subst, sym}
use Rattle.std.proofs.lemmas.Result.{on_ok_weaker}
use Rattle.value_requests.specs.Requests.{IsRequest}
use Rattle.fetch_answers.proofs.FollowingLemmas.{all_stay, next_is}
use Rattle.fetch_answers.proofs.following.redirect_request.Goals as goal

pub returns-clause-request : goal.returns-clause-request
returns-clause-request c =
    let stays =
    all_stay c.args.head.now c.args.url c.args.request.now _ _ _ c.requires.request c.in_ok-set_method_after.ensures
    c.set_authorization_at.ensures c.in_ok-set_policy_of.ensures in
    on_ok_weaker c.go_to.result
    (λ is. subst IsRequest (sym is)
    (next_is c.args.url c.args.request.now _ c.requires.request c.requires.few c.requires.at_http stays))
    c.go_to.ensures
