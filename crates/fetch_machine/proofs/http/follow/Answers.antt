use Rattle.std.proofs.Common.{false}
use Rattle.fetch_answers.specs.Following.{redirected_request}
use Rattle.fetch_machine.specs.Machine.{next_of}
use Rattle.fetch_machine.proofs.MachineLemmas.{goes-on, redirected-count}
use Rattle.fetch_machine.proofs.http.follow.Goals as goal

pub returns : goal.returns
returns c =
    let context = c.args.context.now in
    let next = next_of context c.args.level.owed c.args.level.owes in
    goes-on context c.begin.result c.args.level.request.value.redirects c.redirect_request.new.request
    (redirected_request c.args.level.request.value c.args.head c.args.url) (next_of context c.total_owed.result false)
    next
    c.requires.few (rw c.deref_mut.ensures.value at c.in_ok-redirect_request.ensures.value)
    (redirected-count c.args.level.request.value c.args.head c.args.url) (c.total_owed.ensures.same context)
    c.begin.ensures
