use Rattle.std.proofs.Common.{ap}
use Rattle.fetch_definitions.specs.Fetch.{onward_of}
use Rattle.fetch_definitions.specs.Then.{Context}
use Rattle.fetch_machine.proofs.MachineLemmas.{leads-same, with_preflight-owing}
use Rattle.fetch_machine.proofs.preflight.ask_cache.Goals as goal

pub returns : goal.returns
returns c =
    let context = c.args.context.now in
    let client = ap (λ (x : Context). x.client) c.context.view_is in
    let time = ap (λ (x : Context). x.now) c.context.view_is in
    leads-same context c.asking.result _ _
    (with_preflight-owing (onward_of context c.args.level.request.value) context c.args.level.owed c.args.level.owes
    c.args.level.request.value c.requires.owes)
    (rw (c.in_ok-op.ensures, c.deref.ensures, client, time) at c.asking.ensures)
