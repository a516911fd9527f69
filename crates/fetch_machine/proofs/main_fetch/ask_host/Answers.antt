use Rattle.std.proofs.Common.{◌∙◌, ap, sym}
use Rattle.fetch_definitions.specs.Fetch.{onward_of}
use Rattle.fetch_machine.specs.Machine.{next_of}
use Rattle.fetch_definitions.specs.MainFetch.{matched_by}
use Rattle.fetch_definitions.specs.Then.{Context}
use Rattle.fetch_machine.proofs.MachineLemmas.{leads-same}
use Rattle.fetch_machine.proofs.main_fetch.ask_host.Goals as goal

pub returns-in-Some : goal.returns-in-Some
returns-in-Some c =
    let context = c.args.context.now in
    let time = ap (λ (x : Context). x.now) c.context.view_is in
    leads-same context c.asking.result _ _
    (ap (matched_by (onward_of context c.args.level.request.value) context
    (next_of context c.args.level.owed c.args.level.owes) c.args.level.request.value)
    (sym (rw (c.deref.ensures, time) at c.in_ok-match_of.ensures.value) ∙ c.in-Some.is))
    c.asking.ensures
