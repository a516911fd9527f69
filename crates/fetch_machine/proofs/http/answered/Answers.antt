use Rattle.std.proofs.Common.{◌∙◌, ap, sym}
use Rattle.fetch_definitions.specs.Fetch.{onward_of}
use Rattle.fetch_machine.specs.Machine.{next_of}
use Rattle.fetch_definitions.specs.Then.{Context}
use Rattle.fetch_machine.proofs.MachineLemmas.{answered-notes, leads-same}
use Rattle.fetch_machine.proofs.http.answered.Goals as goal

pub returns-in-Some : goal.returns-in-Some
returns-in-Some c =
    let context = c.args.context.now in
    let time = ap (λ (x : Context). x.now) c.context.view_is in
    let next = next_of context c.args.level.owed c.args.level.owes in
    leads-same context c.asking.result _ _
    (answered-notes (onward_of context c.args.level.request.value) context next c.args.level.request.value c.args.came
    c.in-Ok.head
    c.in-Some.op c.in-Ok.is (sym (rw (c.deref.ensures, time) at c.in_ok-note_of.ensures.value) ∙ c.in-Some.is))
    c.asking.ensures
