use Rattle.std.proofs.Common.{◌∙◌, ap, sym}
use Rattle.fetch_definitions.specs.Fetch.{onward_of}
use Rattle.fetch_machine.specs.Machine.{next_of}
use Rattle.fetch_definitions.specs.Then.{Context}
use Rattle.fetch_machine.proofs.MachineLemmas.{leads-same, preflight-notes}
use Rattle.fetch_machine.proofs.preflight.preflight_answered.Goals as goal

pub returns : goal.returns
returns c =
    let context = c.args.context.now in
    let time = ap (λ (x : Context). x.now) c.context.view_is in
    let next = next_of context c.args.level.owed c.args.level.owes in
    leads-same context c.asking.result _ _
    (preflight-notes (onward_of context c.args.level.request.value) context next c.args.level.request.value c.args.came
    c.in-Ok.head
    c.in-Some.op c.in_ok-checked.checked c.in-Ok.is
    (sym (rw (c.deref-2.ensures, time) at c.in_ok-note_of.ensures.value) ∙ c.in-Some.is)
    (rw c.deref.ensures at c.in_ok-checked.ensures))
    c.asking.ensures
