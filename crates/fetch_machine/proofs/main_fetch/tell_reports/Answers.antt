use Rattle.std.proofs.Common.{◌∙◌, ap, arith, sym}
use Rattle.std.proofs.lemmas.List.{drop_all}
use Rattle.value_lemmas.proofs.Lists.{drop-slice_get}
use Rattle.fetch_rules.specs.Upgrading.{upgraded}
use Rattle.fetch_definitions.specs.Fetch.{onward_of}
use Rattle.fetch_machine.specs.Machine.{next_of}
use Rattle.fetch_definitions.specs.MainFetch.{checked}
use Rattle.fetch_definitions.specs.Then.{tell_all}
use Rattle.fetch_machine.proofs.MachineLemmas.{does-same, leads-changed, leads-same, onward-same}
use Rattle.fetch_machine.proofs.MachineLemmas.{upgraded-redirects}
use Rattle.fetch_machine.proofs.main_fetch.tell_reports.Goals as goal

pub returns-then-at-len : goal.returns-then-at-len
returns-then-at-len c =
    let context = c.args.context.now in
    let next = next_of context c.args.level.owed c.args.level.owes in
    let onward = onward_of context c.args.level.request.value in
    let made = upgraded context.client context.policies c.args.level.request.value in
    does-same context c.going.result _ _
    (ap (λ left. tell_all c.args.level.request.value left (checked onward context next made))
    (drop-slice_get c.args.violations c.args.at c.at.result.now c.at.ensures))
    (rw c.in_ok-violation.ensures at c.going.ensures)

pub returns : goal.returns
returns c =
    let context = c.args.context.now in
    let next = next_of context c.args.level.owed c.args.level.owes in
    let made = upgraded context.client context.policies c.args.level.request.value in
    let changed = c.in_ok-upgraded_level.ensures.value in
    leads-same context c.check.result _ _
    (ap (λ left. tell_all c.args.level.request.value left
    (checked (onward_of context c.args.level.request.value) context next made))
    (drop_all c.args.at c.args.violations (omega (arith, c.if-at-len.false, c.len.ensures)))
    ∙ ap (λ onward. checked onward context next made)
    (onward-same context c.args.level.request.value made
    (sym (upgraded-redirects context.client context.policies c.args.level.request.value))))
    (leads-changed context c.check.result c.args.level c.in_ok-upgraded_level.field-0 made checked
    changed.0 changed.1 changed.2 c.check.ensures)
