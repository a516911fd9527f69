use Rattle.std.proofs.Common.{◌≡◌, ap, ◌∙◌, sym, ℕ, List, Ok}
use Rattle.std.specs.Prelude.{decimal}
use Rattle.script_scenarios.specs.Commands.{step_of}
use Rattle.script_scenarios.specs.Scripts.{Step, Steps, count}
use Rattle.value_json.specs.Trees.{data_of, trees_of}
use Rattle.value_json.specs.Reading.{Read, ◌>>=◌, under, each_from}
use Rattle.value_json.proofs.ReadingLemmas.{one-more, none-left}
use Rattle.script_steps.specs.Scripts.{command_in, in_order}
use Rattle.script_steps.proofs.StepLemmas.{listed, listed-and_step, count-and_step, in_order-listed}
use Rattle.script_steps.proofs.script.+scripts.Goals as goal

pub commands-loop-item-preserved : goal.commands-loop-item-preserved
commands-loop-item-preserved t c =
    let last = step_of c.in_ok-next.next in
    let read = command_in c.args.repeats c.args.ifs in
    let came : under (decimal (count c.loop-item.script)) (read (data_of c.in-Some.item)) ≡ Ok last =
    ap (λ (i : ℕ). under (decimal i) (read (data_of c.in-Some.item))) (sym c.len.ensures) ∙ c.in_ok-next.ensures in
    c.loop-item.invariant
    ∙ rw (c.in_ok-push.ensures.ok, listed-and_step c.loop-item.script last, count-and_step c.loop-item.script last)
    (one-more read (count c.loop-item.script) (trees_of c.loop-item.items) (trees_of c.next.new.self)
    (data_of c.in-Some.item) (listed c.loop-item.script) last c.in-Some.ensures.value came)

pub commands-returns : goal.commands-returns
commands-returns t c =
    let read = command_in c.args.repeats c.args.ifs in
    let whole : Read (List Step) = each_from read 0 (trees_of c.args.items) in
    ap (λ (steps : Read (List Step)). steps >>= (λ steps. let script : Read Steps = Ok (in_order steps) in script))
    (none-left read (count c.loop-item.script) (trees_of c.loop-item.items) (listed c.loop-item.script) whole
    c.in_default.ensures.value c.loop-item.invariant)
    ∙ ap (λ (steps : Steps). let script : Read Steps = Ok steps in script) (in_order-listed c.loop-item.script)
