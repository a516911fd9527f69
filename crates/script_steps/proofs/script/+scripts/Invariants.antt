use Rattle.std.proofs.Common.{◌≡◌, ◌+◌, ◌*◌, length}
use Rattle.script_scenarios.specs.Scripts.{count}
use Rattle.value_json.specs.Trees.{trees_of}
use Rattle.value_json.specs.Reading.{each_from}
use Rattle.value_json.proofs.ReadingLemmas.{with_front}
use Rattle.script_steps.specs.Scripts.{command_in}
use Rattle.script_steps.proofs.StepLemmas.{listed}
use Rattle.script_steps.proofs.script.+scripts.Given as goal

-- the commands so far come before those that are left
abbrev pub invariant-commands-loop-item : goal.invariant-commands-loop-item
invariant-commands-loop-item l =
    each_from (command_in l.repeats l.ifs) 0 (trees_of l.fn.items)
    ≡ with_front (listed l.script) (each_from (command_in l.repeats l.ifs) (count l.script) (trees_of l.items))

abbrev pub decreases-commands-loop-item : goal.decreases-commands-loop-item
decreases-commands-loop-item l = length l.items

abbrev pub decreases-script_under : goal.decreases-script_under
decreases-script_under l = 8 * (l.repeats + l.ifs) + 7

abbrev pub decreases-script_or_none : goal.decreases-script_or_none
decreases-script_or_none l = 8 * (l.repeats + l.ifs) + 7

abbrev pub decreases-script : goal.decreases-script
decreases-script l = 8 * (l.repeats + l.ifs) + 6

abbrev pub decreases-commands : goal.decreases-commands
decreases-commands l = 8 * (l.repeats + l.ifs) + 5

abbrev pub decreases-command_at : goal.decreases-command_at
decreases-command_at l = 8 * (l.repeats + l.ifs) + 4

abbrev pub decreases-command : goal.decreases-command
decreases-command l = 8 * (l.repeats + l.ifs) + 3

abbrev pub decreases-repeat_command : goal.decreases-repeat_command
decreases-repeat_command l = 8 * (l.repeats + l.ifs) + 2

abbrev pub decreases-if_command : goal.decreases-if_command
decreases-if_command l = 8 * (l.repeats + l.ifs) + 2
