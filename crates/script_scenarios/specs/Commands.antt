-- The commands of a script in memory, as the steps that they are.
use Rattle.std.specs.Prelude.{List, [], ◌∷◌}
use Rattle.script_scenarios.specs.Scripts.{Step, fetch, load, wait, repeat, choose, Steps, no_steps, step}
use Rattle.script_scenarios.specs.declared.command.Command.{Command}
use Rattle.script_scenarios.specs.declared.command.Command.TheVariants.{Fetch, Load, Wait, Repeat, If}
use Rattle.script_scenarios.specs.declared.command.Script.TheInside.{Inside}

-- the step that a command is
abbrev pub step_of : Command → Step
step_of (Fetch init) = fetch init
step_of (Load init) = load init
step_of (Wait seconds) = wait seconds
step_of (Repeat times script) = repeat times script
step_of (If test script other) = choose test script other

-- the steps of commands, in order
abbrev pub steps_of : List Command → Steps
steps_of [] = no_steps
steps_of (command ∷ commands) = step (step_of command) (steps_of commands)

-- the steps of a script
abbrev pub steps_inside : Inside → Steps
steps_inside script = steps_of script.commands.items
