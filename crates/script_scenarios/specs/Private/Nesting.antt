-- A script holds scripts that hold fewer (private contracts).
use Rattle.std.specs.Prelude.{◌≤◌, List, [], ◌∷◌}
use Rattle.std.proofs.Common.{arith}
use denote.Param.Weighed.{most}
use Rattle.script_scenarios.specs.Depth.{step_size, steps_size}
use Rattle.script_scenarios.specs.Commands.{step_of, steps_of}
use Rattle.script_scenarios.specs.declared.command.Command.{Command}
use Rattle.script_scenarios.specs.declared.command.Command.TheVariants.{Fetch, Load, Wait, Repeat, If}
use Rattle.script_scenarios.specs.declared.command.Script.TheDeep.{deep-Command}

pub deep-step_size : (c : Command) → deep-Command c ≤ step_size (step_of c)
deep-step_size (Fetch init) = omega arith
deep-step_size (Load init) = omega arith
deep-step_size (Wait seconds) = omega arith
deep-step_size (Repeat times script) = omega arith
deep-step_size (If test script other) = omega arith

-- a script holds scripts that hold fewer
pub most-steps_size : (cs : List Command) → most deep-Command cs ≤ steps_size (steps_of cs)
most-steps_size [] = omega arith
most-steps_size (c ∷ cs) = omega (arith, deep-step_size c, most-steps_size cs)
