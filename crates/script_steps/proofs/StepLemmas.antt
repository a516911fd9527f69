-- What the readers of scripts come to.
use Rattle.std.proofs.Common.{◌≡◌, ℕ, zero, suc, ◌+◌, List, [], ◌∷◌, ◌++◌, refl, ap, arith}
use Rattle.serde_json.specs.Data.{Data}
use Rattle.script_scenarios.specs.Scripts.{Step, Steps, no_steps, step, and_step, count}
use Rattle.script_steps.specs.Scripts.{in_order, commands_of, command_in, script_of}

-- the steps of a script, as a list
abbrev pub listed : Steps → List Step
listed no_steps = []
listed (step one more) = one ∷ listed more

pub listed-and_step : (script : Steps) (last : Step) → listed (and_step script last) ≡ listed script ++ last ∷ []
listed-and_step no_steps last = refl
listed-and_step (step one more) last = ap (λ (steps : List Step). one ∷ steps) (listed-and_step more last)

pub count-and_step : (script : Steps) (last : Step) → count (and_step script last) ≡ count script + 1
count-and_step no_steps last = refl
count-and_step (step one more) last = omega (arith, count-and_step more last)

pub in_order-listed : (script : Steps) → in_order (listed script) ≡ script
in_order-listed no_steps = refl
in_order-listed (step one more) = ap (λ (script : Steps). step one script) (in_order-listed more)

-- a script is a list of commands, with what may be inside them
pub script_of_is : (repeats ifs : ℕ) (tree : Data)
    → script_of repeats ifs tree ≡ commands_of (command_in repeats ifs) tree
script_of_is zero zero tree = refl
script_of_is zero (suc ifs) tree = refl
script_of_is (suc repeats) zero tree = refl
script_of_is (suc repeats) (suc ifs) tree = refl
