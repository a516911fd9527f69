-- A script as plain data: its steps in order, with the scripts inside them (this project's own; a page's script in HTML
-- would call `fetch` and load resources).
use Rattle.std.specs.Prelude.{ℕ, zero, suc, ◌+◌, Option, Some, None}
use Rattle.value_requests.specs.declared.init.Init.{Init}
use Rattle.value_requests.specs.declared.init.LoadInit.{LoadInit}
use Rattle.script_scenarios.specs.declared.command.Test.{Test}

mutual
  -- a call of `fetch`; a load by an element; a number of seconds that pass; a script a number of times; and one
  -- of two scripts, by a condition
  pub data Step : Type 0 where
    fetch : Init → Step
    load : LoadInit → Step
    wait : ℕ → Step
    repeat : ℕ → Steps → Step
    choose : Test → Steps → Steps → Step

  pub data Steps : Type 0 where
    no_steps : Steps
    step : Step → Steps → Steps

-- how many steps there are
abbrev pub count : Steps → ℕ
count no_steps = 0
count (step one more) = count more + 1

-- the step at an index, where there is one
abbrev pub step_at : ℕ → Steps → Option Step
step_at index no_steps = None
step_at zero (step one more) = Some one
step_at (suc index) (step one more) = step_at index more

-- a step more, at the end
abbrev pub and_step : Steps → Step → Steps
and_step no_steps last = step last no_steps
and_step (step one more) last = step one (and_step more last)
