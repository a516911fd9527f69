-- How deep a script holds others.
use Rattle.std.specs.Prelude.{ℕ, suc, max}
use Rattle.script_scenarios.specs.Scripts.{Step, fetch, load, wait, repeat, choose, Steps, no_steps, step}

abbrev mutual
  pub step_size : Step → ℕ
  step_size (fetch init) = 0
  step_size (load init) = 0
  step_size (wait seconds) = 0
  step_size (repeat times script) = suc (steps_size script)
  step_size (choose test script other) = max (suc (steps_size script)) (suc (steps_size other))

  pub steps_size : Steps → ℕ
  steps_size no_steps = 0
  steps_size (step one more) = max (step_size one) (steps_size more)
