-- Commands in memory, and the steps that they are.
use Rattle.std.proofs.Common.{◌≡◌, ◌<◌, ℕ, zero, suc, List, [], ◌∷◌, ◌++◌, length, get_or, Option, Some, refl, ap, sym}
use Rattle.std.proofs.Common.{arith}
use Rattle.script_scenarios.specs.Commands.{step_of, steps_of}
use Rattle.script_scenarios.specs.Scripts.{Step, Steps, step, count, and_step, step_at}
use Rattle.script_scenarios.specs.declared.command.Command.{Command}

-- there are as many
pub count-steps_of : (cs : List Command) → count (steps_of cs) ≡ length cs
count-steps_of [] = refl
count-steps_of (c ∷ cs) = omega (arith, count-steps_of cs)

-- one more
pub push-steps_of : (cs : List Command) (c : Command) → steps_of (cs ++ c ∷ []) ≡ and_step (steps_of cs) (step_of c)
push-steps_of [] c = refl
push-steps_of (d ∷ cs) c = ap (λ (s : Steps). step (step_of d) s) (push-steps_of cs c)

-- the command at an index
pub at-steps_of : (cs : List Command) (index : ℕ) (c : Command) → index < length cs → c ≡ get_or cs index c
    → step_at index (steps_of cs) ≡ Some (step_of c)
at-steps_of [] index c lt is = absurd (omega (arith, lt))
at-steps_of (d ∷ cs) zero c lt is = ap (λ (x : Command). let o : Option Step = Some (step_of x) in o) (sym is)
at-steps_of (d ∷ cs) (suc index) c lt is = at-steps_of cs index c (omega (arith, lt)) is
