use Rattle.std.proofs.Common.{ℕ, ◌+◌, ap, arith, sym, ◌∙◌}
use Rattle.script_lines.proofs.DigitLemmas.{digits_by_power}
use Rattle.script_lines.proofs.counter.digit_count.Goals as goal

pub returns-in-Some : goal.returns-in-Some
returns-in-Some c =
    ap (λ (n : ℕ). n + 1) c.from.ensures
    ∙ sym (digits_by_power c.in-Some.power c.args.number c.in-Some.ensures.power_le c.in-Some.ensures.next_power_gt
    (omega (arith, c.ranges.number)))
