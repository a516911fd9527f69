use Rattle.std.proofs.Common.{arith, sym}
use Rattle.std.proofs.lemmas.Grind.{common_steps}
use Rattle.policy_safelist.proofs.RangeLemmas.{is_span-cut}
use Rattle.policy_safelist.proofs.range.is_span.Goals as goal

pub returns-then-is_digits : goal.returns-then-is_digits
returns-then-is_digits c =
    let cut = is_span-cut c.args.text.now c.in-Some.dash (sym c.in-Some.ensures) in
    grind (arith, common_steps, cut)
