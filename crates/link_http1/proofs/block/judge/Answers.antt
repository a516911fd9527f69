use Rattle.std.proofs.Common.{arith}
use Rattle.link_http1.proofs.CountLemmas.{few-lines}
use Rattle.link_http1.proofs.block.judge.Goals as goal

pub judge_few-requires : goal.judge_few-requires
judge_few-requires c = λ printed is same.
    omega (arith, few-lines c.args.block.now printed same, c.line_ends.ensures, c.if-line_ends-le-FEW_LINES.true)
