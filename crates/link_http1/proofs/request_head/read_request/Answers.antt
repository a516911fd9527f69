use Rattle.std.proofs.Common.{arith}
use Rattle.link_http1.proofs.RequestLemmas.{few-request-lines}
use Rattle.link_http1.proofs.request_head.read_request.Goals as goal

pub read_few-requires : goal.read_few-requires
read_few-requires c = λ printed begins.
    omega (
      arith,
      few-request-lines c.args.bytes.now printed begins,
      c.line_ends.ensures,
      c.if-line_ends-le-FEW_LINES.true,
    )
