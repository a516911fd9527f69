use Rattle.std.proofs.Common.{◌≡◌, [], map, drop}
use Rattle.httparse.specs.Spans.{header_bytes}
use Rattle.link_http1.specs.Private.HeadReading.{with_pairs}
use Rattle.link_http1.proofs.block.headers_of.Given as goal

abbrev pub invariant-loop-line : goal.invariant-loop-line
invariant-loop-line l = with_pairs [] (map (header_bytes l.block) l.lines)
    ≡ with_pairs l.headers (map (header_bytes l.block) (drop l.line-index l.lines))
