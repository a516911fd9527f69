use Rattle.std.proofs.Common.{◌≡◌, drop}
use Rattle.link_http1.specs.Private.Lengths.{first_value}
use Rattle.link_http1.proofs.framing.first_value.Given as goal

abbrev pub invariant-loop-header : goal.invariant-loop-header
invariant-loop-header l = first_value l.name l.headers ≡ first_value l.name (drop l.header-index l.headers)
