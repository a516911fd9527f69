use Rattle.std.proofs.Common.{◌≡◌, drop}
use Rattle.value_headers.specs.Headers.{all_appended}
use Rattle.value_headers.proofs.packed.PackedHeaders.append_all.Given as goal

abbrev pub invariant-loop-header : goal.invariant-loop-header
invariant-loop-header l = all_appended l.more l.fn.self ≡ all_appended (drop l.header-index l.more) l.self
