use Rattle.std.proofs.Common.{◌≡◌, drop, length, take}
use Rattle.value_headers.specs.Headers.{all_appended}
use Rattle.value_headers.proofs.headers.HeaderList.append_each.Given as goal

abbrev pub invariant-loop-header : goal.invariant-loop-header
invariant-loop-header l = (all_appended l.more l.fn.self ≡ all_appended (drop l.header-index l.more) l.self)
    × (take (length l.fn.self) l.self ≡ l.fn.self)
