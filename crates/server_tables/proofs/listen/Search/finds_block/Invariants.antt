use Rattle.std.proofs.Common.{length, ◌-◌}
use Rattle.server_tables.specs.Private.Coming.{IsSearched}
use Rattle.server_tables.proofs.listen.Search.finds_block.Given as goal

abbrev pub invariant-loop-self : goal.invariant-loop-self
invariant-loop-self l = IsSearched l.self l.bytes

abbrev pub decreases-loop-self : goal.decreases-loop-self
decreases-loop-self l = length l.bytes - l.self.searched
