use Rattle.std.proofs.Common.{sym, refl, ◌+◌}
use Rattle.server_tables.proofs.ListenLemmas.{begun-more, searched-on}
use Rattle.server_tables.proofs.listen.Search.finds_block.Goals as goal

pub is_block-requires : goal.is_block-requires
is_block-requires c =
    begun-more c.loop-self.self (record { searched = c.loop-self.self.searched + 1; begun = c.has_begun-self.result })
    c.args.bytes.now c.loop-self.invariant c.loop-self-test.true refl c.has_begun-self.ensures

pub returns-then-is_block-clause-found : goal.returns-then-is_block-clause-found
returns-then-is_block-clause-found c = λ _. (c.loop-self.self.searched + 1, sym c.if-is_block.ensures)

pub loop-self-preserved : goal.loop-self-preserved
loop-self-preserved c =
    searched-on c.loop-self.self (record { searched = c.loop-self.self.searched + 1; begun = c.has_begun-self.result })
    c.args.bytes.now c.loop-self.invariant c.loop-self-test.true refl c.has_begun-self.ensures
    (sym c.if-is_block.ensures)
