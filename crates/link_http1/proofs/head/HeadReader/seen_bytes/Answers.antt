use Rattle.link_http1.proofs.ReaderLemmas.{reading-unfinished}
use Rattle.link_http1.proofs.head.HeadReader.seen_bytes.Goals as goal

pub returns-clause-unfinished : goal.returns-clause-unfinished
returns-clause-unfinished c =
    reading-unfinished c.self.inside.past.bytes c.self.inside.block c.args.self.now c.self.inside.seen_bytes
    c.self.invariant.skips c.self.invariant.undecided c.self.invariant.seen_is c.self.invariant.short c.self.view_is
