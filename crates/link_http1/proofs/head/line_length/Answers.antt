use Rattle.link_http1.proofs.ReaderLemmas.{line-to-end, line-whole}
use Rattle.link_http1.proofs.head.line_length.Goals as goal

pub returns-in-Some-clause-line : goal.returns-in-Some-clause-line
returns-in-Some-clause-line c = line-to-end c.args.bytes.now c.in-Some.index c.in-Some.ensures

pub returns-in-None-clause-line : goal.returns-in-None-clause-line
returns-in-None-clause-line c = line-whole c.args.bytes.now c.requires c.in-None.ensures
