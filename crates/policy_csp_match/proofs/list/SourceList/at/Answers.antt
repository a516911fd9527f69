use Rattle.std.proofs.Common.{sym}
use Rattle.policy_csp_match.proofs.PlaceLemmas.{source-at}
use Rattle.policy_csp_match.proofs.list.SourceList.at.Goals as goal

pub returns : goal.returns
returns c =
    rw (c.source_in.ensures, c.behind.ensures, c.as_slice.ensures.value)
    (source-at c.args.self.now c.self.inside.text.items c.self.inside.stored.items c.args.index
    c.index-stored.result.now (sym c.self.view_is) c.requires c.index-stored.ensures)
