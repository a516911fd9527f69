use Rattle.link_http1.proofs.OpenLemmas.{bodies-short}
use Rattle.link_http1.proofs.laws.law_open_bodies_are_short.Goals as goal

pub returns : goal.returns
returns c = bodies-short
