use Rattle.fetch_wire.proofs.LawLemmas.{exchange-alike}
use Rattle.fetch_wire.proofs.laws.law_exchange_alike.Goals as goal

pub returns : goal.returns
returns g c = exchange-alike
