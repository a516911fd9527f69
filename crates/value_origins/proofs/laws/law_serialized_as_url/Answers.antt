use Rattle.value_origins.proofs.SerializationLemmas.{serialized-as_url}
use Rattle.value_origins.proofs.laws.law_serialized_as_url.Goals as goal

pub returns : goal.returns
returns c = serialized-as_url c.args.url.now c.scheme.ensures.valid
