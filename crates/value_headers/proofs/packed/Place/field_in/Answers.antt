use Rattle.value_headers.proofs.PackLemmas.{of_both}
use Rattle.value_headers.proofs.packed.Place.field_in.Goals as goal

pub returns : goal.returns
returns c = rw (← of_both c.args.bytes.now c.args.self.now c.requires) c.of_both.ensures
