use Rattle.std.proofs.Common.{◌≡◌, map}
use Rattle.std.specs.List.{range_with_len}
use Rattle.script_generated.specs.Generated.{generated_document}
use Rattle.script_generated.proofs.generated.documents.Given as goal

abbrev pub invariant-loop-index : goal.invariant-loop-index
invariant-loop-index l = l.documents ≡ map generated_document (range_with_len 0 l.index)
