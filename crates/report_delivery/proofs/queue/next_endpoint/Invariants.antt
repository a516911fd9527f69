use Rattle.std.proofs.Common.{◌≡◌, length}
use Rattle.std.specs.List.{filter_map}
use Rattle.report_delivery.specs.Reports.{endpoint_of}
use Rattle.value_text.specs.Words.{words}
use Rattle.report_delivery.proofs.queue.next_endpoint.Given as goal

abbrev pub invariant-loop-word : goal.invariant-loop-word
invariant-loop-word l =
    filter_map (endpoint_of l.base) (words l.text) ≡ filter_map (endpoint_of l.base) (words l.left)

abbrev pub decreases-loop-word : goal.decreases-loop-word
decreases-loop-word l = length l.left
