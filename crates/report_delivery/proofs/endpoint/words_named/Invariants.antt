use Rattle.std.proofs.Common.{◌≡◌, drop}
use Rattle.report_delivery.specs.Reports.{words_named}
use Rattle.report_delivery.proofs.endpoint.words_named.Given as goal

abbrev pub invariant-loop-directive : goal.invariant-loop-directive
invariant-loop-directive l =
    words_named l.name l.directives ≡ words_named l.name (drop l.directive-index l.directives)
