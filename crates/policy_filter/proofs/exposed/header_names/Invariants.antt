use Rattle.std.proofs.Common.{◌≡◌, ◌++◌, drop, filter}
use Rattle.policy_filter.specs.Exposed.{header_names}
use Rattle.policy_filter.specs.Private.Collecting.{is_new}
use Rattle.policy_filter.proofs.exposed.header_names.Given as goal

abbrev pub invariant-loop-header : goal.invariant-loop-header
invariant-loop-header l =
    l.names ++ filter (is_new l.names) (header_names (drop l.header-index l.headers)) ≡ header_names l.headers
