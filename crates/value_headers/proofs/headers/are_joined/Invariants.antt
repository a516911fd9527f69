use Rattle.std.proofs.Common.{◌≡◌, drop}
use Rattle.value_headers.specs.Headers.{has_value, values_of}
use Rattle.value_headers.proofs.JoinLemmas.{is_rest}
use Rattle.value_headers.proofs.headers.are_joined.Given as goal

abbrev pub invariant-loop-header : goal.invariant-loop-header
invariant-loop-header l = has_value l.name l.text l.headers
    ≡ is_rest l.found l.rest (values_of l.name (drop l.header-index l.headers))
