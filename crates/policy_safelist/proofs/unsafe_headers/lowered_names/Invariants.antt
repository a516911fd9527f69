use Rattle.std.proofs.Common.{◌≡◌, map, take}
use Rattle.std.specs.Str.{str_to_ascii_lowercase}
use Rattle.policy_safelist.specs.UnsafeNames.{unsafe_headers}
use Rattle.policy_safelist.proofs.unsafe_headers.lowered_names.Given as goal

abbrev pub invariant-loop-header : goal.invariant-loop-header
invariant-loop-header l =
    map (λ name. name.items) l.names.items
    ≡ map str_to_ascii_lowercase
    (map (λ header. header.name) (unsafe_headers l.too_long (take l.header-index l.headers)))
