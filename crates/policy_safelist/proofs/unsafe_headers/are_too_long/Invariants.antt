use Rattle.std.proofs.Common.{◌≡◌, ◌-◌, ◌^◌, min, take}
use Rattle.policy_safelist.specs.UnsafeNames.{safelisted_size}
use Rattle.policy_safelist.proofs.unsafe_headers.are_too_long.Given as goal

abbrev pub invariant-loop-header : goal.invariant-loop-header
invariant-loop-header l = l.size ≡ min (safelisted_size (take l.header-index l.headers)) (2 ^ 64 - 1)
