use Rattle.std.proofs.Common.{◌≡◌, ◌+◌, ◌-◌, ◌^◌, length, min, take}
use Rattle.std.specs.List.{sum_by}
use Rattle.fetch_requests.specs.Making.{pair_size}
use Rattle.fetch_requests.proofs.fault.are_long.Given as goal

abbrev pub invariant-loop-pair : goal.invariant-loop-pair
invariant-loop-pair l = l.size ≡ min (length l.method + sum_by pair_size (take l.pair-index l.pairs)) (2 ^ 64 - 1)
