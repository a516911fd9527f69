use Rattle.std.proofs.Common.{◌≡◌, take, option_map}
use Rattle.std.specs.Prelude.{option_copied}
use Rattle.std.specs.Str.{str_to_ascii_lowercase}
use Rattle.value_lists.specs.Essence as spec
use Rattle.value_lists.proofs.essence.last_essence.Given as goal

abbrev pub invariant-loop-index : goal.invariant-loop-index
invariant-loop-index l = option_map str_to_ascii_lowercase (option_copied l.last)
    ≡ spec.last_essence (take l.index l.values)
