use Rattle.std.proofs.Common.{◌≡◌, map, take}
use Rattle.std.specs.Str.{str_to_ascii_lowercase}
use Rattle.server_tables.proofs.read.all_in_lower_case.Given as goal

abbrev pub invariant-loop-text : goal.invariant-loop-text
invariant-loop-text l = l.list ≡ map str_to_ascii_lowercase (take l.text-index l.texts)
