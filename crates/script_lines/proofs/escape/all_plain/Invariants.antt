use Rattle.std.proofs.Common.{◌≡◌, ◌&&◌, drop}
use Rattle.std.specs.List.{list_all}
use Rattle.script_lines.specs.Escapes as spec
use Rattle.script_lines.proofs.escape.all_plain.Given as goal

abbrev pub invariant-loop-byte : goal.invariant-loop-byte
invariant-loop-byte l =
    list_all spec.is_plain l.bytes ≡ (l.plain && list_all spec.is_plain (drop l.byte-index l.bytes))
