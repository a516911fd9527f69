use Rattle.std.proofs.Common.{◌≡◌, ◌+◌, drop}
use Rattle.std.specs.List.{prefix_len}
use Rattle.script_lines.specs.Escapes as spec
use Rattle.play_text.proofs.escape.plain_len.Given as goal

abbrev pub invariant-loop-index : goal.invariant-loop-index
invariant-loop-index l =
    prefix_len spec.is_plain l.bytes ≡ l.index + prefix_len spec.is_plain (drop l.index l.bytes)
