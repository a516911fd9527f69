use Rattle.std.proofs.Common.{◌≡◌, drop}
use Rattle.script_filling.specs.Filling.{lacks_dollar}
use Rattle.script_filling.proofs.filling.lacks_dollar.Given as goal

-- none so far
abbrev pub invariant-loop-byte : goal.invariant-loop-byte
invariant-loop-byte l = lacks_dollar l.text ≡ lacks_dollar (drop l.byte-index l.text)
