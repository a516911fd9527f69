use Rattle.std.proofs.Common.{length, arith, ap, sym, ◌∙◌}
use Rattle.value_text.specs.Trims.{http_whitespace, trimmed}
use Rattle.script_filling.proofs.TrimLemmas.{trimmed-same}
use Rattle.script_filling.proofs.filling.normalized.Goals as goal

pub returns-then-trimmed-len : goal.returns-then-trimmed-len
returns-then-trimmed-len c =
    sym (trimmed-same http_whitespace c.args.value (omega (
      arith,
      c.if-trimmed-len.true,
      c.len.ensures,
      ap length (c.trim_http-trimmed.ensures ∙ ap (trimmed http_whitespace) c.as_slice.ensures),
    )))
