use Rattle.std.proofs.Common.{◌-◌, ◌^◌, sym, ◌∙◌}
use Rattle.link_http1.proofs.ShortLemmas.{broken-lengths, shortened-read}
use Rattle.link_http1.proofs.framing.of_lengths.Goals as goal

pub all_write-requires : goal.all_write-requires
all_write-requires c =
    let read = sym c.in-Some.is ∙ c.parse_digits.ensures in
    rw c.shortened.ensures (shortened-read c.at-first.result.now (2 ^ 64 - 1) c.in-Some.length read)

pub returns-in_default : goal.returns-in_default
returns-in_default c =
    let fails = sym c.if-all_write.false ∙ c.all_write.ensures in
    broken-lengths c.args.texts.now c.at-first.result.now c.at-first.ensures (rw c.shortened.ensures at fails)
