use Rattle.std.proofs.Common.{◌∙◌, sym, arith}
use Rattle.value_text.proofs.DigitLemmas.{all-digits-more, capped-more}
use Rattle.value_text.proofs.digits.parse_digits.Goals as goal

pub loop-byte-preserved : goal.loop-byte-preserved
loop-byte-preserved c =
    let below = c.loop-byte-test.true in
    let digit = sym c.is_ascii_digit.ensures.value ∙ c.if-not-is_ascii_digit.false in (
      all-digits-more c.args.text.now c.loop-byte.byte-index below c.loop-byte.invariant.0 digit,
      capped-more c.args.text.now c.loop-byte.byte-index c.args.cap c.loop-byte.value c.min-value.result below digit
          (omega arith) c.loop-byte.invariant.1 (cc),
    )
