use Rattle.std.proofs.Common.{refl}
use Rattle.link_http1.proofs.LengthLemmas.{length-alone}
use Rattle.link_http1.proofs.framing.length_alone.Goals as goal

pub returns-then-has_value : goal.returns-then-has_value
returns-then-has_value c =
    length-alone c.args.headers.now c.in_ok-value.value.now c.parse_digits.result (c.if-has_value.ensures.equal.0 refl)
    c.parse_digits.ensures
