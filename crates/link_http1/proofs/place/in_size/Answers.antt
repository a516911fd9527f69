use Rattle.std.proofs.Common.{arith, sym, ◌∙◌}
use Rattle.link_http1.proofs.PlaceLemmas.{digit-most, size-fits}
use Rattle.link_http1.proofs.place.in_size.Goals as goal

pub overflow_mul-result : goal.overflow_mul-result
overflow_mul-result c =
    omega (arith, size-fits c.args.digits c.args.value c.requires.0 c.if-digits-eq-MOST_DIGITS.false c.requires.1)

pub overflow_add-result-then-is_ascii_hexdigit : goal.overflow_add-result-then-is_ascii_hexdigit
overflow_add-result-then-is_ascii_hexdigit c =
    omega (
      arith,
      size-fits c.args.digits c.args.value c.requires.0 c.if-digits-eq-MOST_DIGITS.false c.requires.1,
      c.digit.ensures,
      digit-most c.args.byte (sym c.is_ascii_hexdigit.ensures.value ∙ c.if-is_ascii_hexdigit.true),
    )
