use Rattle.std.proofs.Common.{◌≡◌, [], arith, ap, length, sym, ◌∙◌, Ok}
use Rattle.httparse.specs.declared.Status.TheVariants.{Complete, Partial}
use Rattle.link_http1.specs.Heads.{is_skipped, with_lines}
use Rattle.link_http1.proofs.ValueLemmas.{found-whole, spans-block, spans-few, spans-lines}
use Rattle.link_http1.proofs.block.judge_within.Goals as goal

pub returns-then-head-block : goal.returns-then-head-block
returns-then-head-block c = λ printed is same.
    let at = found-whole c.args.block.now (length c.args.lines.now) c.parse_response.new.headers
    (Ok (Complete c.in-Ok-Complete.head)) printed c.requires.room
    (rw c.in-Ok-Complete.field-0-is at c.in-Ok-Complete.ensures.found) is same in
    c.if-head-block.true (omega (arith, at.len, ap length same))

pub returns-in-Ok-Partial : goal.returns-in-Ok-Partial
returns-in-Ok-Partial c = λ printed is same.
    found-whole c.args.block.now (length c.args.lines.now) c.parse_response.new.headers (Ok Partial) printed
    c.requires.room (rw c.in-Ok-Partial.field-0-is at c.in-Ok-Partial.ensures.found) is same

pub returns-then-is_skipped : goal.returns-then-is_skipped
returns-then-is_skipped c =
    let of = rw c.in-Ok-Complete.field-0-is at c.in-Ok-Complete.ensures.complete in (
      of.0,
      record {
        head = spans-few c.args.block.now c.parse_response.new.headers c.in-Ok-Complete.head of.0 of.1
            (omega (arith, c.parse_response.auto.headers, c.requires.most));
        skipped = ap is_skipped (sym of.1.code) ∙ sym c.if-is_skipped.ensures;
      },
      spans-block c.args.block.now c.parse_response.new.headers c.in-Ok-Complete.head of.0 of.1 c.if-head-block.false,
    )

pub returns-in_ok-headers-in-Ok-Complete : goal.returns-in_ok-headers-in-Ok-Complete
returns-in_ok-headers-in-Ok-Complete c =
    let of = rw c.in-Ok-Complete.field-0-is at c.in-Ok-Complete.ensures.complete in (
      of.0,
      spans-few c.args.block.now c.parse_response.new.headers c.in-Ok-Complete.head of.0 of.1
          (omega (arith, c.parse_response.auto.headers, c.requires.most)),
      ap is_skipped (sym of.1.code) ∙ sym c.if-is_skipped.ensures,
      spans-block c.args.block.now c.parse_response.new.headers c.in-Ok-Complete.head of.0 of.1 c.if-head-block.false,
      (
          let lines : c.in_ok-headers-in-Ok-Complete.headers ≡ with_lines [] of.0.fields =
          c.in_ok-headers-in-Ok-Complete.ensures
          ∙ spans-lines c.args.block.now c.parse_response.new.headers c.in-Ok-Complete.head of.0 of.1 in
          λ i. record { status = of.1.code i; headers = lines i }
          ),
    )
