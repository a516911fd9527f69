use Rattle.std.proofs.Common.{arith, ◌∙◌}
use Rattle.link_http1.proofs.RequestLemmas.{spans-asked, spans-begin}
use Rattle.link_http1.proofs.request_head.read_within.Goals as goal

pub returns-in_ok-headers-in-Ok-Complete : goal.returns-in_ok-headers-in-Ok-Complete
returns-in_ok-headers-in-Ok-Complete c =
    let of = rw c.in-Ok-Complete.field-0-is at c.in-Ok-Complete.ensures.complete in (
      of.0,
      spans-begin c.args.bytes.now c.parse_request.new.headers c.in-Ok-Complete.head of.0 of.1
          (omega (arith, c.parse_request.auto.headers, c.requires.most)),
      spans-asked c.args.bytes.now c.parse_request.new.headers c.in-Ok-Complete.head of.0
          (record {
            method = c.in_ok-method-in-Ok-Complete.method;
            headers = c.in_ok-headers-in-Ok-Complete.headers;
          })
          of.1 (c.in_ok-method-in-Ok-Complete.ensures ∙ c.of.ensures ∙ of.1.method)
          c.in_ok-headers-in-Ok-Complete.ensures,
    )
