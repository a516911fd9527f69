use Rattle.std.proofs.Common.{◌∙◌}
use Rattle.script_generated.proofs.GeneratedLemmas.{address-found}
use Rattle.script_generated.proofs.generated.address.Goals as goal

pub unreachable-requires : goal.unreachable-requires
unreachable-requires c =
    let found = address-found c.args.index c.requires c.as_str.result.now
    (c.as_str.ensures.value ∙ c.in_ok-text.ensures.ok) c.in_ok-url.field-0 c.in_ok-url.ensures in
    cc (found, c.in-None.is)

pub returns : goal.returns
returns c =
    let found = address-found c.args.index c.requires c.as_str.result.now
    (c.as_str.ensures.value ∙ c.in_ok-text.ensures.ok) c.in_ok-url.field-0 c.in_ok-url.ensures in
    cc (found, c.in-Some.is)
