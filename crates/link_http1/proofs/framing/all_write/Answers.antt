use Rattle.std.proofs.Common.{sym, ◌∙◌}
use Rattle.std.specs.Str.Parse.{digits_value}
use Rattle.value_text.specs.Digits.{writes}
use Rattle.link_http1.proofs.AllLemmas.{all-goes, all-stops}
use Rattle.link_http1.proofs.framing.all_write.Goals as goal

pub returns-then-not-writes_same : goal.returns-then-not-writes_same
returns-then-not-writes_same c =
    sym (c.loop-index.invariant
    ∙ all-stops (writes (digits_value 10 c.args.digits.now)) c.args.texts.now c.loop-index.index c.at.result.now
    c.at.ensures (sym c.writes_same.ensures ∙ c.if-not-writes_same.true))

pub loop-index-preserved : goal.loop-index-preserved
loop-index-preserved c =
    c.loop-index.invariant
    ∙ all-goes (writes (digits_value 10 c.args.digits.now)) c.args.texts.now c.loop-index.index c.at.result.now
    c.at.ensures (sym c.writes_same.ensures ∙ c.if-not-writes_same.false)
