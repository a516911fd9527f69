use Rattle.std.proofs.Common.{arith}
use Rattle.value_text.specs.Tokens.{is_token}
use Rattle.value_lists.proofs.ExtractLemmas.{all-from}
use Rattle.value_lists.proofs.extract.are_tokens.Goals as goal

pub returns-then-not-is_token : goal.returns-then-not-is_token
returns-then-not-is_token c = let step =
    all-from is_token c.args.texts.now c.loop-index.index c.at.result.now c.at.ensures in grind (arith, step)

pub loop-index-preserved : goal.loop-index-preserved
loop-index-preserved c = let step = all-from is_token c.args.texts.now c.loop-index.index c.at.result.now c.at.ensures
    in grind (arith, step)
