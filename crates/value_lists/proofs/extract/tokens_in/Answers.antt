use Rattle.std.proofs.Common.{◌≡◌, true, arith}
use Rattle.std.proofs.lemmas.Grind.{common_steps}
use Rattle.value_headers.specs.Headers.{values_of}
use Rattle.value_lists.proofs.ExtractLemmas.{named-some, tokens-some}
use Rattle.value_lists.proofs.extract.tokens_in.Goals as goal

pub returns-then-are_tokens : goal.returns-then-are_tokens
returns-then-are_tokens c =
    let found : c.loop-header.found ≡ true = grind (arith, c.if-not-found.false) in
    let some = tokens-some (values_of c.args.name.now c.args.headers.now)
    (named-some c.args.name.now c.args.headers.now (c.loop-header.invariant.something found)) in
    grind (arith, common_steps, some)
