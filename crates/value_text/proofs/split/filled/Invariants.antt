use Rattle.std.proofs.Common.{◌≡◌, ◌++◌, drop, filter, map}
use Rattle.value_text.specs.Words.{is_filled}
use Rattle.value_text.proofs.split.filled.Given as goal

abbrev pub invariant-loop-part : goal.invariant-loop-part
invariant-loop-part l =
    map (λ word. word.now) l.words.items ++ filter is_filled (map (λ part. part.now) (drop l.part-index l.parts))
    ≡ filter is_filled (map (λ part. part.now) l.parts)
