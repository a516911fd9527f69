use Rattle.std.proofs.Common.{◌≡◌, ◌++◌, ℕ, List, drop}
use Rattle.value_lists.specs.Private.Splitting.{split_with}
use Rattle.value_lists.proofs.split.Splitter.take_all.Given as goal

abbrev pub invariant-loop-byte : goal.invariant-loop-byte
invariant-loop-byte l = (rest : List ℕ) → split_with l.self (drop l.byte-index l.text ++ rest)
    ≡ split_with l.fn.self (l.text ++ rest)
