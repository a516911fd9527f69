use Rattle.std.proofs.Common.{◌≡◌, ◌++◌, drop, map}
use Rattle.std.specs.List.{filter_map}
use Rattle.policy_integrity.specs.Metadata.{hash_of}
use Rattle.policy_integrity.proofs.parse.collected.Given as goal

abbrev pub invariant-loop-word : goal.invariant-loop-word
invariant-loop-word l =
    l.metadata ++ filter_map hash_of (map (λ word. word.now) (drop l.word-index l.words))
    ≡ filter_map hash_of (map (λ word. word.now) l.words)
