use Rattle.std.proofs.lemmas.List.Filters.{dedup_is}
use Rattle.std.proofs.lemmas.List.Kept.{IsStrictlySortedBy-dedup}
use Rattle.std.specs.Cmp.Lexicographic.{on_texts, texts_ties}
use Rattle.policy_safelist.proofs.SetLemmas.{IsAscending-map, members-dedup}
use Rattle.policy_safelist.proofs.sets.sort_and_dedup.Goals as goal

pub returns-clause-ascending : goal.returns-clause-ascending
returns-clause-ascending c =
    rw (dedup_is _ _ _ c.dedup.ensures.filtered)
    (IsAscending-map (λ text. text.items) _
    (IsStrictlySortedBy-dedup (on_texts (λ text. text.items)) (λ a b. texts_ties a.items b.items) _
    c.sort_unstable.ensures.sorted))

pub returns-clause-members : goal.returns-clause-members
returns-clause-members c = λ query.
    rw (dedup_is _ _ _ c.dedup.ensures.filtered)
    (members-dedup (λ text. text.items) query c.args.texts.now.items _ c.sort_unstable.ensures.permutation)
