use Rattle.std.proofs.lemmas.Result.{IfOk-weaker}
use Rattle.policy_safelist.proofs.SetLemmas.{IsSortedLowercaseSet-from, sorted_lowercase_set-only}
use Rattle.policy_safelist.proofs.unsafe_headers.unsafe_names.Goals as goal

pub returns-clause-set : goal.returns-clause-set
returns-clause-set c =
    let found = c.in_ok-names.ensures in
    let are = rw (c.are_too_long-too_long.ensures, c.as_slice.ensures, c.as_slice-2.ensures) at found in
    IfOk-weaker c.listed.result _ _
    (λ list is. IsSortedLowercaseSet-from _ _ _ list are c.sort_and_dedup.ensures.ascending
    c.sort_and_dedup.ensures.members is)
    c.listed.ensures

pub returns-clause-names : goal.returns-clause-names
returns-clause-names c = IfOk-weaker c.listed.result _ _ (λ list is. sorted_lowercase_set-only _ list is)
    (returns-clause-set c)
