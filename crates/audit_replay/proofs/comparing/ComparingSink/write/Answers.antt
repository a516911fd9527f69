use Rattle.std.proofs.Common.{◌≡◌, ◌+◌, ◌++◌, ℕ, List, Some, Option, arith, drop, get_or, take, subst, sym, ap, ◌∙◌}
use Rattle.audit_replay.specs.Private.Comparing.{AreSameFront, Compared, taken, told_of}
use Rattle.audit_replay.proofs.CompareLemmas.{found-none, other-found, taken-more, taken-other, told-more}
use Rattle.audit_replay.proofs.comparing.ComparingSink.write.Goals as goal

pub returns-then-same-piece-clause-took : goal.returns-then-same-piece-clause-took
returns-then-same-piece-clause-took c =
    let expected = c.self.inside.expected.now in
    let same : take c.same_front-same.result c.args.piece.now ≡ take c.same_front-same.result
    (drop c.self.inside.at expected) =
    c.same_front-same.ensures.front ∙ ap (take c.same_front-same.result) c.split_at.ensures.back in
    told-more expected (taken expected c.self.inside.at c.self.inside.found)
    (take c.same_front-same.result c.args.piece.now)
    (taken expected (c.self.inside.at + c.same_front-same.result) c.self.inside.found)
    (taken-more expected c.args.piece.now c.self.inside.at c.same_front-same.result c.self.inside.found
    (found-none c.self.inside.found (sym c.is_some.ensures ∙ c.if-is_some.false)) same)
    ∙ ap (λ (s : Compared). let o : Option (List ℕ) =
    Some (told_of s ++ take c.same_front-same.result c.args.piece.now) in o)
    c.self.view_is

pub invariant_of-self-2 : goal.invariant_of-self-2
invariant_of-self-2 c =
    let expected = c.self.inside.expected.now in
    other-found expected c.args.piece.now c.self.inside.at c.same_front-same.result c.self.inside.faults
    c.self.invariant.within
    (subst (λ (l : List ℕ). AreSameFront c.args.piece.now l c.same_front-same.result) c.split_at.ensures.back
    c.same_front-same.ensures)
    (omega (arith, c.same_front-same.ensures.within, c.if-same-piece.false))

pub returns-clause-took : goal.returns-clause-took
returns-clause-took c =
    let expected = c.self.inside.expected.now in
    let same : take c.same_front-same.result c.args.piece.now ≡ take c.same_front-same.result
    (drop c.self.inside.at expected) =
    c.same_front-same.ensures.front ∙ ap (take c.same_front-same.result) c.split_at.ensures.back in
    told-more expected (taken expected c.self.inside.at c.self.inside.found)
    (take (c.same_front-same.result + 1) c.args.piece.now)
    (taken expected (c.self.inside.at + c.same_front-same.result)
    (Some (get_or c.args.piece.now c.same_front-same.result 0)))
    (taken-other expected c.args.piece.now c.self.inside.at c.same_front-same.result c.self.inside.found
    (found-none c.self.inside.found (sym c.is_some.ensures ∙ c.if-is_some.false)) same
    (omega (arith, c.same_front-same.ensures.within, c.if-same-piece.false)))
    ∙ ap (λ (s : Compared). let o : Option (List ℕ) = Some
    (told_of s ++ take (c.same_front-same.result + 1) c.args.piece.now) in o) c.self.view_is
