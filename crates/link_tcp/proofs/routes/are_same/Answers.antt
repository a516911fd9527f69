use Rattle.std.proofs.Common.{◌≡◌, ◌<◌, arith, length, refl, rules, sym, ◌∙◌}
use Rattle.std.proofs.lemmas.List.{get_or_default, take_more_same}
use Rattle.link_traits.specs.declared.routes.Route.{Route}
use Rattle.link_tcp.proofs.routes.are_same.Goals as goal

same-route : (a b : Route) → a.origin ≡ b.origin → a.address ≡ b.address → a ≡ b
same-route a b origin address = rw (origin, address) refl

pub loop-i-preserved : goal.loop-i-preserved
loop-i-preserved c =
    let some = c.args.some.now in
    let others = c.args.others.now in
    let i = c.loop-i.i in
    let one = c.index-some-i.result in
    let other = c.index-others-i.result in
    let within : i < length others = omega arith in
    take_more_same some others i one (omega arith) within c.loop-i.invariant
    (sym c.index-some-i.is ∙ same-route one other (search rules) (search rules) ∙ c.index-others-i.is
    ∙ get_or_default others i other one within)
