use Rattle.std.proofs.Common.{refl}
use Rattle.policy_csp_match.proofs.PlaceLemmas.{one-more, one-more-stay}
use Rattle.policy_csp_match.proofs.list.push_source.Goals as goal

pub returns-clause-sources : goal.returns-clause-sources
returns-clause-sources c =
    rw (c.in_ok-push.ensures.items, c.in_ok-place.ensures.text)
    (one-more c.args.text.now.items c.args.stored.now.items c.args.source.now _ c.requires
    (rw (c.in_ok-start.ensures, c.as_slice.ensures.value, c.in_ok-place.ensures.place) refl))

pub returns-clause-stay : goal.returns-clause-stay
returns-clause-stay c =
    rw (c.in_ok-push.ensures.items, c.in_ok-place.ensures.text)
    (one-more-stay c.args.text.now.items c.args.stored.now.items c.args.source.now _ c.requires
    (rw (c.in_ok-start.ensures, c.as_slice.ensures.value, c.in_ok-place.ensures.place) refl))
