use Rattle.std.proofs.Common.{List, [], ◌∷◌, ◌++◌, ◌∙◌, append_assoc, ap, arith, length-append, map, refl, sym}
use Rattle.std.proofs.lemmas.List.{append-nil, map_push}
use Rattle.book_turns.specs.declared.pass.TurnPass.{TurnPass}
use Rattle.play_seats.specs.Seated.{links_in}
use Rattle.play_seats.proofs.LendingLemmas.{faults_one, taken_none, taken_one}
use Rattle.play_seats.proofs.seats.unseat.Goals as goal
use Rattle.link_traits.specs.Links.{faults_told}

pub loop-seating-init : goal.loop-seating-init
loop-seating-init g c =
    let gives = c.into_iter-seating-iterator.ensures.into_iter_gives in record {
      passes = sym (append-nil c.args.passes.now.items);
      left = omega (arith, gives.1);
      room = omega (arith, c.requires.room, gives.1);
      same = refl;
      back = taken_none (g.N.Links.lent c.args.links.now);
      faults = refl;
    }

pub loop-seating-preserved : goal.loop-seating-preserved
loop-seating-preserved g c =
    let i = c.loop-seating.invariant in
    let p = c.push_reserved.ensures in
    let steps = c.in-Some.ensures.steps in
    let yielded = c.loop-seating.yielded in
    let seating = c.in-Some.seating in
    record {
      passes = p.items ∙ ap (λ (l : List TurnPass). l ++ seating.pass ∷ []) i.passes
          ∙ append_assoc c.args.passes.now.items (map (λ s. s.pass) yielded) (seating.pass ∷ [])
          ∙ ap (λ (l : List TurnPass). c.args.passes.now.items ++ l) (sym (map_push (λ s. s.pass) yielded seating));
      left = omega (arith, i.left, steps.1, length-append yielded (seating ∷ []));
      room = omega (arith, p.len, p.capacity, i.room, steps.1);
      same = p.capacity ∙ i.same;
      back = rw (map_push (λ s. s.link) yielded seating)
          (taken_one (g.N.Links.lent c.args.links.now) (g.N.Links.lent c.loop-seating.links)
          (g.N.Links.lent c.take_back.new.self) (links_in yielded) seating.link i.back c.take_back.ensures.took);
      faults = rw (map_push (λ s. s.link) yielded seating)
          (faults_one (faults_told g.N.Link.Link.told) (g.N.Links.faults c.args.links.now)
          (g.N.Links.faults c.loop-seating.links)
          (g.N.Links.faults c.take_back.new.self) (links_in yielded) seating.link i.faults c.take_back.ensures.faults);
    }
