use Rattle.std.proofs.Common.{◌≡◌, ℕ, ◌+◌, [], ◌∷◌, ◌++◌, ◌∙◌, ap, arith, length, length-append, map, subst}
use Rattle.std.proofs.lemmas.List.{length-map, map_push}
use Rattle.link_traits.specs.Links.{IsForetold}
use Rattle.play_seats.specs.Links.{for_documents}
use Rattle.play_seats.proofs.LendingLemmas.{out-one}
use Rattle.play_seats.proofs.PassLemmas.{opened-more}
use Rattle.play_seats.proofs.seats.seat_all.Goals as goal

pub loop-pass-preserved : goal.loop-pass-preserved
loop-pass-preserved g c =
    let i = c.loop-pass.invariant in
    let e = c.in_ok-link.ensures in
    let p = c.push_reserved.ensures in
    let link = c.in_ok-link.link in
    let seats = c.loop-pass.seats.items in
    let links = map (λ s. s.link) seats in
    let opening = g.N.Links.opening c.args.links.now in
    let routes = c.args.routes.now in
    let number : c.loop-pass.number ≡ 0 + length links =
    omega (arith, i.number, i.count, length-map seats (λ s. s.link)) in
    let pushed = ap (map (λ s. s.link)) p.items ∙ map_push (λ s. s.link) seats
    (record { pass = c.in-Some.pass; link = link }) in
    record {
      passes = ap (map (λ s. s.pass)) p.items ∙ map_push (λ s. s.pass) seats
          (record { pass = c.in-Some.pass; link = link })
          ∙ ap (λ l. l ++ c.in-Some.pass ∷ []) i.passes;
      opened = rw pushed (opened-more (for_documents opening routes)
          (λ k. g.N.Links.opening c.loop-pass.links k (k + length links) routes) links link i.opened
          (λ k. i.later k (k + length links) routes)
          (subst (λ n. IsForetold (g.N.Links.opening c.loop-pass.links 0 n routes) link) number e.told));
      later = λ k n by. e.later k n by ∙ i.later (k + 1) n by ∙ ap (λ m. opening m n by) (further k (length links)
          (length (map (λ s. s.link) c.push_reserved.new.self.items))
          (ap length pushed ∙ length-append links (link ∷ [])));
      count = omega (arith, p.len, i.count, length-append c.loop-pass.yielded (c.in-Some.pass ∷ []));
      number = omega (arith, i.number, length-append c.loop-pass.yielded (c.in-Some.pass ∷ []));
      left = omega (arith, i.left, c.in-Some.ensures.steps.1, length-append c.loop-pass.yielded (c.in-Some.pass ∷ []));
      room = omega (arith, p.capacity, i.room);
      out = out-one (g.N.Links.lent c.args.links.now) (g.N.Links.lent c.loop-pass.links)
          (g.N.Links.lent c.make.new.self) (length seats) (length c.push_reserved.new.self.items) i.out e.lent
          (ap length p.items ∙ length-append seats (record { pass = c.in-Some.pass; link = link } ∷ []));
      faults = e.faults ∙ i.faults;
    }
  where
    further : (k n m : ℕ) → m ≡ n + 1 → k + 1 + n ≡ k + m
    further k n m is = omega (arith, is)
