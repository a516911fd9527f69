use Rattle.std.proofs.Common.{◌≡◌, ℕ, ◌+◌, ◌≤◌, List, length, map, option_map, vec_capacity, vec_len}
use Rattle.std.specs.Vec.Iter.{into_iter_len}
use Rattle.link_traits.specs.declared.routes.Route.{Route}
use Rattle.play_seats.specs.Links.{AreOpened, for_documents}
use Rattle.play_seats.specs.Lendings.{out_more}
use Rattle.play_seats.proofs.seats.seat_all.Given as goal

-- the passes so far have their links
abbrev pub invariant-loop-pass : goal.invariant-loop-pass
invariant-loop-pass g l = record {
  passes : map (λ s. s.pass) l.seats.items ≡ l.yielded;
  opened : AreOpened (for_documents (g.N.Links.opening l.initial.links) l.fn.routes)
      (map (λ s. s.link) l.seats.items);
  later : (k number : ℕ) (by : List Route) → g.N.Links.opening l.links k number by
      ≡ g.N.Links.opening l.initial.links (k + length (map (λ s. s.link) l.seats.items)) number by;
  count : vec_len l.seats ≡ length l.yielded;
  number : l.number ≡ length l.yielded;
  left : length l.yielded + into_iter_len l.pass-iterator ≡ vec_len l.fn.passes;
  room : vec_len l.fn.passes ≤ vec_capacity l.seats;
  out : g.N.Links.lent l.links ≡ option_map (out_more (length l.seats.items)) (g.N.Links.lent l.initial.links);
  faults : g.N.Links.faults l.links ≡ g.N.Links.faults l.initial.links;
}
