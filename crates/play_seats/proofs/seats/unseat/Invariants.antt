use Rattle.std.proofs.Common.{◌≡◌, ◌+◌, ◌≤◌, ◌++◌, length, map, vec_capacity, vec_len}
use Rattle.std.specs.Vec.Iter.{into_iter_len}
use Rattle.play_seats.specs.Links.{grown_by_all}
use Rattle.play_seats.specs.Lendings.{AreTaken}
use Rattle.play_seats.specs.Seated.{links_in}
use Rattle.play_seats.proofs.seats.unseat.Given as goal
use Rattle.link_traits.specs.Links.{faults_told}

-- the passes and the links of the seats so far are back
abbrev pub invariant-loop-seating : goal.invariant-loop-seating
invariant-loop-seating g l = record {
  passes : l.passes.items ≡ l.initial.passes.items ++ map (λ s. s.pass) l.yielded;
  left : length l.yielded + into_iter_len l.seating-iterator ≡ vec_len l.fn.seats;
  room : vec_len l.passes + into_iter_len l.seating-iterator ≤ vec_capacity l.passes;
  same : vec_capacity l.passes ≡ vec_capacity l.initial.passes;
  back : AreTaken (g.N.Links.lent l.initial.links) (g.N.Links.lent l.links) (links_in l.yielded);
  faults : g.N.Links.faults l.links
      ≡ grown_by_all (g.N.Links.faults l.initial.links) (map (faults_told g.N.Link.Link.told) (links_in l.yielded));
}
