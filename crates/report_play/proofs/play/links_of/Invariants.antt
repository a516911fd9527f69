use Rattle.std.proofs.Common.{◌≡◌, ◌+◌, ◌≤◌, ◌++◌, length, vec_capacity, vec_len}
use Rattle.std.specs.Vec.Iter.{into_iter_len}
use Rattle.play_seats.specs.Seated.{links_in, passes_in}
use Rattle.report_play.proofs.play.links_of.Given as goal

-- the links and the passes of the seats so far were taken apart
abbrev pub invariant-loop-seating : goal.invariant-loop-seating
invariant-loop-seating g l = record {
  links : l.links.items ≡ links_in l.yielded;
  passes : l.passes.items ≡ l.initial.passes.items ++ passes_in l.yielded;
  left : length l.yielded + into_iter_len l.seating-iterator ≡ vec_len l.fn.seats;
  room : vec_len l.passes + into_iter_len l.seating-iterator ≤ vec_capacity l.passes;
  count : vec_len l.links ≡ length l.yielded;
  space : vec_len l.fn.seats ≤ vec_capacity l.links;
}
