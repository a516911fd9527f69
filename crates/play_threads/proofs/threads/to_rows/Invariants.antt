use Rattle.play_threads.proofs.Words.{◌+◌, ◌≡◌, ◌≤◌, into_iter_len, length, seatings_of, vec_capacity, vec_len}
use Rattle.play_threads.proofs.threads.to_rows.Given as goal

-- the seats so far are in the rows, and there is room for the others
abbrev pub invariant-loop-seating : goal.invariant-loop-seating
invariant-loop-seating g l = record {
  rows : seatings_of l.rows.items ≡ l.yielded;
  count : vec_len l.rows ≡ length l.yielded;
  left : length l.yielded + into_iter_len l.seating-iterator ≡ vec_len l.fn.seats;
  room : vec_len l.fn.seats ≤ vec_capacity l.rows;
}
