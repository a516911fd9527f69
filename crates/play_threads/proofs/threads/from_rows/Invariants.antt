use Rattle.play_threads.proofs.Words.{◌+◌, ◌≡◌, ◌≤◌, into_iter_len, length, seatings_of, transcripts_of, vec_capacity}
use Rattle.play_threads.proofs.Words.{vec_len}
use Rattle.play_threads.proofs.threads.from_rows.Given as goal

-- of the rows so far the seats and the transcripts are back, and there is room for the others
abbrev pub invariant-loop-row : goal.invariant-loop-row
invariant-loop-row g l = record {
  seats : l.seats.items ≡ seatings_of l.yielded;
  transcripts : l.transcripts.items ≡ transcripts_of l.yielded;
  count : vec_len l.seats ≡ length l.yielded;
  numbers : vec_len l.transcripts ≡ length l.yielded;
  left : length l.yielded + into_iter_len l.row-iterator ≡ vec_len l.fn.rows;
  room : vec_len l.fn.rows ≤ vec_capacity l.seats;
  space : vec_len l.fn.rows ≤ vec_capacity l.transcripts;
}
