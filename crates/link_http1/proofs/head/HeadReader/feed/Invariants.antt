use Rattle.std.proofs.Common.{◌≡◌, ◌≤◌, ◌+◌, ◌++◌, length}
use Rattle.link_http1.specs.Answers.{IsUnfinished, most_bytes}
use Rattle.link_http1.proofs.head.HeadReader.feed.Given as goal

abbrev pub invariant-loop-rest : goal.invariant-loop-rest
invariant-loop-rest l = record {
  whole : l.fn.self ++ l.piece ≡ l.reader ++ l.rest;
  room_is : l.room + length l.reader ≡ most_bytes;
  unfinished : IsUnfinished l.reader;
  within : length l.rest ≤ length l.piece;
}

abbrev pub decreases-loop-rest : goal.decreases-loop-rest
decreases-loop-rest l = length l.rest
