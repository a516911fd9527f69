use Rattle.std.proofs.Common.{◌≡◌, ◌≤◌, ◌+◌, ◌*◌, ◌-◌, ◌^◌, drop}
use Rattle.play_text.specs.Private.Kinds.{is_of}
use Rattle.play_text.specs.Summary.{event_count}
use Rattle.play_text.proofs.summary.count.Given as goal

-- the events of the documents so far are counted, and each document has at most as many as 64 bits tell
abbrev pub invariant-loop-transcript : goal.invariant-loop-transcript
invariant-loop-transcript l = record {
  counted : l.count + event_count (is_of l.kind) (drop l.transcript-index l.transcripts)
      ≡ event_count (is_of l.kind) l.transcripts;
  fits : l.count ≤ l.transcript-index * (2 ^ 64 - 1);
}
