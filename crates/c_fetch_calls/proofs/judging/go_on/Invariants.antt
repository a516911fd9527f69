use Rattle.std.proofs.Common.{◌≡◌}
use Rattle.fetch_session.specs.Sessions.{standing_of}
use Rattle.c_fetch_calls.specs.Judging.{judged, many}
use Rattle.c_fetch_calls.proofs.judging.go_on.Given as goal

-- so many acts were done
abbrev pub invariant-loop-times : goal.invariant-loop-times
invariant-loop-times l = judged (standing_of l.session) l.book l.told
    ≡ many l._times (judged (standing_of l.fn.session) l.fn.book l.fn.told)
