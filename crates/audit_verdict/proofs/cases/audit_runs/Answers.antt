use Rattle.std.proofs.Common.{List, subst}
use Rattle.book_calls.specs.declared.entry.Entry.{Entry}
use Rattle.play_text.specs.Text.{play_text}
use Rattle.audit_replay.specs.Differences.{AreCompared}
use Rattle.audit_verdict.specs.Verdicts.{StopsAt}
use Rattle.audit_verdict.specs.Private.Runs.{AllCame, AreRuns}
use Rattle.audit_verdict.proofs.VerdictLemmas.{calls-verdict, play-verdict, text-verdict}
use Rattle.audit_verdict.proofs.cases.audit_runs.Goals as goal

pub returns-in-Stops : goal.returns-in-Stops
returns-in-Stops c =
    calls-verdict c.args.scenario.now c.args.play.now c.args.history.now c.requires.holds c.requires.given
    c.requires.named c.in-Stops.number
    (subst (λ (h : List Entry). StopsAt c.args.scenario.now h c.in-Stops.number) c.as_slice.ensures
    (subst (AreRuns c.args.scenario.now c.as_slice.result.now) c.in-Stops.is c.in_ok-number.ensures))

pub returns-in-None : goal.returns-in-None
returns-in-None c =
    let scenario = c.args.scenario.now in
    let history = c.args.history.now in
    let transcripts = c.in-Came.transcripts in
    play-verdict scenario c.args.play.now history c.requires.holds c.requires.given c.requires.named transcripts
    (subst (λ (h : List Entry). AllCame scenario h transcripts) c.as_slice.ensures
    (subst (AreRuns scenario c.as_slice.result.now) c.in-Came.is c.in_ok-number.ensures))
    (subst (AreCompared (play_text transcripts history) c.args.play.now) c.in-None.is c.in_ok-differs_from.ensures)

pub returns : goal.returns
returns c =
    let scenario = c.args.scenario.now in
    let history = c.args.history.now in
    let transcripts = c.in-Came.transcripts in
    text-verdict scenario c.args.play.now history c.requires.holds c.requires.given c.requires.named transcripts
    c.in-Some.offset
    (subst (λ (h : List Entry). AllCame scenario h transcripts) c.as_slice.ensures
    (subst (AreRuns scenario c.as_slice.result.now) c.in-Came.is c.in_ok-number.ensures))
    (subst (AreCompared (play_text transcripts history) c.args.play.now) c.in-Some.is c.in_ok-differs_from.ensures)
