use Rattle.play_documents.proofs.Words.{◌∙◌, MatchResult-from_err, ap, arith, holds, refl, rules, steps_size, sym}
use Rattle.play_documents.proofs.PartLemmas.{played-moved, played-none, plays-after}
use Rattle.play_documents.proofs.ScriptLemmas.{command-at, goes-on, no-ending, round-cut, round-ended, round-next}
use Rattle.play_documents.proofs.ScriptLemmas.{round-over, round-start, script-cut, script-ended, script-limited}
use Rattle.play_documents.proofs.ScriptLemmas.{script-next, script-over, script-start}
use Rattle.play_documents.proofs.commands.+script.Goals as goal

pub choice-returns-then-holds-clause-came : goal.choice-returns-then-holds-clause-came
choice-returns-then-holds-clause-came g t c =
    let chose = sym (c.holds.ensures ∙ ap (holds c.args.test.now) c.last.ensures) ∙ c.if-holds.true in
    plays-after _ _ _ c.script.result (rw chose played-none) c.script.ensures.came

pub choice-returns-else-holds-clause-came : goal.choice-returns-else-holds-clause-came
choice-returns-else-holds-clause-came g t c =
    let chose = sym (c.holds.ensures ∙ ap (holds c.args.test.now) c.last.ensures) ∙ c.if-holds.false in
    plays-after _ _ _ c.script-else-holds.result (rw chose played-none) c.script-else-holds.ensures.came

pub play_command-returns-in-Fetch-clause-came : goal.play_command-returns-in-Fetch-clause-came
play_command-returns-in-Fetch-clause-came g t c = rw (c.in-Fetch.is, ← c.get.ensures) c.fetch_command.ensures.came

pub play_command-returns-in-Load-clause-came : goal.play_command-returns-in-Load-clause-came
play_command-returns-in-Load-clause-came g t c = rw c.in-Load.is c.load_command.ensures.came

pub play_command-returns-in-Wait-clause-came : goal.play_command-returns-in-Wait-clause-came
play_command-returns-in-Wait-clause-came g t c = rw c.in-Wait.is (record {
  played = played-moved refl refl (search rules) (λ n. rw c.wait.ensures refl);
  rests = c.requires.goes.rests;
})

pub play_command-returns-in-Repeat-clause-came : goal.play_command-returns-in-Repeat-clause-came
play_command-returns-in-Repeat-clause-came g t c = rw c.in-Repeat.is (plays-after _ _ _ c.repeat.result
    (played-moved refl refl (search rules) (λ n. rw c.start.ensures refl)) c.repeat.ensures.came)

pub play_command-returns-in-If-clause-came : goal.play_command-returns-in-If-clause-came
play_command-returns-in-If-clause-came g t c = rw c.in-If.is (plays-after _ _ _ c.choice.result
    (played-moved refl refl (search rules) (λ n. rw c.start-in-If.ensures refl)) c.choice.ensures.came)

-- ---- a script so many times

pub repeat-loop-i-init : goal.repeat-loop-i-init
repeat-loop-i-init g t c = search (rules, round-start)

pub repeat-returns-in_err-ending-clause-came : goal.repeat-returns-in_err-ending-clause-came
repeat-returns-in_err-ending-clause-came g t c =
    MatchResult-from_err c.from_residual.result _ _ c.from_residual.ensures.0
    (λ one. round-cut c.loop-i.invariant.played c.loop-i-test.true c.in_err-ending.ensures.came)

pub repeat-returns-then-is_some-clause-came : goal.repeat-returns-then-is_some-clause-came
repeat-returns-then-is_some-clause-came g t c =
    round-ended c.loop-i.invariant.played c.loop-i-test.true (sym c.is_some.ensures ∙ c.if-is_some.true)
    c.in_ok-ending.ensures.came

pub repeat-loop-i-preserved : goal.repeat-loop-i-preserved
repeat-loop-i-preserved g t c =
    search (
      rules,
      round-next c.loop-i.invariant.played c.loop-i-test.true (sym c.is_some.ensures ∙ c.if-is_some.false)
          c.in_ok-ending.ensures.came,
    )

pub repeat-returns-clause-came : goal.repeat-returns-clause-came
repeat-returns-clause-came g t c =
    round-over c.loop-i.invariant.played c.loop-i-test.false c.loop-i.invariant.rests

-- ---- a script

pub script-loop-command-init : goal.script-loop-command-init
script-loop-command-init g t c = search (rules, script-start)

pub script-returns-then-is_some-clause-came : goal.script-returns-then-is_some-clause-came
script-returns-then-is_some-clause-came g t c =
    rw (← c.as_slice-command-items.ensures) (script-limited c.command-item.result c.loop-command.invariant.played
    c.loop-command-test.true c.command-item.is c.limit_before-limit.ensures
    (sym c.is_some.ensures ∙ c.if-is_some.true) c.loop-command.invariant.rests)

pub script-play_command-requires : goal.script-play_command-requires
script-play_command-requires g t c = λ κs live.
    let is = c.loop-command.invariant in
    let same = c.as_slice-command-items.ensures in
    let there = command-at c.as_slice-command-items.result.now c.loop-command.command-index c.command-item.result
    c.loop-command-test.true c.command-item.is (rw same c.requires.valid) in
    let free = sym c.limit_before-limit.ensures ∙ no-ending (sym c.is_some.ensures ∙ c.if-is_some.false) in (
      omega (arith, there.1, ap steps_size same),
      search (rules, is.kept.ready, there.0, free, goes-on c.requires.goes is.spent is.rests),
    )

pub script-returns-in_err-ending-clause-came : goal.script-returns-in_err-ending-clause-came
script-returns-in_err-ending-clause-came g t c =
    MatchResult-from_err c.from_residual.result _ _ c.from_residual.ensures.0
    (λ one. rw (← c.as_slice-command-items.ensures) (script-cut c.command-item.result
    c.loop-command.invariant.played c.loop-command-test.true c.command-item.is c.limit_before-limit.ensures
    (sym c.is_some.ensures ∙ c.if-is_some.false) c.in_err-ending.ensures.came))

pub script-returns-then-is_some-2-clause-came : goal.script-returns-then-is_some-2-clause-came
script-returns-then-is_some-2-clause-came g t c =
    rw (← c.as_slice-command-items.ensures) (script-ended c.command-item.result c.loop-command.invariant.played
    c.loop-command-test.true c.command-item.is c.limit_before-limit.ensures
    (sym c.is_some.ensures ∙ c.if-is_some.false) (sym c.is_some-in-loop-command.ensures ∙ c.if-is_some-2.true)
    c.in_ok-ending.ensures.came)

pub script-loop-command-preserved : goal.script-loop-command-preserved
script-loop-command-preserved g t c =
    search (
      rules,
      script-next c.command-item.result c.loop-command.invariant.played c.loop-command-test.true c.command-item.is
          c.limit_before-limit.ensures (sym c.is_some.ensures ∙ c.if-is_some.false)
          (sym c.is_some-in-loop-command.ensures ∙ c.if-is_some-2.false) c.in_ok-ending.ensures.came,
    )

pub script-returns-clause-came : goal.script-returns-clause-came
script-returns-clause-came g t c =
    rw (← c.as_slice-command-items.ensures) (script-over c.as_slice-command-items.result.now
    c.loop-command.command-index c.loop-command.invariant.played c.loop-command-test.false
    c.loop-command.invariant.rests)
