use Rattle.play_documents.proofs.Words.{◌∙◌, ◌≡◌, IsAtEnd, Progress, ap, arith, finished, lent_setting, over_link, refl}
use Rattle.play_documents.proofs.Words.{rules, script_run, standing, window_of}
use Rattle.play_definitions.proofs.WorldLemmas.{end-left, moved, outside-is}
use Rattle.play_definitions.proofs.KeepLemmas.{keeps-pass}
use Rattle.play_documents.proofs.RunLemmas.{run-came, run-rests}
use Rattle.play_documents.proofs.document.play_script.Goals as goal

pub script-requires-clause-goes : goal.script-requires-clause-goes
script-requires-clause-goes g c = record {
  calls = omega (arith, c.requires.pass.1, ap (λ (p : Progress). p.fetches) c.new-running.ensures);
  fetches = omega (arith, ap (λ (p : Progress). p.fetches) c.new-running.ensures);
  rests = end-left (window_of c.args.wire.now) (g.L.Link.told c.args.link.now).left c.requires.idle.end;
}

pub returns-clause-came : goal.returns-clause-came
returns-clause-came g c =
    let last = c.script.new.player in
    let shown : c.into_events.result ≡ last.running.now.shown = search rules in
    let ticks : c.now-clock.result ≡ last.running.now.clock = search rules in
    rw (shown, ticks, c.ended_by-ending.ensures) (run-came _ _ (standing g.S.Share.account g.L.Link.told last)
    c.requires.idle refl (search (rules, outside-is)) (ap (λ (p : Progress). p.shown) c.new-running.ensures)
    c.args.document.now.script c.script.result
    (ap (script_run (lent_setting c.args.lent.now) c.args.document.now.script finished) c.new-running.ensures)
    c.script.ensures.came)

pub returns-clause-rests : goal.returns-clause-rests
returns-clause-rests g c = λ told.
    moved (λ l. IsAtEnd (g.L.Link.told l).left) c.script.new.player.link.now _ (search rules)
    (run-rests (over_link g.L.Link.serves) (λ lent. script_run lent c.args.document.now.script) _
    (standing g.S.Share.account g.L.Link.told c.script.new.player) c.script.result c.script.ensures.came
    (λ bad. told (c.ended_by-ending.ensures ∙ bad)))

pub returns-clause-pass : goal.returns-clause-pass
returns-clause-pass g c =
    keeps-pass c.script.ensures.kept (search rules) (omega (
      arith,
      c.script.ensures.spent.calls,
      c.script.ensures.spent.fetches,
      ap (λ (p : Progress). p.fetches) c.new-running.ensures,
    ))
