use Rattle.std.proofs.Common.{◌≡◌, ◌≢◌, ◌∙◌, ap, List}
use Rattle.play_laws.specs.Once.{CallsFollow}
use Rattle.script_events.specs.declared.events.Ending.TheVariants.{Memory}
use Rattle.script_scenarios.specs.declared.servers.Server.{Server}
use Rattle.audit_replay.specs.Tapes.{Tape}
use Rattle.audit_verdict.proofs.TapeRunLemmas.{came-to, unused-run, used-run}
use Rattle.play_seats.proofs.ServedLemmas.{document-at}
use Rattle.audit_verdict.proofs.runs.run_one.Goals as goal

pub returns-then-is_used_up : goal.returns-then-is_used_up
returns-then-is_used_up c =
    let scenario = c.args.scenario.now in
    let number = c.args.number in
    let history = c.args.history.now in
    let new = c.drive-transcript.new.pass in
    let kept = c.drive-transcript.ensures.pass in
    let one = document-at scenario.documents number c.requires.one in
    let told : c.drive-transcript.result.ending ≢ Memory =
    λ is. let now = rw is at c.eq.ensures in cc (now, c.if-eq.false) in
    let same : new.document ≡ number = kept.document ∙ ap (λ (t : Tape). t.document) c.new-pass.ensures in
    let over : new.history ≡ history = kept.belongs_to ∙ c.new-share.ensures in
    used-run scenario number history one.0 new c.drive-transcript.result one.1 same over told
    c.if-is_used_up.ensures.used
    (came-to scenario number c.args.opening.now.value history one.0 c.new-pass.result new c.new-link.result
    c.drive-transcript.new.link c.drive-transcript.result c.new-pass.ensures c.new-link.ensures kept.document
    c.drive-transcript.ensures.number (c.drive-transcript.ensures.key one.0 one.1 told) told
    (c.drive-transcript.ensures.came one.0 one.1))

pub returns : goal.returns
returns c =
    let scenario = c.args.scenario.now in
    let number = c.args.number in
    let history = c.args.history.now in
    let new = c.drive-transcript.new.pass in
    let kept = c.drive-transcript.ensures.pass in
    let one = document-at scenario.documents number c.requires.one in
    let law : CallsFollow (List Server) = c.law_same_calls.ensures in
    let told : c.drive-transcript.result.ending ≢ Memory =
    λ is. let now = rw is at c.eq.ensures in cc (now, c.if-eq.false) in
    let same : new.document ≡ number = kept.document ∙ ap (λ (t : Tape). t.document) c.new-pass.ensures in
    let over : new.history ≡ history = kept.belongs_to ∙ c.new-share.ensures in
    unused-run law scenario number history one.0 new c.drive-transcript.result one.1 same over
    c.if-is_used_up.ensures.tape c.if-is_used_up.ensures.used
    (came-to scenario number c.args.opening.now.value history one.0 c.new-pass.result new c.new-link.result
    c.drive-transcript.new.link c.drive-transcript.result c.new-pass.ensures c.new-link.ensures kept.document
    c.drive-transcript.ensures.number (c.drive-transcript.ensures.key one.0 one.1 told) told
    (c.drive-transcript.ensures.came one.0 one.1))
