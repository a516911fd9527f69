use Rattle.std.proofs.Common.{inl, inr, map, refl}
use Rattle.fetch_wire.specs.Wires.{over_link}
use Rattle.play_seats.specs.Makers.{maker_of}
use Rattle.play_seats.specs.Links.{way_of}
use Rattle.program_shell.proofs.ProgramLemmas.{unread-done, worked-done}
use Rattle.program_shell.specs.Inputs.{Reads, Refuses}
use Rattle.program_shell.specs.declared.status.Status.TheVariants as status
use Rattle.script_reading.specs.Scenarios.{scenario_of}
use Rattle.program_fetchplay.specs.Program.{IsLinked, IsOver, IsUntouched, most_input}
use Rattle.program_fetchplay.specs.Statuses.{written_status}
use Rattle.program_fetchplay.specs.Streams.{net_of}
use Rattle.program_fetchplay.proofs.ProgramLemmas.{play-written}
use Rattle.program_fetchplay.proofs.program.play_linked.Goals as goal

pub returns-in-Err : goal.returns-in-Err
returns-in-Err g c =
    let by = over_link g.N.Link.Link.serves in
    let net = net_of (maker_of g.N.Links.opening g.N.Links.lent g.N.Links.faults c.args.links.now) g.C.Clock.next
    c.args.clock.now in
    let output = g.K.Sink.takes c.args.output.now in
    unread-done most_input (Reads scenario_of) (Refuses scenario_of)
    (IsUntouched by g.N.Link.Link.told net net output output) (IsOver by g.N.Link.Link.told net net output output)
    (g.S.Source.gives c.args.input.now) (g.S.Source.gives c.scenario_in.new.input)
    c.in-Err.verdict (refl, refl) c.in-Err.ensures.unread

pub returns-in-Ok-play_over : goal.returns-in-Ok-play_over
returns-in-Ok-play_over g c =
    let scenario = c.in-Ok.scenario in
    let played = c.in-Ok-play_over.played in
    let by = over_link g.N.Link.Link.serves in
    let told = g.N.Link.Link.told in
    let way = way_of told in
    let over = c.in-Ok-play_over.ensures.played in
    let net = net_of (maker_of g.N.Links.opening g.N.Links.lent g.N.Links.faults c.args.links.now) g.C.Clock.next
    c.args.clock.now in
    let net' = net_of (maker_of g.N.Links.opening g.N.Links.lent g.N.Links.faults c.play_over.new.links)
    g.C.Clock.next c.base_of-base.new.clock in
    let output = g.K.Sink.takes c.args.output.now in
    let output' = g.K.Sink.takes c.write_text.new.output in
    rw c.status_of.ensures
    (worked-done most_input (Reads scenario_of) (Refuses scenario_of)
    (IsUntouched by told net net' output output') (IsOver by told net net' output output')
    (g.S.Source.gives c.args.input.now) (g.S.Source.gives c.scenario_in.new.input)
    scenario (written_status c.write_text.result) c.in-Ok.ensures.read
    (inr (play-written (IsLinked by told net net') scenario played.transcripts played.history output output'
    c.write_text.result
    (record {
      base = c.base_of-base.result;
      base_is = c.base_of-base.ensures.base;
      over = over;
      alone = c.law_isolated.ensures by scenario c.base_of-base.result (map way over.made) (map way over.back)
          played.transcripts played.history over.play;
    })
    c.write_text.ensures)))

pub returns-in-Err-play_over : goal.returns-in-Err-play_over
returns-in-Err-play_over g c =
    let by = over_link g.N.Link.Link.serves in
    let told = g.N.Link.Link.told in
    let net = net_of (maker_of g.N.Links.opening g.N.Links.lent g.N.Links.faults c.args.links.now) g.C.Clock.next
    c.args.clock.now in
    let net' = net_of (maker_of g.N.Links.opening g.N.Links.lent g.N.Links.faults c.play_over.new.links)
    g.C.Clock.next c.base_of-base.new.clock in
    let output = g.K.Sink.takes c.args.output.now in
    worked-done most_input (Reads scenario_of) (Refuses scenario_of)
    (IsUntouched by told net net' output output) (IsOver by told net net' output output)
    (g.S.Source.gives c.args.input.now) (g.S.Source.gives c.scenario_in.new.input)
    c.in-Ok.scenario status.OutOfMemory c.in-Ok.ensures.read
    (inl (record {
      verdict_is = refl;
      base = c.base_of-base.result;
      base_is = c.base_of-base.ensures.base;
      refused = c.in-Err-play_over.ensures.refused;
      unwritten = refl;
    }))
