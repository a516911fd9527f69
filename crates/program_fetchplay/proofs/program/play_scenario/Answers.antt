use Rattle.play_definitions.specs.Plays.{by_rules, ways_to_servers}
use Rattle.program_shell.proofs.ProgramLemmas.{refused-played, unread-played, written-played}
use Rattle.script_reading.specs.Scenarios.{scenario_of}
use Rattle.program_fetchplay.specs.Program.{IsPlayText, IsScripted, most_input}
use Rattle.program_fetchplay.specs.Statuses.{written_status}
use Rattle.program_fetchplay.proofs.ProgramLemmas.{play-written}
use Rattle.program_fetchplay.proofs.program.play_scenario.Goals as goal

pub returns-in-Err : goal.returns-in-Err
returns-in-Err g c = unread-played most_input scenario_of (IsPlayText IsScripted)
    (g.S.Source.gives c.args.input.now) (g.S.Source.gives c.scenario_in.new.input)
    (g.K.Sink.takes c.args.output.now) (g.K.Sink.takes c.args.output.now)
    c.in-Err.verdict c.in-Err.ensures.unread

pub returns-in-Err-play_scripted : goal.returns-in-Err-play_scripted
returns-in-Err-play_scripted g c = refused-played most_input scenario_of (IsPlayText IsScripted)
    (g.S.Source.gives c.args.input.now) (g.S.Source.gives c.scenario_in.new.input)
    (g.K.Sink.takes c.args.output.now) (g.K.Sink.takes c.args.output.now)
    c.in-Ok.scenario c.in-Ok.ensures.read

pub returns-in-Ok-play_scripted : goal.returns-in-Ok-play_scripted
returns-in-Ok-play_scripted g c =
    let scenario = c.in-Ok.scenario in
    let played = c.in-Ok-play_scripted.played in
    rw c.status_of.ensures
    (written-played most_input scenario_of (IsPlayText IsScripted)
    (g.S.Source.gives c.args.input.now) (g.S.Source.gives c.scenario_in.new.input)
    (g.K.Sink.takes c.args.output.now) (g.K.Sink.takes c.write_text.new.output)
    scenario (written_status c.write_text.result) c.in-Ok.ensures.read
    (play-written IsScripted scenario played.transcripts played.history (g.K.Sink.takes c.args.output.now)
    (g.K.Sink.takes c.write_text.new.output) c.write_text.result
    (record {
      play = c.in-Ok-play_scripted.ensures.played;
      alone = c.law_isolated.ensures by_rules scenario scenario.now (ways_to_servers scenario)
          (ways_to_servers scenario) played.transcripts played.history c.in-Ok-play_scripted.ensures.played;
    })
    c.write_text.ensures))
