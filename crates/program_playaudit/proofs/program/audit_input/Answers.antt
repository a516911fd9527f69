use Rattle.std.proofs.Common.{◌≡◌}
use Rattle.program_shell.proofs.ProgramLemmas.{worked-done}
use Rattle.program_playaudit.specs.Program.{IsAudited, Reads, Refuses, most_input}
use Rattle.program_playaudit.proofs.program.audit_input.Goals as goal

pub returns : goal.returns
returns g c =
    let output = g.K.Sink.takes c.args.output.now in
    let output' = g.K.Sink.takes c.write_verdict.new.output in
    worked-done most_input Reads Refuses (output' ≡ output) (IsAudited output output')
    (g.S.Source.gives c.args.input.now) (g.S.Source.gives c.read_input.new.input)
    (record { scenario = c.in-Some.scenario.now; play = c.in-Some.play.now })
    c.write_verdict.result
    (record {
      bytes = c.as_slice.result.now;
      given = rw c.as_slice.ensures c.in-Ok.ensures.given;
      reads = c.in-Some.ensures;
    })
    (record {
      one = c.in-Ok-audit.verdict;
      verdict_is = c.in-Ok-audit.ensures;
      written = c.write_verdict.ensures;
    })
