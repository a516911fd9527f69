use Rattle.std.proofs.Common.{refl}
use Rattle.program_shell.specs.Words.{texts}
use Rattle.server_tables.specs.Serving.{peer_told}
use Rattle.server_words.specs.Words.{task_of}
use Rattle.program_corsserve.specs.Connections.{accepts_told}
use Rattle.program_corsserve.proofs.ProgramLemmas.{refused-words}
use Rattle.program_corsserve.proofs.program.verdict.Goals as goal

pub returns-in-Err-clause-verdict : goal.returns-in-Err-clause-verdict
returns-in-Err-clause-verdict g c =
    let accepts = accepts_told g.A.Accepts.opened g.A.Accepts.coming g.A.Accepts.lent g.A.Accepts.faults
    c.args.accepts.now in
    refused-words (peer_told g.A.End.Source.gives g.A.End.Sink.takes) (g.S.Source.gives c.args.input.now)
    (g.S.Source.gives c.args.input.now) accepts accepts (g.K.Sink.takes c.args.output.now)
    (g.K.Sink.takes c.args.output.now) (task_of (texts c.args.words.now)) refl (refl, refl)
