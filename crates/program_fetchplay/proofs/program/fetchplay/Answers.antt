use Rattle.play_seats.specs.Makers.{maker_of}
use Rattle.program_shell.specs.Words.{texts}
use Rattle.program_fetchplay.specs.Streams.{net_of}
use Rattle.fetch_wire.specs.Wires.{over_link}
use Rattle.program_fetchplay.proofs.ProgramLemmas.{answers}
use Rattle.program_fetchplay.proofs.program.fetchplay.Goals as goal

pub returns : goal.returns
returns g c = answers (over_link g.N.Link.Link.serves) g.N.Link.Link.told
    (net_of (maker_of g.N.Links.opening g.N.Links.lent g.N.Links.faults c.args.links.now) g.C.Clock.next
    c.args.clock.now)
    (net_of (maker_of g.N.Links.opening g.N.Links.lent g.N.Links.faults c.verdict-verdict.new.links) g.C.Clock.next
    c.verdict-verdict.new.clock)
    (g.S.Source.gives c.args.input.now)
    (g.S.Source.gives c.verdict-verdict.new.input)
    (g.K.Sink.takes c.args.output.now)
    (g.K.Sink.takes c.verdict-verdict.new.output)
    (texts c.args.words.now)
    (g.E.Sink.takes c.args.complaints.now)
    (g.E.Sink.takes c.tell.new.complaints)
    c.tell.result
    (record {
      verdict = c.verdict-verdict.result;
      is_verdict = c.verdict-verdict.ensures;
      is_told = c.tell.ensures;
    })
