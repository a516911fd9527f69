use Rattle.std.proofs.Common.{drop}
use Rattle.play_text.proofs.WriteLemmas.{Onward}
use Rattle.program_cspreport.specs.Text.{documents_text}
use Rattle.program_cspreport.proofs.text.write_documents.Given as goal

-- the documents so far were written, and the others follow
abbrev pub invariant-loop-index : goal.invariant-loop-index
invariant-loop-index g l =
    Onward (g.K.Sink.takes l.fn.sink) (g.K.Sink.takes l.sink)
    (documents_text (drop l.index l.transcripts) (drop l.index l.delivereds))
    (documents_text l.transcripts l.delivereds)
