use Rattle.std.proofs.Common.{◌+◌, ◌∙◌, arith, drop}
use Rattle.play_text.proofs.WriteLemmas.{writes-append, writes-before, writes-failed, writes-nothing, writes-refused}
use Rattle.program_cspreport.specs.Text.{documents_text}
use Rattle.program_cspreport.proofs.TextLemmas.{documents-end, documents-next}
use Rattle.program_cspreport.proofs.text.write_documents.Goals as goal

pub returns-in_err-text : goal.returns-in_err-text
returns-in_err-text g c =
    c.loop-index.invariant _ _
    (writes-refused
    (documents_text (drop c.loop-index.index c.args.transcripts.now) (drop c.loop-index.index c.args.delivereds.now))
    c.from_residual.result c.from_residual.ensures.1 writes-nothing)

pub returns-in_err-write_text : goal.returns-in_err-write_text
returns-in_err-write_text g c =
    let ts = c.args.transcripts.now in
    let ds = c.args.delivereds.now in
    let i = c.loop-index.index in
    c.loop-index.invariant (g.K.Sink.takes c.write_text.new.sink) c.from_residual-in_err-write_text.result
    (writes-failed c.from_residual-in_err-write_text.result c.from_residual-in_err-write_text.ensures.1
    (rw (documents-next ts ds i c.index-transcripts-index.result c.index-delivereds-index.result c.as_slice.result.now
    (omega (arith, c.loop-index-test.true, c.requires)) c.loop-index-test.true c.index-transcripts-index.is
    c.index-delivereds-index.is (c.as_slice.ensures ∙ c.in_ok-text.ensures))
    (writes-before (documents_text (drop (i + 1) ts) (drop (i + 1) ds)) c.in_err-write_text.ensures)))

pub loop-index-preserved : goal.loop-index-preserved
loop-index-preserved g c =
    let ts = c.args.transcripts.now in
    let ds = c.args.delivereds.now in
    let i = c.loop-index.index in
    λ new result others. c.loop-index.invariant new result
    (rw (documents-next ts ds i c.index-transcripts-index.result c.index-delivereds-index.result c.as_slice.result.now
    (omega (arith, c.loop-index-test.true, c.requires)) c.loop-index-test.true c.index-transcripts-index.is
    c.index-delivereds-index.is (c.as_slice.ensures ∙ c.in_ok-text.ensures))
    (writes-append c.in_ok-write_text.ensures others))

pub returns : goal.returns
returns g c =
    c.loop-index.invariant _ _
    (rw (documents-end c.args.transcripts.now c.args.delivereds.now c.loop-index.index
    (omega (arith, c.loop-index-test.false))) writes-nothing)
