use Rattle.std.proofs.Common.{◌∙◌}
use Rattle.std.specs.List.{flat_map}
use Rattle.play_text.specs.Text as spec
use Rattle.play_text.proofs.LineLemmas.{flat_map-cut, flat_map-none}
use Rattle.play_text.proofs.WriteLemmas.{writes-append, writes-before, writes-failed, writes-nothing, writes-refused}
use Rattle.play_text.proofs.play.write_entries.Goals as goal

pub loop-rest-init : goal.loop-rest-init
loop-rest-init g c = λ new result written. written

pub returns-in_err-text : goal.returns-in_err-text
returns-in_err-text g c =
    c.loop-rest.invariant _ _
    (writes-refused (flat_map spec.entry_line c.loop-rest.rest.now) c.from_residual.result c.from_residual.ensures.1
    writes-nothing)

pub returns-in_err-write_text : goal.returns-in_err-write_text
returns-in_err-write_text g c =
    c.loop-rest.invariant (g.K.Sink.takes c.write_text.new.sink) c.from_residual-in_err-write_text.result
    (writes-failed c.from_residual-in_err-write_text.result c.from_residual-in_err-write_text.ensures.1
    (rw (flat_map-cut spec.entry_line c.loop-rest.rest.now c.split_at.result.0.now c.split_at.result.1.now
    c.as_slice.result.now c.split_at.ensures.by_index.0 (c.as_slice.ensures ∙ c.in_ok-text.ensures))
    (writes-before (flat_map spec.entry_line c.split_at.result.1.now) c.in_err-write_text.ensures)))

pub loop-rest-preserved : goal.loop-rest-preserved
loop-rest-preserved g c =
    λ new result others. c.loop-rest.invariant new result
    (rw (flat_map-cut spec.entry_line c.loop-rest.rest.now c.split_at.result.0.now c.split_at.result.1.now
    c.as_slice.result.now c.split_at.ensures.by_index.0 (c.as_slice.ensures ∙ c.in_ok-text.ensures))
    (writes-append c.in_ok-write_text.ensures others))

pub returns : goal.returns
returns g c =
    c.loop-rest.invariant _ _
    (rw (flat_map-none spec.entry_line c.loop-rest.rest.now c.loop-rest-test.ensures) writes-nothing)
