use Rattle.std.proofs.Common.{sym, ◌∙◌}
use Rattle.c_play.proofs.reports.fiorrudda_reports.Goals as goal

pub returns-in-Ok-Err-clause-told : goal.returns-in-Ok-Err-clause-told
returns-in-Ok-Err-clause-told c =
    let read = sym c.in-Ok-Err.ensures.value ∙ c.in-Ok-Err.field-0-is in
    λ told. rw (read, ← c.as_slice.ensures) c.refused.ensures.told

pub returns-in-Ok-clause-told : goal.returns-in-Ok-clause-told
returns-in-Ok-clause-told c =
    let read = sym c.in-Ok-Ok.ensures.value ∙ c.in-Ok-Ok.field-0-is in
    λ told. rw read (record {
      text = c.in-Ok.text.bytes.items;
      of = c.in-Ok.ensures;
      written = rw (← c.as_slice-in-Ok.ensures) c.write.ensures.written;
    })
