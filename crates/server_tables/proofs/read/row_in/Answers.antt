use Rattle.std.proofs.Common.{length, ◌≡◌, ◌∙◌, ap, sym, subst, Option}
use Rattle.std.specs.Prelude.{IfOk}
use Rattle.server_tables.specs.Reading.{row_of_parts}
use Rattle.server_tables.specs.declared.table.Row.{Row}
use Rattle.server_tables.proofs.LineLemmas.{four-are, row-within}
use Rattle.server_tables.proofs.read.row_in.Goals as goal

pub returns : goal.returns
returns c =
    subst (λ (row : Option Row). IfOk c.row_of_parts.result (λ made. made ≡ row))
    (ap row_of_parts (four-are (λ part. part.now) c.in_ok-parts.parts.items c.index.result.now c.index-2.result.now
    c.index-3.result.now c.index-4.result.now (ap length (sym c.as_slice.ensures.value) ∙ c.if-as_slice-ne4.false)
    c.index.ensures c.index-2.ensures c.index-3.ensures c.index-4.ensures ∙ c.in_ok-parts.ensures)
    ∙ sym (row-within c.args.line.now c.if-line-gt-MOST_IN_LINE.false)) c.row_of_parts.ensures
