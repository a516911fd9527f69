use Rattle.std.proofs.Common.{◌∙◌, ◌+◌, ap, sym, arith, List, ℕ, take, drop, length}
use Rattle.server_tables.specs.Reading.{row_in, rows_from}
use Rattle.server_tables.specs.declared.table.Row.{Row}
use Rattle.server_tables.proofs.LineLemmas.{line-bad, line-good, line-open, lines, numbered-in, numbered-out}
use Rattle.server_tables.proofs.LineLemmas.{rows_after}
use Rattle.server_tables.proofs.LineLemmas.{some-left}
use Rattle.server_tables.proofs.read.read_table.Goals as goal

pub returns-in_default : goal.returns-in_default
returns-in_default c =
    let is = c.loop-rest.invariant in
    sym (is.rows ∙ ap (rows_after c.loop-rest.table) (line-open c.loop-rest.rest.now c.loop-rest.line
    (sym c.in_default.ensures) (some-left (length c.loop-rest.rest.now) (sym c.loop-rest-test.ensures))))

pub returns-then-line-gt-MOST_ROWS : goal.returns-then-line-gt-MOST_ROWS
returns-then-line-gt-MOST_ROWS c =
    sym (c.loop-rest.invariant.rows ∙ line-bad c.loop-rest.table c.loop-rest.rest.now c.in-Some.end c.loop-rest.line
    (sym c.in-Some.ensures)
    (numbered-out c.loop-rest.line (take c.in-Some.end c.loop-rest.rest.now) c.if-line-gt-MOST_ROWS.true))

pub returns-in_default-2 : goal.returns-in_default-2
returns-in_default-2 c =
    sym (c.loop-rest.invariant.rows ∙ line-bad c.loop-rest.table c.loop-rest.rest.now c.in-Some.end c.loop-rest.line
    (sym c.in-Some.ensures)
    (numbered-in c.loop-rest.line (take c.in-Some.end c.loop-rest.rest.now) c.if-line-gt-MOST_ROWS.false
    ∙ (ap row_in (sym c.split_at.ensures.front) ∙ (sym c.in_ok-row.ensures ∙ c.in_default-2.is))))

pub loop-rest-preserved : goal.loop-rest-preserved
loop-rest-preserved c = record {
  rows = c.loop-rest.invariant.rows
      ∙ line-good c.loop-rest.table c.loop-rest.rest.now c.in-Some.end c.loop-rest.line (sym c.in-Some.ensures)
      c.in-Some-2.row
      (numbered-in c.loop-rest.line (take c.in-Some.end c.loop-rest.rest.now) c.if-line-gt-MOST_ROWS.false
      ∙ (ap row_in (sym c.split_at.ensures.front) ∙ (sym c.in_ok-row.ensures ∙ c.in-Some-2.is)))
      ∙ ap (λ (rows : List Row). rows_after rows (rows_from (c.loop-rest.line + 1)
      (lines (drop (c.in-Some.end + 1) c.loop-rest.rest.now)))) (sym c.in_ok-add.ensures.ok)
      ∙ ap (λ (l : List ℕ). rows_after c.add.new.self (rows_from (c.loop-rest.line + 1) (lines l)))
      (sym c.split_at-in-loop-rest.ensures.back);
  few = omega (arith, c.if-line-gt-MOST_ROWS.false);
}
