use Rattle.std.proofs.Common.{◌≡◌, ◌≤◌, length}
use Rattle.server_tables.specs.Reading.{rows_from, table_of}
use Rattle.server_tables.proofs.LineLemmas.{lines, rows_after}
use Rattle.server_tables.proofs.read.read_table.Given as goal

-- the rows so far, and those of the lines that are left
abbrev pub invariant-loop-rest : goal.invariant-loop-rest
invariant-loop-rest l = record {
  rows : table_of l.text ≡ rows_after l.table (rows_from l.line (lines l.rest));
  few : l.line ≤ 257;
}

abbrev pub decreases-loop-rest : goal.decreases-loop-rest
decreases-loop-rest l = length l.rest
