use Rattle.std.proofs.Common.{ap, sym, ◌∙◌, arith, List, bytes_eq}
use Rattle.server_tables.specs.Tables.{row_of}
use Rattle.server_tables.specs.declared.table.Row.{Row}
use Rattle.server_tables.proofs.PlaceLemmas.{first-found, none-found, row-at}
use Rattle.server_tables.proofs.table.AllowTable.row_of.Goals as goal

pub index-requires : goal.index-requires
index-requires c =
    let is = first-found (λ (row : Row). bytes_eq row.origin c.args.origin.now) c.self.inside.rows.items 0
    c.in-Some.place.now (sym (c.self.invariant.1 c.args.origin.now) ∙ sym c.in-Some.ensures.value) in
    omega (arith, is.at, is.within)

pub returns-in-Some : goal.returns-in-Some
returns-in-Some c =
    let is = first-found (λ (row : Row). bytes_eq row.origin c.args.origin.now) c.self.inside.rows.items 0
    c.in-Some.place.now (sym (c.self.invariant.1 c.args.origin.now) ∙ sym c.in-Some.ensures.value) in
    row-at c.args.origin.now c.self.inside.rows.items c.in-Some.place.now c.index.result.now is c.index.ensures
    ∙ ap (λ (table : List Row). row_of table c.args.origin.now) c.self.view_is

pub returns-in-None : goal.returns-in-None
returns-in-None c =
    sym (none-found (λ (row : Row). bytes_eq row.origin c.args.origin.now) c.self.inside.rows.items 0
    (sym (c.self.invariant.1 c.args.origin.now) ∙ sym c.in-None.ensures.value))
    ∙ ap (λ (table : List Row). row_of table c.args.origin.now) c.self.view_is
