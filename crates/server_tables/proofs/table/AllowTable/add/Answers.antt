use Rattle.std.proofs.Common.{length, ap, not, sym, ◌∙◌, ◌++◌, ◌∷◌, []}
use Rattle.std.specs.Map.{lookup}
use Rattle.server_tables.specs.Private.Places.{is_key, place_of}
use Rattle.server_tables.proofs.PlaceLemmas.{none-got, placed-known, placed-new, some-got}
use Rattle.server_tables.proofs.table.AllowTable.add.Goals as goal
use Rattle.server_tables.proofs.table.AllowTable.add.Goals.{then-is_none+in_ok-origin+in_ok-insert, else-is_none}

pub invariant_of-self-2 : goal.invariant_of-self-2
invariant_of-self-2 c = elim c.if-is_none.branch [
  | then-is_none+in_ok-origin+in_ok-insert w ↦ (
    rw w.self-inside-is w.in_ok-insert.ensures.ordered,
    λ origin. ap (λ inside. lookup (is_key (λ key. key.items) origin) inside.places.entries) w.self-inside-is
        ∙ ap (λ entries. lookup (is_key (λ key. key.items) origin) entries) w.in_ok-insert.ensures.entries
        ∙ placed-new (λ key. key.items) c.self.inside.places.entries c.self.inside.rows.items c.args.row
        c.self.invariant.1 w.in_ok-origin.origin (length w.as_slice-then-is_none-2.result.now)
        (w.in_ok-origin.ensures.items ∙ w.as_slice-then-is_none.ensures)
        (ap length (w.as_slice-then-is_none-2.ensures.value ∙ c.reserve.ensures.items))
        (none-got c.get.result _ (rw c.as_slice.ensures at c.get.ensures.value)
        (c.is_none.ensures ∙ ap not w.if-is_none.true)) origin
        ∙ ap (place_of origin) (sym (c.push_reserved.ensures.items
        ∙ ap (λ inside. inside.rows.items ++ c.args.row ∷ []) w.self-inside-is
        ∙ ap (λ rows. rows ++ c.args.row ∷ []) c.reserve.ensures.items)),
  )
  | else-is_none w ↦ (
    rw w.self-inside-is c.self.invariant.0,
    λ origin. let found = some-got c.get.result _ (rw c.as_slice.ensures at c.get.ensures.value)
        (c.is_none.ensures ∙ ap not w.if-is_none.false) in
        ap (λ inside. lookup (is_key (λ key. key.items) origin) inside.places.entries) w.self-inside-is
        ∙ placed-known (λ key. key.items) c.self.inside.places.entries c.self.inside.rows.items c.args.row
        c.self.invariant.1 found.0 found.1 origin
        ∙ ap (place_of origin) (sym (c.push_reserved.ensures.items
        ∙ ap (λ inside. inside.rows.items ++ c.args.row ∷ []) w.self-inside-is
        ∙ ap (λ rows. rows ++ c.args.row ∷ []) c.reserve.ensures.items)),
  )
]
