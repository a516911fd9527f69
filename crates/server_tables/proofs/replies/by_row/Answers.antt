use Rattle.std.proofs.Common.{◌≡◌, ◌∙◌, ap, sym, subst, List, ℕ}
use Rattle.std.specs.Prelude.{IfOk}
use Rattle.server_tables.specs.Private.Written.{written}
use Rattle.server_tables.specs.Served.{Reply, served}
use Rattle.server_tables.specs.Tables.{lists}
use Rattle.server_tables.proofs.ReplyLemmas.{by-listed, by-unlisted}
use Rattle.server_tables.proofs.replies.by_row.Goals as goal

pub returns-then-has_text : goal.returns-then-has_text
returns-then-has_text c =
    let is = c.if-has_text.ensures
    ∙ ap (λ (l : List (List ℕ)). lists l c.as_slice-else-is_preflight.result.now) c.as_slice.ensures
    ∙ ap (lists c.args.row.now.methods) c.as_slice-else-is_preflight.ensures in
    subst (λ (reply : Reply). IfOk c.served.result (λ made. made ≡ written reply))
    (sym (by-listed c.args.row.now c.args.asked.now (sym c.if-is_preflight.ensures) (sym is)))
    (subst (λ (method : List ℕ). IfOk c.served.result (λ made. made ≡ written (served c.args.row.now method)))
    c.as_slice-then-has_text.ensures c.served.ensures)

pub returns-else-has_text : goal.returns-else-has_text
returns-else-has_text c =
    let is = c.if-has_text.ensures
    ∙ ap (λ (l : List (List ℕ)). lists l c.as_slice-else-is_preflight.result.now) c.as_slice.ensures
    ∙ ap (lists c.args.row.now.methods) c.as_slice-else-is_preflight.ensures in
    subst (λ (reply : Reply). IfOk c.refused.result (λ made. made ≡ written reply))
    (sym (by-unlisted c.args.row.now c.args.asked.now (sym c.if-is_preflight.ensures) (sym is))) c.refused.ensures
