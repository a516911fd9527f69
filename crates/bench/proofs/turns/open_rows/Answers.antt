use Rattle.std.proofs.Common.{rules, ◌≡◌, ℕ, [], ◌∷◌, ◌++◌, Bool, cond, ap, arith, ne_eqb}
use Rattle.std.specs.Prelude.{◌==◌}
use Rattle.std.proofs.lemmas.List.Elements.{All-push, All-same}
use Rattle.std.proofs.lemmas.List.Sums.{sum_by-cons}
use Rattle.book_turns.specs.Counts.{times}
use Rattle.book_turns.specs.Passes.{left_of, made_of}
use Rattle.book_turns.specs.declared.pass.TurnPass.{TurnPass}
use Rattle.bench.specs.declared.turns.Played.{Played}
use Rattle.bench.proofs.turns.open_rows.Goals as goal

pub loop-document-preserved : goal.loop-document-preserved
loop-document-preserved c =
    let i = c.loop-document.invariant in
    let e = c.in_ok-pass.ensures in
    let rows = c.loop-document.rows.items in
    let document = c.loop-document.document in
    let row : Played TurnPass = record { pass = c.in_ok-pass.pass; answered = 0 } in
    let IsNew : Played TurnPass → Type 0 =
    λ r. (r.pass.seat.table_id ≡ c.args.book.now.table.shared.table_id) × (left_of r.pass ≡ 4294967295) in
    record {
      belongs = search rules;
      first = search rules;
      fresh = λ d past. omega (
        arith,
        past,
        i.fresh d (omega (arith, past)),
        ap (times d) e.made,
        sum_by-cons (λ (x : ℕ). cond (x == d) 1 0) document (made_of c.loop-document.first),
        ap {B = ℕ} (λ (b : Bool). cond b 1 0) (ne_eqb document d (λ same. omega (arith, same, past))),
      );
      rows = All-same IsNew c.push.new.self.items (rows ++ row ∷ []) c.in_ok-push.ensures.items
          (All-push IsNew rows row i.rows (e.belongs.1, e.new.4));
    }
