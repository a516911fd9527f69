use Rattle.std.proofs.Common.{◌++◌, ◌∙◌, ap, ℕ, List, Bor, Option}
use Rattle.std.specs.Prelude.{option_map}
use Rattle.script_scenarios.specs.Templates.{filled}
use Rattle.script_filling.specs.Results.{lent_result, value_of}
use Rattle.script_filling.proofs.ValueLemmas.{left, shortened, value-begins, value-ends, value-grows}
use Rattle.script_filling.proofs.filling.fill_value.Goals as goal

pub loop-rest-init : goal.loop-rest-init
loop-rest-init c =
    value-begins (value_of (lent_result c.args.last)) c.args.template.now c.next_piece.result.0.now c.in_ok-text.text.items
    (option_map (λ (r : Bor (List ℕ)). r.now) c.next_piece.result.1) c.next_piece.ensures.pieces c.in_ok-text.ensures.items

pub loop-rest-preserved : goal.loop-rest-preserved
loop-rest-preserved c =
    value-grows (value_of (lent_result c.args.last)) (filled (value_of (lent_result c.args.last)) c.args.template.now)
    c.loop-rest.text.items c.in-Some.behind.now c.next_piece-in-Some.result.0.now c.add_placed.new.text.items
    c.in_ok-text-2.text.items (option_map (λ (r : Bor (List ℕ)). r.now) c.next_piece-in-Some.result.1)
    (c.loop-rest.invariant
    ∙ ap (λ (r : Option (Bor (List ℕ))). shortened (c.loop-rest.text.items
    ++ left (value_of (lent_result c.args.last)) (option_map (λ (b : Bor (List ℕ)). b.now) r))) c.in-Some.is)
    c.next_piece-in-Some.ensures.pieces c.in_ok-add_placed.ensures c.in_ok-text-2.ensures

pub returns : goal.returns
returns c =
    ap shortened c.from_vec.ensures
    ∙ value-ends (value_of (lent_result c.args.last)) (filled (value_of (lent_result c.args.last)) c.args.template.now)
    c.loop-rest.text.items (option_map (λ (r : Bor (List ℕ)). r.now) c.loop-rest.rest) c.loop-rest.invariant
    (ap (λ (r : Option (Bor (List ℕ))). option_map (λ (b : Bor (List ℕ)). b.now) r) c.in_default.is)
