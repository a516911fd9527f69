use Rattle.std.proofs.Common.{◌∙◌, ◌≤◌, ap, arith, sym}
use Rattle.std.specs.List.{range_with_len}
use Rattle.std.proofs.lemmas.List.Elements.{All-map}
use Rattle.std.proofs.lemmas.Simd.{map-map}
use Rattle.rows_fetches.proofs.seats.play_on.Goals as goal

pub play_all-requires-clause-seats : goal.play_all-requires-clause-seats
play_all-requires-clause-seats g c κs within = record {
  each = map-map _ _ c.args.seats.now.items ∙ c.requires.documents ∙ sym (ap (range_with_len 0) c.requires.two);
  calls = All-map (λ seat. 129024 ≤ seat.outside.left) _ c.args.seats.now.items
      (λ k d lt. omega (arith, c.requires.left k d lt));
}
