use Rattle.std.proofs.Common.{ℕ, List, Bor, ◌∙◌, ap, arith}
use Rattle.std.specs.Prelude.{option_map}
use Rattle.script_filling.specs.Results.{lent_result, value_of}
use Rattle.script_filling.proofs.FillingLemmas.{cut-grown, cut-whole}
use Rattle.script_filling.proofs.filling.fill_first.Goals as goal
use Rattle.script_filling.proofs.filling.fill_first.Goals.{in-Some+then-len-most, in_default}

pub returns : goal.returns
returns c = c.from_vec.ensures ∙ c.truncate.ensures.items ∙ elim c.match-rest.branch [
  | in-Some+then-len-most w ↦ cut-grown c.args.most (value_of (lent_result c.args.last)) c.args.template.now
      c.loop-rest.text.items (option_map (λ (r : Bor (List ℕ)). r.now) c.loop-rest.rest) c.loop-rest.invariant
      (omega (arith, w.len.ensures, w.if-len-most.true, c.loop-rest.text.ok.0))
  | in_default w ↦ cut-whole c.args.most (value_of (lent_result c.args.last)) c.args.template.now c.loop-rest.text.items
      (option_map (λ (r : Bor (List ℕ)). r.now) c.loop-rest.rest) c.loop-rest.invariant
      (ap (option_map (λ (r : Bor (List ℕ)). r.now)) w.in_default.is)
]
