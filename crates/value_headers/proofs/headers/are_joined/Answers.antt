use Rattle.std.proofs.Common.{arith, ◌+◌, drop}
use Rattle.std.proofs.lemmas.Grind.{common_steps}
use Rattle.value_headers.specs.Headers.{values_of}
use Rattle.value_headers.proofs.JoinLemmas.{is_rest-more, is_rest-none}
use Rattle.value_headers.proofs.headers.are_joined.Goals as goal
use Rattle.value_headers.proofs.headers.are_joined.Goals.{then-eq_fold+in-Some, else-eq_fold}

pub returns-in_default : goal.returns-in_default
returns-in_default c =
    let left = values_of c.args.name.now (drop (c.loop-header.header-index + 1) c.args.headers.now) in
    let none = is_rest-none c.loop-header.found c.loop-header.rest.now c.value.result.now left
    c.in_default.ensures in
    grind (arith, common_steps, none, c.value.ensures)

pub loop-header-preserved : goal.loop-header-preserved
loop-header-preserved c =
    let left = values_of c.args.name.now (drop (c.loop-header.header-index + 1) c.args.headers.now) in
    elim c.if-eq_fold.branch [
      | then-eq_fold+in-Some w ↦
          let more = is_rest-more c.loop-header.found c.loop-header.rest.now w.value.result.now
          w.in-Some.after.now left w.in-Some.ensures in
          grind (arith, common_steps, more, w.value.ensures)
      | else-eq_fold w ↦ grind (arith, common_steps)
    ]
