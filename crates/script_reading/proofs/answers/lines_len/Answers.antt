use Rattle.std.proofs.Common.{List, ap, arith, length}
use Rattle.std.specs.List.{flat_map}
use Rattle.value_requests.specs.declared.init.Pair.{Pair}
use Rattle.script_reading.specs.Answers.{header_line}
use Rattle.std.proofs.lemmas.List.{drop_all}
use Rattle.script_reading.proofs.answers.lines_len.Goals as goal

pub returns : goal.returns
returns c =
    omega (
      arith,
      c.loop-header.invariant.0,
      c.loop-header.invariant.1,
      ap (λ (headers : List Pair). length (flat_map header_line headers))
          (drop_all c.loop-header.header-index c.args.headers.now c.loop-header-test.false),
    )
