use Rattle.std.proofs.Common.{ap, arith, drop}
use Rattle.std.proofs.lemmas.List.{drop_all}
use Rattle.value_headers.specs.declared.headers.Header.{Header}
use Rattle.script_lines.specs.Lines as spec
use Rattle.script_lines.proofs.ItemLemmas.{texts_from}
use Rattle.script_lines.proofs.KeptLemmas.{all_told, one_told}
use Rattle.script_lines.proofs.lines.tell_headers.Goals as goal

pub loop-index-preserved : goal.loop-index-preserved
loop-index-preserved g c =
    let header : Header = record { name = c.at.result.0.now; value = c.at.result.1.now } in
    one_told _ _ _ _ (spec.escaped_line (spec.header_line header)) _ c.loop-index.invariant
    (texts_from (λ (header : Header). spec.escaped_line (spec.header_line header)) c.args.headers.now
    c.loop-index.index header c.at.ensures)
    c.in_ok-tell_header.ensures

pub returns : goal.returns
returns g c =
    all_told _ _ (spec.header_lines (drop c.loop-index.index c.args.headers.now)) c.loop-index.invariant
    (ap spec.header_lines (drop_all c.loop-index.index c.args.headers.now
    (omega (arith, c.loop-index-test.false, c.len-index-end.ensures))))
