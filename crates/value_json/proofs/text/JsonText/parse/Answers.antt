use Rattle.std.proofs.Common.{Option, Some, Err, sym, ap, ◌∙◌}
use Rattle.serde_json.specs.Data.{Data}
use Rattle.value_json.specs.Private.Taken.{is_taken}
use Rattle.value_json.proofs.DocumentLemmas.{document-of, no-document, taken-read, untaken-read}
use Rattle.value_json.proofs.TreeLemmas.{data-of}
use Rattle.value_json.proofs.text.JsonText.parse.Goals as goal

pub invariant_of-result : goal.invariant_of-result
invariant_of-result c =
    let text = c.args.text.now in
    let written = document-of text c.in-Ok.ensures.ok.1 in
    let taken = c.if-is_taken.ensures ∙ ap (is_taken 0) (c.nodes.ensures.tokens ∙ c.in-Ok.ensures.ok.0) in
    let read = taken-read text written.0 written.1 taken in
    (written.0, read.0, c.in-Ok.ensures.value written.0 written.1, read.1)

pub returns-then-is_taken : goal.returns-then-is_taken
returns-then-is_taken c =
    let text = c.args.text.now in
    let written = document-of text c.in-Ok.ensures.ok.1 in
    let taken = c.if-is_taken.ensures ∙ ap (is_taken 0) (c.nodes.ensures.tokens ∙ c.in-Ok.ensures.ok.0) in
    let read = taken-read text written.0 written.1 taken in
    ap (λ (d : Data). let o : Option Data = Some d in o)
    (data-of c.in-Ok.tape written.0 read.0 (c.in-Ok.ensures.value written.0 written.1) read.1) ∙ sym read.2

pub returns-in-Ok : goal.returns-in-Ok
returns-in-Ok c =
    let text = c.args.text.now in
    let written = document-of text c.in-Ok.ensures.ok.1 in
    let untaken = c.if-is_taken.ensures ∙ ap (is_taken 0) (c.nodes.ensures.tokens ∙ c.in-Ok.ensures.ok.0) in
    sym (untaken-read text written.0 written.1 untaken)

pub returns-in-Err-Invalid : goal.returns-in-Err-Invalid
returns-in-Err-Invalid c = sym (no-document c.args.text.now (c.in-Err-Invalid.ensures.invalid
    (ap Err c.in-Err-Invalid.field-0-is)))
