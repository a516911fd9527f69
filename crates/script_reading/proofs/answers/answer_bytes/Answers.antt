use Rattle.std.proofs.Common.{◌∙◌, ◌++◌, ℕ, List, ap, codes}
use Rattle.std.specs.List.{flat_map}
use Rattle.script_reading.specs.Answers.{header_line}
use Rattle.script_reading.proofs.AnswerLemmas.{added-four}
use Rattle.script_reading.proofs.answers.answer_bytes.Goals as goal

pub returns : goal.returns
returns c =
    let line : List ℕ → List ℕ = λ number. codes "HTTP/1.1 " ++ (number ++ codes " Scripted\r\n") in
    let behind : List ℕ = flat_map header_line c.args.headers.now ++ (codes "\r\n" ++ c.args.body.now) in
    c.from_vec.ensures
    ∙ added-four (line c.as_bytes.result.now) (flat_map header_line c.args.headers.now) (codes "\r\n") c.args.body.now
    c.in_ok-text.text.items c.put_status_line.new.text.items c.put_headers.new.text.items
    c.extend_from_slice.new.self.items c.extend_from_slice-2.new.self.items
    c.in_ok-text.ensures.items c.in_ok-put_status_line.ensures c.in_ok-put_headers.ensures
    c.in_ok-extend_from_slice.ensures.items c.in_ok-extend_from_slice-2.ensures.items
    ∙ ap (λ (number : List ℕ). line number ++ behind) (c.as_bytes.ensures.value ∙ c.in_ok-status.ensures.ok)
