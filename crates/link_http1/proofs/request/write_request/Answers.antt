use Rattle.std.proofs.Common.{◌≡◌, ℕ, List, [], ◌++◌, ap, ◌∙◌, append_assoc}
use Rattle.std.specs.List.{flat_map}
use Rattle.std.specs.Prelude.{codes, unwrap_or}
use Rattle.link_http1.specs.Requests.{header_line, request_line}
use Rattle.link_http1.proofs.request.write_request.Goals as goal

-- four parts, each added after the one before
in-four : (a b c d s t u w : List ℕ) → s ≡ [] ++ a → t ≡ s ++ b → u ≡ t ++ c → w ≡ u ++ d → w ≡ a ++ (b ++ (c ++ d))
in-four a b c d s t u w one two three four =
    four ∙ ap (λ (l : List ℕ). l ++ d) (three ∙ ap (λ (l : List ℕ). l ++ c) (two ∙ ap (λ (l : List ℕ). l ++ b) one))
    ∙ append_assoc (a ++ b) c d ∙ append_assoc a b (c ++ d)

pub returns : goal.returns
returns c =
    let hop = c.args.hop.now in
    c.from_vec.ensures
    ∙ in-four (request_line hop) (flat_map header_line hop.headers) (codes "\r\n") (unwrap_or hop.body [])
    c.add_request_line.new.text.items c.add_header_lines.new.text.items c.extend_from_slice.new.self.items
    c.add_body.new.text.items
    (c.in_ok-add_request_line.ensures ∙ ap (λ (l : List ℕ). l ++ request_line hop) c.in_ok-text.ensures.items)
    c.in_ok-add_header_lines.ensures
    c.in_ok-extend_from_slice.ensures.items c.in_ok-add_body.ensures
