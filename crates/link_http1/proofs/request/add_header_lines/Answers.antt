use Rattle.std.proofs.Common.{◌≡◌, ◌++◌, ◌∙◌, ◌∷◌, [], ℕ, List, Some, add-one, ap, append_assoc, drop, suc, sym, zero}
use Rattle.std.specs.List.{flat_map, slice_get}
use Rattle.value_headers.specs.declared.headers.Header.{Header}
use Rattle.link_http1.specs.Requests.{header_line}
use Rattle.link_http1.proofs.request.add_header_lines.Goals as goal

-- the line of the header at an index, and those after it
lines-drop : (headers : List Header) (i : ℕ) (header : Header) → slice_get headers i ≡ Some header
    → flat_map header_line (drop i headers) ≡ header_line header ++ flat_map header_line (drop (suc i) headers)
lines-drop [] i header is = cc
lines-drop (first ∷ headers) zero header is =
    let same : first ≡ header = cc in
    ap (λ (h : Header). header_line h ++ flat_map header_line headers) same
lines-drop (first ∷ headers) (suc i) header is = lines-drop headers i header is

pub loop-index-preserved : goal.loop-index-preserved
loop-index-preserved c =
    let headers = c.args.headers.now in
    let header : Header = record { name = c.at.result.0.now; value = c.at.result.1.now } in
    let rest = flat_map header_line (drop (suc c.loop-index.index) headers) in
    let here = lines-drop headers c.loop-index.index header c.at.ensures in
    rw (add-one, c.in_ok-add_header_line.ensures)
    (c.loop-index.invariant ∙ ap (λ (l : List ℕ). c.loop-index.text.items ++ l) here
    ∙ sym (append_assoc c.loop-index.text.items (header_line header) rest))
