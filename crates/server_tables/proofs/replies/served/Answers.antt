use Rattle.std.proofs.Common.{ap, sym, ◌∙◌, ◌++◌, List, ℕ, codes, []}
use Rattle.std.specs.List.{flat_map}
use Rattle.link_http1.specs.Requests.{header_line}
use Rattle.server_tables.specs.Served.{body_for, granted}
use Rattle.server_tables.proofs.ReplyLemmas.{in-four, served-bytes}
use Rattle.server_tables.proofs.replies.served.Goals as goal

pub returns : goal.returns
returns c =
    let row = c.args.row.now in
    let method = c.args.method.now in
    let bytes = c.from_vec.ensures
    ∙ in-four [] (codes "HTTP/1.1 200 Served\r\n") (flat_map header_line (granted row))
    (codes "Content-Length: 2\r\n\r\n") (body_for method)
    c.extend_from_slice.new.self.items c.add_granted.new.text.items c.extend_from_slice-2.new.self.items
    c.extend_from_slice-3.new.self.items
    (c.in_ok-extend_from_slice.ensures.items
    ∙ ap (λ (l : List ℕ). l ++ codes "HTTP/1.1 200 Served\r\n") c.in_ok-text.ensures.items)
    c.in_ok-add_granted.ensures c.in_ok-extend_from_slice-2.ensures.items
    (c.in_ok-extend_from_slice-3.ensures.items
    ∙ ap (λ (l : List ℕ). c.extend_from_slice-2.new.self.items ++ l) c.body_for.ensures)
    ∙ sym (served-bytes row method) in
    λ i. record { status = 200; bytes = bytes i }
