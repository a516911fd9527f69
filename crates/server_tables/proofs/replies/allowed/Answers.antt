use Rattle.std.proofs.Common.{ap, sym, ◌∙◌, ◌++◌, List, ℕ, codes, []}
use Rattle.std.specs.List.{flat_map}
use Rattle.link_http1.specs.Requests.{header_line}
use Rattle.server_tables.specs.Served.{granted, list_header}
use Rattle.server_tables.proofs.ReplyLemmas.{allowed-bytes, in-five, methods_header, names_header}
use Rattle.server_tables.proofs.replies.allowed.Goals as goal

pub returns : goal.returns
returns c =
    let row = c.args.row.now in
    let bytes = c.from_vec.ensures
    ∙ in-five [] (codes "HTTP/1.1 204 Allowed\r\n") (flat_map header_line (granted row))
    (flat_map header_line (methods_header row)) (flat_map header_line (names_header row)) (codes "\r\n")
    c.extend_from_slice.new.self.items c.add_granted.new.text.items c.add_list_header.new.text.items
    c.add_list_header-2.new.text.items c.extend_from_slice-2.new.self.items
    (c.in_ok-extend_from_slice.ensures.items
    ∙ ap (λ (l : List ℕ). l ++ codes "HTTP/1.1 204 Allowed\r\n") c.in_ok-text.ensures.items)
    c.in_ok-add_granted.ensures
    (c.in_ok-add_list_header.ensures
    ∙ ap (λ (l : List (List ℕ)). c.add_granted.new.text.items
    ++ flat_map header_line (list_header (codes "Access-Control-Allow-Methods") l)) c.as_slice.ensures)
    (c.in_ok-add_list_header-2.ensures
    ∙ ap (λ (l : List (List ℕ)). c.add_list_header.new.text.items
    ++ flat_map header_line (list_header (codes "Access-Control-Allow-Headers") l)) c.as_slice-2.ensures)
    c.in_ok-extend_from_slice-2.ensures.items
    ∙ sym (allowed-bytes row) in
    λ i. record { status = 204; bytes = bytes i }
