use Rattle.std.proofs.Common.{ap, sym, ◌∙◌, ◌++◌, ◌≡◌, Bool, List, ℕ, codes}
use Rattle.std.specs.List.{flat_map}
use Rattle.value_lemmas.proofs.Lists.{append-three}
use Rattle.link_http1.specs.Requests.{header_line}
use Rattle.server_tables.specs.Served.{granted}
use Rattle.server_tables.specs.declared.table.Row.{Row}
use Rattle.server_tables.proofs.ReplyLemmas.{credentials_bytes, granted-bytes, in-four}
use Rattle.server_tables.proofs.replies.add_granted.Goals as goal

-- the parts are the headers that are granted
are-granted : (row : Row) (credentials : Bool) → row.credentials ≡ credentials
    → codes "Vary: Origin\r\nAccess-Control-Allow-Origin: "
    ++ (row.origin ++ (codes "\r\n" ++ credentials_bytes credentials)) ≡ flat_map header_line (granted row)
are-granted row credentials is =
    ap (λ (b : Bool). codes "Vary: Origin\r\nAccess-Control-Allow-Origin: "
    ++ (row.origin ++ (codes "\r\n" ++ credentials_bytes b))) (sym is)
    ∙ sym (granted-bytes row.origin row.methods row.names row.credentials)

pub returns-in_ok-extend_from_slice-4 : goal.returns-in_ok-extend_from_slice-4
returns-in_ok-extend_from_slice-4 c =
    in-four c.args.text.now.items _ c.args.row.now.origin _ _ c.extend_from_slice.new.self.items
    c.extend_from_slice-2.new.self.items c.extend_from_slice-3.new.self.items
    c.extend_from_slice-then-row.new.self.items c.in_ok-extend_from_slice.ensures.items
    (c.in_ok-extend_from_slice-2.ensures.items
    ∙ ap (λ (l : List ℕ). c.extend_from_slice.new.self.items ++ l) c.as_slice.ensures)
    c.in_ok-extend_from_slice-3.ensures.items c.in_ok-extend_from_slice-4.ensures.items
    ∙ ap (λ (l : List ℕ). c.args.text.now.items ++ l) (are-granted c.args.row.now _ c.if-row.true)

pub returns-else-row : goal.returns-else-row
returns-else-row c =
    append-three c.args.text.now.items _ c.args.row.now.origin _ c.extend_from_slice.new.self.items
    c.extend_from_slice-2.new.self.items c.extend_from_slice-3.new.self.items
    c.in_ok-extend_from_slice.ensures.items
    (c.in_ok-extend_from_slice-2.ensures.items
    ∙ ap (λ (l : List ℕ). c.extend_from_slice.new.self.items ++ l) c.as_slice.ensures)
    c.in_ok-extend_from_slice-3.ensures.items
    ∙ ap (λ (l : List ℕ). c.args.text.now.items ++ l) (are-granted c.args.row.now _ c.if-row.false)
