use Rattle.std.proofs.Common.{◌≡◌, ◌++◌, drop}
use Rattle.std.specs.List.{flat_map}
use Rattle.link_http1.specs.Requests.{header_line}
use Rattle.link_http1.proofs.request.add_header_lines.Given as goal

abbrev pub invariant-loop-index : goal.invariant-loop-index
invariant-loop-index l = l.fn.text.items ++ flat_map header_line l.headers ≡ l.text.items
    ++ flat_map header_line (drop l.index l.headers)
