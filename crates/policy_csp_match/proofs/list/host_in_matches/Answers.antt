use Rattle.std.proofs.Common.{sym}
use Rattle.policy_csp_match.specs.Matching.{host_part_matches, path_matches, port_part_matches, scheme_matches}
use Rattle.policy_csp_match.specs.Private.Places.{host_in}
use Rattle.policy_csp_match.proofs.PartLemmas.{host-decided}
use Rattle.policy_csp_match.proofs.list.host_in_matches.Goals as goal

pub returns-then-host_part_matches : goal.returns-then-host_part_matches
returns-then-host_part_matches c =
    let source = host_in c.args.text.now c.args.place.now in
    rw (c.other_parts_match.ensures, c.host_in.ensures)
    (host-decided (scheme_matches source.scheme c.args.url.now c.args.document.now)
    (host_part_matches source.host c.args.url.now) (port_part_matches source.port c.args.url.now)
    (path_matches source.path c.args.url.now c.args.redirects)
    (rw (← c.front.ensures, ← c.requires) (sym c.if-host_part_matches.ensures)))
