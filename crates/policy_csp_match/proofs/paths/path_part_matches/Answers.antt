use Rattle.std.proofs.Common.{◌∙◌}
use Rattle.policy_csp_match.proofs.PieceLemmas.{walks_before_slash}
use Rattle.policy_csp_match.proofs.paths.path_part_matches.Goals as goal

pub returns-in-Some : goal.returns-in-Some
returns-in-Some c =
    c.walks.ensures ∙ walks_before_slash _ _ c.args.url_path.now c.in-Some.ensures.cases.0 c.in-Some.ensures.cases.1
