use Rattle.std.proofs.Common.{ap, sym, ◌∙◌}
use Rattle.std.specs.Option.{option_copied}
use Rattle.policy_preflight.specs.Verdict.{covers_all, has_name}
use Rattle.policy_preflight.proofs.RefusedLemmas.{find-covered, find-listed}
use Rattle.policy_preflight.proofs.answer.first_refused.Goals as goal

pub returns-in-None : goal.returns-in-None
returns-in-None c =
    sym (find-listed (λ name. has_name name c.args.names.now) (covers_all c.args.credentials c.args.names.now)
    c.args.unsafe_names.now
    (sym c.in_ok-first_unlisted.ensures ∙ ap option_copied c.in-None.is))

pub returns-in-Some : goal.returns-in-Some
returns-in-Some c =
    sym (find-covered (λ name. has_name name c.args.names.now) (covers_all c.args.credentials c.args.names.now)
    (sym c.covers_all.ensures ∙ c.if-covers_all.true) c.args.unsafe_names.now)
