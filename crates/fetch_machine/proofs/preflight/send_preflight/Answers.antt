use Rattle.std.proofs.Common.{◌∙◌, ap}
use Rattle.policy_preflight.specs.Preflight.{preflight_of}
use Rattle.fetch_machine.proofs.preflight.send_preflight.Goals as goal

pub returns : goal.returns
returns c =
    let hop = rw (c.deref.ensures, c.deref-2.ensures) at
    (c.in_ok-hop.ensures.hop ∙ ap (preflight_of c.deref-2.result.now) c.in_ok-names.ensures.names) in
    rw hop at c.sending.ensures
