use Rattle.std.proofs.Common.{IsTrue, ap, subst, sym}
use Rattle.value_text.proofs.SpaceLemmas.{token-lacks_space}
use Rattle.value_text.specs.Ascii.{lacks_space}
use Rattle.value_requests.specs.declared.hop.Hop.{Hop}
use Rattle.fetch_definitions.specs.Then.{Context}
use Rattle.fetch_machine.proofs.http.send.Goals as goal

pub sending-requires-clause-plain : goal.sending-requires-clause-plain
sending-requires-clause-plain c = (
  subst (λ (h : Hop). IsTrue (lacks_space h.method)) (sym c.in_ok-hop.ensures.hop)
      (rw c.deref.ensures
      (token-lacks_space c.args.level.request.value.method c.args.level.valid.method)),
  c.in_ok-hop.ensures.target,
)

pub returns : goal.returns
returns c =
    let cookies = ap (λ (x : Context). x.cookies) c.context.view_is in
    rw (c.in_ok-hop.ensures.hop, c.deref.ensures, cookies) at c.sending.ensures
