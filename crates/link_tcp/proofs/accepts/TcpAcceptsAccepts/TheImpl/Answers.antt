-- What is not told holds, whatever a call answers.
use Rattle.std.proofs.Common.{refl, Result, Ok, Err}
use Rattle.std.specs.Prelude.{IfOk}
use Rattle.value_lemmas.proofs.Options.{OnErr-from}
use Rattle.link_tcp.proofs.accepts.TcpAcceptsAccepts.TheImpl.Goals as goal

always-ok : {T E : Type 0} {P : T → Type 0} → (result : Result T E) → ((value : T) → P value) → IfOk result P
always-ok (Ok value) each = each value
always-ok (Err error) each = tt

pub listen-tells : goal.listen-tells
listen-tells g c = record {
  opened = always-ok c.result (λ _. tt);
  failed = OnErr-from c.result refl;
  coming = refl;
  lent = refl;
  cause = c.ensures.cause;
}

pub next-tells : goal.next-tells
next-tells g c = record {
  gave = always-ok c.result (λ _. tt);
  lent = always-ok c.result (λ _. refl);
  failed = OnErr-from c.result refl;
  kept = OnErr-from c.result refl;
  opened = refl;
  cause = c.ensures.cause;
}
