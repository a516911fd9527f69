-- A handle that has the thing that it had.
use Rattle.std.proofs.Common.{◌≡◌, ap, Some}
use Rattle.c_handle.specs.Lending.{with_thing}
use Rattle.c_handle.specs.declared.handle.Handle.{Handle}
use Rattle.c_handle.specs.declared.thing.Thing.{Thing}

pub same_thing : (handle : Handle) (thing : Thing) → Some thing ≡ handle.held → with_thing handle thing ≡ handle
same_thing handle thing e = ap (λ held. record handle { held = held }) e
