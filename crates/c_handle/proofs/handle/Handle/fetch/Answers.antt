use Rattle.std.proofs.Common.{rules, ap}
use mathlib.Core.Logic.{inr}
use Rattle.c_handle.proofs.Kept.{same_thing}
use Rattle.c_handle.proofs.handle.Handle.fetch.Goals as goal

pub returns-in_default : goal.returns-in_default
returns-in_default c = (
  ap inr (same_thing _ _ c.in_ok-it.ensures.value),
  record { writes_back = tt; value = search (rules, c.in_ok-it.ensures.value) },
)
