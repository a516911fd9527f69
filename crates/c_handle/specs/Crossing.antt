-- Which handles a thread may hand to another.
use denote.Param.Send.{SendAt}
use Rattle.std.specs.Prelude.{Bool, true, false, IsTrue, Option, Some, None}
use Rattle.c_handle.specs.contracts.handle.Handle.{the_row}
use Rattle.c_handle.specs.declared.handle.Handle.{Handle}
use Rattle.c_handle.specs.declared.thing.Thing.{Thing}
use Rattle.c_handle.specs.declared.thing.Thing.TheVariants as thing

-- a thing of which it is proved: not of a fetch, and not of policies
abbrev pub is_known_to_cross : Thing → Bool
is_known_to_cross (thing.Fetch session) = false
is_known_to_cross (thing.Policies policies) = false
is_known_to_cross _ = true

-- the handle holds neither
abbrev pub may_cross : Option Thing → Bool
may_cross None = true
may_cross (Some held) = is_known_to_cross held

-- what a handle that holds neither owns says the same to every thread
abbrev pub HandleCrosses : Type 0
HandleCrosses = (handle : Handle) → IsTrue (may_cross handle.held) → SendAt the_row handle
