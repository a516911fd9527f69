-- What a handle owns. Assumes nothing: these are definitions.
use base.Fml.{Fml, ftrue, ffalse}
use denote.RawPtr.{Ptr, block_ptr, null_ptr}
use Rattle.libc.specs.Heap.{chunk}
use Rattle.std.specs.Box.Ownership.{box_owns}
use Rattle.std.specs.declared.option.Option.{Option}
use Rattle.std.specs.declared.option.Option.TheVariants.{None, Some}
use Rattle.c_handle.specs.declared.thing.Thing.{Thing}
use Rattle.c_handle.specs.contracts.thing.Thing.{the_row}

-- nothing at null, and else the box of a thing, which the C library's heap gave
abbrev pub handle_owns : Ptr → Option Thing → Fml
handle_owns null_ptr None = ftrue
handle_owns null_ptr (Some _) = ffalse
handle_owns (block_ptr b o) None = ffalse
handle_owns (block_ptr b o) (Some thing) = box_owns chunk the_row (block_ptr b o) thing
