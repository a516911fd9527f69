-- What a handle owns that holds neither a fetch nor policies says the same to every thread.
use mir.Raw.{raw}
use base.Fraction.{full_share}
use base.Fml.{Share}
use base.Shift.{Keyless}
use Prim.Native.Nat.{ℕ}
use denote.Builtin.{RawPtr}
use denote.Enum.Declared as E
use denote.Enum.Enum.{Enum}
use denote.Exit.{Exit, unchanged, leaves, hidden, under}
use denote.Memory.{lone, part_at, part_of, raw_all}
use denote.Param.Send.{IsSend, Quiet, QuietAt, SendAt, cell_keyless, enum_send_at, recorded_send_at}
use denote.Param.Send.{struct_send, struct_send_at, sendable}
use denote.RattleType.{RattleType}
use denote.RawPtr.{Ptr, block_ptr, null_ptr}
use denote.Struct.Field.{Field}
use denote.Hole.{as_row}
use denote.Struct.Owning.{shape, fields, to}
use denote.Struct.Struct.{exits_of}
use Rattle.libc.specs.Heap.{chunk-Keyless}
use Rattle.std.proofs.lemmas.Bool.{false≢true}
use Rattle.std.specs.Prelude.{IsTrue, Option, Some, None}
use Rattle.c_handle.proofs.found.Found.TheSendSync as found_sent
use Rattle.c_handle.specs.contracts.found.Found as found
use Rattle.c_fetch.proofs.asked.Asked.TheSendSync as asked_sent
use Rattle.c_fetch.proofs.settings.Settings.TheSendSync as settings_sent
use Rattle.c_fetch.specs.contracts.asked.Asked as asked
use Rattle.c_fetch.specs.contracts.settings.Settings as settings
use Rattle.book_calls.proofs.book.Book.TheSendSync as book_sent
use Rattle.book_calls.specs.contracts.book.Book as book
use Rattle.value_headers.proofs.headers.HeaderList.TheSendSync as headers_sent
use Rattle.value_headers.specs.contracts.headers.HeaderList as headers
use Rattle.c_handle.specs.contracts.handle.Handle.{the_type}
use Rattle.c_handle.specs.contracts.thing.Thing as thing
use Rattle.c_handle.specs.Crossing.{HandleCrosses, may_cross, is_known_to_cross}
use Rattle.c_handle.specs.Handle.{handle_owns}
use Rattle.c_handle.specs.declared.thing.Thing.{Thing}
use Rattle.c_handle.specs.declared.thing.Thing.TheVariants.{Headers, Book, Client, Request, Fetch}
use Rattle.c_handle.specs.declared.thing.Thing.TheVariants.{Policies, Violations}

part_sent : (R : RattleType) (y : R.Denot) → SendAt R y → (q : Share) (b o : ℕ) → Keyless (part_at R q y b o)
unfolding part_of
part_sent R y s q b o = λ vs. (cell_keyless q (raw_all R.mir) vs b o, s.0 vs)

quiet_through : {D X : Type 0} (to : D → X) (e : Exit X) (d : D) → QuietAt e (to d) → QuietAt (under to e) d
quiet_through to unchanged d q = λ w. tt
quiet_through to (leaves L l S s r₀) d q = q

field_sent : (F : Field) → IsSend (as_row F) → (v : F.Value) → SendAt F.row (F.into v)
field_sent F = recorded_send_at F.row F.Value F.into F.into_one

-- a thing says the same where the value of its variant does
as_thing : (d : Thing) → SendAt (Enum (E.shape thing.the_type)) ((thing.the_type).to d) → SendAt thing.the_row d
as_thing d s = (s.0, λ k. quiet_through (thing.the_type).to ((Enum (E.shape thing.the_type)).exit k) d (s.1 k))

headers_thing : (held : (headers.the_field).Value) → SendAt thing.the_row (Headers held)
headers_thing held = as_thing (Headers held)
    (enum_send_at (E.shape thing.the_type) ((thing.the_type).to (Headers held))
    (field_sent headers.the_field headers_sent.the_send held, tt))

book_thing : (held : (book.the_field).Value) → SendAt thing.the_row (Book held)
book_thing held = as_thing (Book held)
    (enum_send_at (E.shape thing.the_type) ((thing.the_type).to (Book held))
    (field_sent book.the_field book_sent.the_send held, tt))

settings_thing : (held : (settings.the_field).Value) → SendAt thing.the_row (Client held)
settings_thing held = as_thing (Client held)
    (enum_send_at (E.shape thing.the_type) ((thing.the_type).to (Client held))
    (field_sent settings.the_field settings_sent.the_send held, tt))

asked_thing : (held : (asked.the_field).Value) → SendAt thing.the_row (Request held)
asked_thing held = as_thing (Request held)
    (enum_send_at (E.shape thing.the_type) ((thing.the_type).to (Request held))
    (field_sent asked.the_field asked_sent.the_send held, tt))

found_thing : (held : (found.the_field).Value) → SendAt thing.the_row (Violations held)
found_thing held = as_thing (Violations held)
    (enum_send_at (E.shape thing.the_type) ((thing.the_type).to (Violations held))
    (field_sent found.the_field found_sent.the_send held, tt))

thing_sent : (x : Thing) → IsTrue (is_known_to_cross x) → SendAt thing.the_row x
thing_sent (Headers held) n = headers_thing held
thing_sent (Book held) n = book_thing held
thing_sent (Client held) n = settings_thing held
thing_sent (Request held) n = asked_thing held
thing_sent (Fetch held) n = absurd (false≢true n)
thing_sent (Policies held) n = absurd (false≢true n)
thing_sent (Violations held) n = found_thing held

owns : (p : Ptr) (k : Option Thing) → IsTrue (may_cross k) → Keyless (handle_owns p k)
owns null_ptr None n = tt
owns null_ptr (Some x) n = tt
owns (block_ptr b o) None n = tt
owns (block_ptr b o) (Some x) n = (
  part_sent thing.the_row x (thing_sent x n) full_share b o,
  chunk-Keyless (raw (lone (thing.the_row).mir)) (block_ptr b o),
)

quiet : {D X : Type 0} (to : D → X) (e : Exit X) → Quiet e → Quiet (hidden (under to e))
quiet to unchanged q = λ x w. tt
quiet to (leaves L l S s r₀) q = λ d. q (to d)

pub handle_sent : HandleCrosses
handle_sent h n = let ps : IsSend RawPtr = search sendable in (
  λ vs. (
    (struct_send_at (shape the_type) (to the_type h) ((ps.owned h.at, λ k. ps.leaving k h.at), tt)).0 vs,
    owns h.at h.held n,
  ),
  λ k. quiet (to the_type) (exits_of k (fields the_type)) ((struct_send (shape the_type) (ps, tt)).leaving k) h,
)
