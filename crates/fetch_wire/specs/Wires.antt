-- A wire over a link as an exchange.
use Rattle.std.specs.Prelude.{◌++◌, slice_range, Option, option_map}
use Rattle.value_text.specs.Texts.{Text}
use Rattle.link_http1.specs.Requests.{request_bytes}
use Rattle.link_traits.specs.Links.{Serves, LinkTold}
use Rattle.fetch_wire.specs.declared.wire.Wire.{Wire}
use Rattle.fetch_wire.specs.Exchanges.{Answering, Exchange}

-- a link answers the bytes of a request, by the origin of its target
abbrev pub over_link : {State : Type 0} → Serves State → Answering State
over_link serves = record {
  answer = λ state hop. serves.answer state hop.origin (request_bytes hop);
  next = λ state hop. serves.next state hop.origin (request_bytes hop);
}

-- the bytes that were received and not yet read
abbrev pub window_of : Wire → Text
window_of wire = slice_range wire.buffer.items wire.from wire.to

-- these bytes, and then what a link has left, where it tells
abbrev pub onto_left : Text → Option Text → Option Text
onto_left window left = option_map (λ rest. window ++ rest) left

-- the bytes to come, where the link tells: those that were received, and then what it has left
abbrev pub coming_of : Option Text → Wire → Option Text
coming_of left wire = onto_left (window_of wire) left

-- what the link tells of its state, the bytes to come, those that the link has left, how many bytes of each answer were
-- received, the framing, and the link's count of faults
abbrev pub exchange_of : {L State : Type 0} → (L → LinkTold State) → L → Wire → Exchange State
exchange_of told link wire = record {
  state = (told link).state;
  coming = coming_of (told link).left wire;
  left = (told link).left;
  received = (told link).received;
  framing = wire.framing;
  faults = (told link).faults;
}
