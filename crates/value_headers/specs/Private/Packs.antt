-- How headers are packed: the bytes of all, one header behind the other, and where each is.
use Rattle.std.specs.Prelude.{◌≤◌, ◌-◌, ℕ, take, drop}
use Rattle.value_text.specs.Texts.{Text}
use Rattle.value_headers.specs.declared.headers.Header.{Header}
use Rattle.value_headers.specs.declared.packed.Place.{Place}

-- the header at a place
abbrev pub header_at : Text → Place → Header
header_at bytes place = record {
  name = take (place.middle - place.start) (drop place.start bytes);
  value = take (place.end - place.middle) (drop place.middle bytes);
}

-- a place within so many bytes
abbrev pub IsWithin : ℕ → Place → Type 0
IsWithin count place = (place.start ≤ place.middle) × ((place.middle ≤ place.end) × (place.end ≤ count))
