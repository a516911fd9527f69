-- Which address was opened, and which ends were given, where it is told. Those taken back are told as links are.
use Rattle.std.specs.Prelude.{◌≡◌, List, ◌∷◌, Option, Some, None}
use Rattle.value_text.specs.Texts.{Text}

-- the address is open, where none was before: what comes of listening once more nothing says
abbrev pub Opened : Option (Option Text) → Option (Option Text) → Text → Type 0
Opened (Some None) new address = new ≡ Some (Some address)
Opened _ new address = Unit {0}

-- of the ends to come the first was given
abbrev pub GaveFirst : {End : Type 0} → Option (List End) → Option (List End) → End → Type 0
GaveFirst None new given = Unit {0}
GaveFirst (Some old) new given = (later : List _) × (new ≡ Some later) × (old ≡ given ∷ later)
