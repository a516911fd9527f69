-- From where on the tokens of a JSON text can be looked into.
use Rattle.std.specs.Prelude.{◌≡◌, List, Some}
use Rattle.json.specs.Token.{Token}
use Rattle.json.specs.Json as json
use Rattle.json.specs.Find.{BeginsWith, InItems}
use Rattle.serde_json.specs.Data.{Data, Items}
use Rattle.serde_json.specs.Read.{of_json, of_items}

-- the tokens begin with a value that has a meaning
abbrev pub IsTree : List Token → Type 0
IsTree tokens =
    (written : json.Json) × (meaning : Data) × BeginsWith tokens written × (of_json written ≡ Some meaning)

-- the tokens begin with items that have meanings, and the bracket behind them
abbrev pub AreTrees : List Token → Type 0
AreTrees tokens =
    (written : json.Items) × (meanings : Items) × InItems tokens written × (of_items written ≡ Some meanings)
