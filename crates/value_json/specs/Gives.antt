-- What a function that reads a tree returns.
use Rattle.std.specs.Prelude.{◌≡◌, Result, Ok, Err}
use Rattle.value_text.specs.Texts.{Text}
use Rattle.value_json.specs.declared.refused.Refused.{Refused}
use Rattle.value_json.specs.declared.refused.Refused.TheVariants.{Memory, At}
use Rattle.value_json.specs.Reading.{Read, below}

-- the reading refuses this place, unless memory ran out
abbrev pub Refuses : {A : Type 0} → Refused → Read A → Type 0
Refuses Memory read = Unit {0}
Refuses (At place) read = read ≡ Err place

-- what a function returned is what the reading gives, unless memory ran out
abbrev pub Gives : {A : Type 0} → Result A Refused → Read A → Type 0
Gives (Ok x) read = read ≡ Ok x
Gives (Err refused) read = Refuses refused read

-- what a function returned, seen through `seen`, is what the reading gives, unless memory ran out
abbrev pub GivesAs : {X A : Type 0} → (X → A) → Result X Refused → Read A → Type 0
GivesAs seen (Ok x) read = read ≡ Ok (seen x)
GivesAs seen (Err refused) read = Refuses refused read

-- the second refusal is the first, under a segment, unless memory ran out
abbrev pub IsUnder : Text → Refused → Refused → Type 0
IsUnder segment refused Memory = Unit {0}
IsUnder segment Memory (At place) = ⊥
IsUnder segment (At inner) (At place) = place ≡ below segment inner
