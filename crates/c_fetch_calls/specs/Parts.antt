-- The parts of acts and outcomes by their numbers.
use Rattle.std.specs.Prelude.{ℕ, ◌==◌, Option, Some, None, if◌then◌else◌}
use Rattle.c_fetch.specs.declared.amounts.Amount.{Amount}
use Rattle.c_fetch.specs.declared.amounts.Amount.TheVariants as amount
use Rattle.c_fetch.specs.declared.parts.Part.{Part}
use Rattle.c_fetch.specs.declared.parts.Part.TheVariants as part

-- the text of a number
abbrev pub part_numbered : ℕ → Option Part
part_numbered number =
    if number == 0 then Some part.Origin
    else if number == 1 then Some part.Url
    else if number == 2 then Some part.Method
    else if number == 3 then Some part.Body
    else if number == 4 then Some part.HeaderName
    else if number == 5 then Some part.HeaderValue
    else if number == 6 then Some part.Host
    else if number == 7 then Some part.Key
    else if number == 8 then Some part.Name
    else if number == 9 then Some part.Learnt
    else if number == 10 then Some part.Word
    else if number == 11 then Some part.Refused
    else None

-- the number of a number
abbrev pub amount_numbered : ℕ → Option Amount
amount_numbered number =
    if number == 0 then Some amount.Call
    else if number == 1 then Some amount.Time
    else if number == 2 then Some amount.Age
    else if number == 3 then Some amount.Subdomains
    else if number == 4 then Some amount.Include
    else if number == 5 then Some amount.Preflight
    else if number == 6 then Some amount.Policy
    else if number == 7 then Some amount.Enforced
    else if number == 8 then Some amount.Outcome
    else if number == 9 then Some amount.Status
    else if number == 10 then Some amount.Error
    else if number == 11 then Some amount.End
    else if number == 12 then Some amount.Count
    else if number == 13 then Some amount.Headers
    else if number == 14 then Some amount.Names
    else if number == 15 then Some amount.Methods
    else None
