-- Counts of calls and of faults: each is a u64 that never falls and stops at its greatest value.
use Rattle.std.specs.Prelude.{◌≡◌, ℕ, Bool, ◌+◌, ◌-◌, ◌^◌, ◌≤◌, ◌==◌, min, List, Result, OnErr, OnOk}
use Rattle.std.specs.List.{list_any}

-- one more, or the greatest value
abbrev pub one_more : ℕ → ℕ
one_more count = min (count + 1) (2 ^ 64 - 1)

-- so many more, or the greatest value
abbrev pub grown_by : ℕ → ℕ → ℕ
grown_by count more = min (count + more) (2 ^ 64 - 1)

-- so many more, as far as there is room below the greatest value
abbrev pub counted_on : ℕ → ℕ → ℕ
counted_on count more = count + min more ((2 ^ 64 - 1) - count)

-- the count rose, or is at its greatest value
abbrev pub Rose : ℕ → ℕ → Type 0
Rose before now = one_more before ≤ now

-- The count rose by one where the call failed, or is at its greatest value; it is as it was where the call did not
-- fail.
pub record HasCause {T E : Type 0} (before now : ℕ) (result : Result T E) : Type 0 where
  pub later : before ≤ now
  pub failed : OnErr result (now ≡ one_more before)
  pub quiet : OnOk result (now ≡ before)

-- after so many calls, the next one's number is in the list
abbrev pub is_next_in : List ℕ → ℕ → Bool
is_next_in numbers calls = list_any (λ number. number == one_more calls) numbers
