-- What it is that a call answers: an answer, or a refusal of what it was given. Want of memory alone is free.
use Rattle.std.specs.Prelude.{◌≡◌, ◌≢◌, Result, Ok, Err}
use Rattle.c_rules.specs.declared.refusal.Refusal.{Refusal}
use Rattle.c_rules.specs.declared.refusal.Refusal.TheVariants.{OutOfMemory}

-- the result is this answer, unless memory was refused
abbrev pub IsUnlessMemory : {X : Type 0} → Result X Refusal → Result X Refusal → Type 0
IsUnlessMemory (Ok x) answer = answer ≡ Ok x
IsUnlessMemory (Err refusal) answer = refusal ≢ OutOfMemory → answer ≡ Err refusal

-- what follows from an answer; a refusal stays
abbrev pub and_then : {X Y : Type 0} → Result X Refusal → (X → Result Y Refusal) → Result Y Refusal
and_then (Ok x) next = next x
and_then (Err refusal) next = Err refusal
