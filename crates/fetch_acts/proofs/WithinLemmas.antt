-- What a process costs at most, and what holds of its acts, over each tape.
use Rattle.std.proofs.Common.{◌≡◌, ℕ, Bool, true, false, ◌≤◌, List, [], ◌∷◌, refl, arith, cond}
use Rattle.std.proofs.lemmas.List.Sums.{sum_by-cons}
use Rattle.std.specs.List.{AllByRecursion, sum_by}
use Rattle.value_requests.specs.declared.request.Request.{Request}
use Rattle.fetch_acts.specs.Process.{Process, act, ended, fits, followed, run}
use Rattle.fetch_acts.specs.Within.{Anything, Within}
use Rattle.fetch_acts.specs.declared.act.Act.{Act}
use Rattle.fetch_acts.specs.declared.act.Input.{Input}

pub within-more : (cost : Act → ℕ) (Given : Input → Type 0) (P : Request → Act
    → Type 0) (most more : ℕ) (process : Process) → Within cost Given P most process → most ≤ more
    → Within cost Given P more process
within-more cost Given P most more (ended outcome) within le = tt
within-more cost Given P most more (act request first after) within le =
    (within.0, record { left = within.1.left; enough = omega (arith, within.1.enough); rest = within.1.rest })

-- what a run costs
followed-total : (cost : Act → ℕ) (left : ℕ) (first : Act) (after : Input
    → Process) (input : Input) (tape : List Input) (b : Bool) → fits first input ≡ b
    → sum_by cost (run (after input) tape).acts ≤ left
    → sum_by cost (followed first (λ i. run (after i)) (input ∷ tape)).acts ≤ left
followed-total cost left first after input tape true e le = rw e le
followed-total cost left first after input tape false e le = rw e (omega arith)

pub within-total : (cost : Act → ℕ) (Given : Input → Type 0) (P : Request → Act
    → Type 0) (most : ℕ) (process : Process) → Within cost Given P most process → (tape : List Input)
    → AllByRecursion Given tape → sum_by cost (run process tape).acts ≤ most
within-total cost Given P most (ended outcome) within tape given = omega arith
within-total cost Given P most (act request first after) within [] given = omega (arith, within.1.enough)
within-total cost Given P most (act request first after) within (input ∷ tape) given =
    omega (
      arith,
      within.1.enough,
      sum_by-cons cost first (followed first (λ i. run (after i)) (input ∷ tape)).acts,
      followed-total cost within.1.left first after input tape (fits first input) refl
          (within-total cost Given P within.1.left (after input) (within.1.rest input given.0) tape given.1),
    )

pub all-anything : (tape : List Input) → AllByRecursion Anything tape
all-anything [] = tt
all-anything (input ∷ tape) = (tt, all-anything tape)

-- what holds of each act of a run
followed-all : (Q : Act → Type 0) (first : Act) (after : Input
    → Process) (input : Input) (tape : List Input) (b : Bool) → fits first input ≡ b
    → AllByRecursion Q (run (after input) tape).acts
    → AllByRecursion Q (followed first (λ i. run (after i)) (input ∷ tape)).acts
followed-all Q first after input tape true e all = rw e all
followed-all Q first after input tape false e all = rw e tt

pub within-all : (cost : Act → ℕ) (Given : Input → Type 0) (P : Request → Act → Type 0) (Q : Act → Type 0)
    → ((request : Request) (first : Act) → P request first → Q first) → (most : ℕ) (process : Process)
    → Within cost Given P most process → (tape : List Input) → AllByRecursion Given tape
    → AllByRecursion Q (run process tape).acts
within-all cost Given P Q says most (ended outcome) within tape given = tt
within-all cost Given P Q says most (act request first after) within [] given = (says request first within.0, tt)
within-all cost Given P Q says most (act request first after) within (input ∷ tape) given = (
  says request first within.0,
  followed-all Q first after input tape (fits first input) refl
      (within-all cost Given P Q says within.1.left (after input) (within.1.rest input given.0) tape given.1),
)

-- a choice of two
pub within-if : (cost : Act → ℕ) (Given : Input → Type 0) (P : Request → Act
    → Type 0) (b : Bool) (most : ℕ) (p q : Process) → Within cost Given P most p → Within cost Given P most q
    → Within cost Given P most (cond b p q)
within-if cost Given P true most p q x y = x
within-if cost Given P false most p q x y = y
