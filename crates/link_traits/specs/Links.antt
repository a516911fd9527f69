-- What a link was asked, how much of each answer it gave, and which links were made and taken back, where it is told.
use Rattle.std.specs.Prelude.{◌≡◌, ◌⊎◌, ℕ, ◌+◌, ◌-◌, ◌<◌, ◌==◌, List, [], ◌∷◌, ◌++◌, Option, Some, None, option_map}
use Rattle.std.specs.Prelude.{if◌then◌else◌}
use Rattle.value_text.specs.Texts.{Text}
use Rattle.link_traits.specs.Counts.{counted_on}
use Rattle.link_traits.specs.declared.target.Ask.{Ask}

-- What answers requests: in a state, the bytes of the answer of the target with this origin to a request, and the state
-- after such a request, whether its ask succeeded or failed.
pub record Serves (State : Type 0) : Type 0 where
  pub answer : State → Text → Text → Text
  pub next : State → Text → Text → State

-- What a link tells of itself: its state, the bytes of the current answer still to come, and what it was asked so far,
-- each where told; how many bytes of each answer were received, where told: a number for each ask that succeeded, in
-- order, which begins at 0 and stops at its greatest value (an ask that failed may have added a number too, or not);
-- and how often it failed.
pub record LinkTold (State : Type 0) : Type 0 where
  pub state : Option State
  pub left : Option Text
  pub asks : Option (List Ask)
  pub received : Option (List ℕ)
  pub faults : ℕ

-- how often a link failed, as it tells
abbrev pub faults_told : {L State : Type 0} → (L → LinkTold State) → L → ℕ
faults_told told link = (told link).faults

-- the asks grew by this one
abbrev pub Asked : Option (List Ask) → Option (List Ask) → Ask → Type 0
Asked None new ask = Unit {0}
Asked (Some old) new ask = new ≡ Some (old ++ ask ∷ [])

-- they grew by this one, or stayed
abbrev pub MayHaveAsked : Option (List Ask) → Option (List Ask) → Ask → Type 0
MayHaveAsked old new ask = Asked old new ask ⊎ (new ≡ old)

-- the counts of received bytes, one for each answer: an answer more, and none of it yet
abbrev pub with_answer : List ℕ → List ℕ
with_answer counts = counts ++ 0 ∷ []

-- so many bytes more of the last answer
abbrev pub with_bytes : ℕ → List ℕ → List ℕ
with_bytes more [] = []
with_bytes more (count ∷ []) = counted_on count more ∷ []
with_bytes more (count ∷ next ∷ counts) = count ∷ with_bytes more (next ∷ counts)

-- an answer more is to be received, where told
abbrev pub Awaits : Option (List ℕ) → Option (List ℕ) → Type 0
Awaits old new = new ≡ option_map with_answer old

-- so many bytes more of it were received, where told
abbrev pub Received : ℕ → Option (List ℕ) → Option (List ℕ) → Type 0
Received more old new = new ≡ option_map (with_bytes more) old

-- the link that was made is the one told
abbrev pub IsForetold : {Link : Type 0} → Option Link → Link → Type 0
IsForetold None link = Unit {0}
IsForetold (Some told) link = link ≡ told

-- the links taken back, and how many more are out
pub record Lendings (Link : Type 0) : Type 0 where
  pub back : List Link
  pub out : ℕ

-- a link more is out
abbrev pub one_out : {Link : Type 0} → Lendings Link → Lendings Link
one_out lent = record lent { out = lent.out + 1 }

-- of those out, this one is back
abbrev pub one_back : {Link : Type 0} → Lendings Link → Link → Lendings Link
one_back lent link = record { back = lent.back ++ link ∷ []; out = lent.out - 1 }

-- a link is kept where one is out
abbrev pub kept_back : {Link : Type 0} → Lendings Link → Link → Lendings Link
kept_back lent link = if lent.out == 0 then lent else one_back lent link

-- a link came back: where one was out, it is this one
abbrev pub TookBack : {Link : Type 0} → Option (Lendings Link) → Option (Lendings Link) → Link → Type 0
TookBack None new link = Unit {0}
TookBack (Some old) new link = 0 < old.out → new ≡ Some (one_back old link)
