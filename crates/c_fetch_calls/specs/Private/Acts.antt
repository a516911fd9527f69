-- One act of a fetch without the network.
use Rattle.std.specs.Prelude.{◌≡◌, ◌⊎◌, Bool, true, false, Option, Some, None}
use Rattle.c_fetch_calls.specs.Judging.{Judged, is_alone, one_more}
use Rattle.c_fetch_calls.specs.Terms.{Act, Book, act_of}
use Rattle.fetch_acts.specs.declared.act.Act.TheVariants.{Tell}
use Rattle.value_requests.specs.declared.policy.Violation.{Violation}

-- the violation of which an act tells
abbrev pub violation_in : Option Act → Option Violation
violation_in (Some (Tell violation)) = Some violation
violation_in _ = None

-- what was next was done; or it rests, since that needs the network
abbrev pub IsDone : Bool → Judged → Judged → Type 0
IsDone false old new = new ≡ one_more old
IsDone true old new = (new ≡ old) × (is_alone (act_of old.standing) ≡ false)

-- it was cut off at what was next, which the book has done, or not
abbrev pub IsCutThere : Judged → Book → Type 0
IsCutThere old book = (book ≡ old.book) ⊎ (book ≡ (one_more old).book)
