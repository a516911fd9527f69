-- What a fetch comes to without the network: it asks a book, and tells its document of violations, until it must send
-- or read, or is over.
use Rattle.std.specs.Prelude.{◌≡◌, ◌≤◌, ◌⊎◌, ℕ, zero, suc, Bool, true, false, List, [], ◌∷◌, ◌++◌, Option, Some, None}
use Rattle.std.specs.Prelude.{option_map, if◌then◌else◌}
use Rattle.book_calls.specs.Book.{after, reply}
use Rattle.book_calls.specs.Ops.{is_in_range}
use Rattle.c_fetch_calls.specs.Fetches.{act_or_end}
use Rattle.c_fetch_calls.specs.Terms.{Act, Book, OK, Session, Standing, Thing, WRONG_HANDLE, act_of, both, held_book}
use Rattle.c_fetch_calls.specs.Terms.{held_fetch, outcome_of, standing_of}
use Rattle.c_handle.specs.declared.thing.Thing.TheVariants as thing
use Rattle.fetch_acts.specs.declared.act.Act.TheVariants.{Ask, Tell}
use Rattle.fetch_acts.specs.declared.act.Input.{Input}
use Rattle.fetch_acts.specs.declared.act.Input.TheVariants.{Replied, Told}
use Rattle.fetch_session.specs.Standings.{gone_on}
use Rattle.value_requests.specs.declared.policy.Violation.{Violation}

-- where a fetch stands, the book that it asks, and the violations of which its document was told
pub record Judged : Type 0 where
  pub standing : Option Standing
  pub book : Book
  pub told : List Violation

abbrev pub judged : Option Standing → Book → List Violation → Judged
judged standing book told = record { standing = standing; book = book; told = told }

-- the act needs no network: it asks the book, in range, or tells the document
abbrev pub is_alone : Option Act → Bool
is_alone (Some (Ask op)) = is_in_range op
is_alone (Some (Tell violation)) = true
is_alone _ = false

-- the fetch goes on from an input
abbrev pub onward : Option Standing → Input → Option Standing
onward standing input = option_map (λ s. gone_on s input) standing

-- once an act was done that needs no network
abbrev pub done : Option Act → Judged → Judged
done (Some (Ask op)) it =
    if is_in_range op then judged (onward it.standing (Replied (reply it.book op))) (after it.book op) it.told else it
done (Some (Tell violation)) it = judged (onward it.standing Told) it.book (it.told ++ violation ∷ [])
done _ it = it

-- once what the fetch does next was done, if that needs no network
abbrev pub one_more : Judged → Judged
one_more it = done (act_of it.standing) it

-- once that was done so many times
unfoldable pub many : ℕ → Judged → Judged
many zero it = it
many (suc times) it = one_more (many times it)

-- the most times in one call
abbrev pub most_alone : ℕ
most_alone = 65536

-- It has come as far as it comes without the network, or as one call goes.
abbrev pub HasCome : Judged → Judged → Type 0
HasCome first now =
    (times : ℕ) × (times ≤ most_alone) × (now ≡ many times first)
    × ((is_alone (act_of now.standing) ≡ false) ⊎ (times ≡ most_alone))

-- it was cut off somewhere on the way, and the book is as there
abbrev pub IsCut : Judged → Book → Type 0
IsCut first book = (times : ℕ) × (times ≤ most_alone) × (book ≡ (many times first).book)

-- ---- what the call tells

-- what the fetch does then, by its number
abbrev pub act_then : Option Standing → ℕ
act_then standing = act_or_end (act_of standing) (outcome_of standing)

-- It has come so far, and the violations on the way are held.
abbrev pub IsTold : Judged → ℕ → Option Standing → Book → Option Thing → ℕ → Type 0
IsTold first code standing book violations act =
    (told : List Violation) × HasCome first (judged standing book told) × (code ≡ OK)
    × (violations ≡ Some (thing.Violations told)) × (act ≡ act_then standing)

-- where the fetch and the book stand that the handles hold
abbrev pub Held : (Option Standing → Book → Type 0) → Option Thing → Option Thing → Type 0
Held Is (Some (thing.Fetch session)) (Some (thing.Book book)) = Is (standing_of session) book
Held Is _ _ = ⊥

abbrev pub IsJudgedTo : Option (Session × Book) → Option Thing → Option Thing → Option Thing → ℕ → ℕ → Option Thing
    → Option Thing → Option Thing → ℕ → Type 0
IsJudgedTo None fetch book violations act code fetch' book' violations' act' =
    (code ≡ WRONG_HANDLE) × (fetch' ≡ fetch) × (book' ≡ book) × (violations' ≡ violations) × (act' ≡ act)
IsJudgedTo (Some it) fetch book violations act code fetch' book' violations' act' =
    Held (λ standing last. IsTold (judged (standing_of it.0) it.1 []) code standing last violations' act') fetch' book'

abbrev pub IsJudged : Option Thing → Option Thing → Option Thing → ℕ → ℕ → Option Thing → Option Thing → Option Thing
    → ℕ → Type 0
IsJudged fetch book = IsJudgedTo (both (held_fetch fetch) (held_book book)) fetch book

-- how the book is that the handle holds
abbrev pub HeldBook : (Book → Type 0) → Option Thing → Type 0
HeldBook Is (Some (thing.Book book)) = Is book
HeldBook Is _ = ⊥

-- memory was refused: it was cut off on the way, the fetch is freed, and nothing is told
abbrev pub IsLost : Option (Session × Book) → Option Thing → ℕ → Option Thing → Option Thing → Option Thing → ℕ → Type 0
IsLost None violations act fetch' book' violations' act' = ⊥
IsLost (Some it) violations act fetch' book' violations' act' =
    (fetch' ≡ None) × HeldBook (IsCut (judged (standing_of it.0) it.1 [])) book'
    × (violations' ≡ violations) × (act' ≡ act)
