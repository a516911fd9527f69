-- Which acts are a client's own: what it asks of the shared book and tells it.
use Rattle.std.specs.Prelude.{◌≡◌, true}
use Rattle.book_calls.specs.declared.op.Op.{Op}
use Rattle.book_calls.specs.Ops.{InRange}
use Rattle.book_calls.specs.Past.{is_of_key}
use Rattle.value_requests.specs.declared.request.Request.{Request}
use Rattle.fetch_acts.specs.declared.act.Act.{Act}
use Rattle.fetch_acts.specs.declared.act.Act.TheVariants.{Ask}
use Rattle.fetch_definitions.specs.Then.{Context}

-- the op is in range, and one that a document of the client's key makes
abbrev pub IsOwnOp : Context → Op → Type 0
IsOwnOp context op = InRange op × (is_of_key context.client.key op ≡ true)

-- an op that the act asks is such an op; nothing is wanted of other acts
abbrev pub IsOwn : Context → Act → Type 0
IsOwn context (Ask op) = IsOwnOp context op
IsOwn context _ = Unit {0}

-- the same of an act for a request
abbrev pub IsOwnAct : Context → Request → Act → Type 0
IsOwnAct context request first = IsOwn context first
