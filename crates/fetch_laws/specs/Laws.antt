-- Laws of a whole fetch, over every tape of inputs (Fetch, section 4).
use Rattle.std.specs.Prelude.{ℕ, ◌≤◌, ◌<◌, ◌^◌, List, sum_by}
use Rattle.std.specs.List.{AllByRecursion}
use Rattle.value_requests.specs.declared.request.Request.{Request}
use Rattle.fetch_acts.specs.declared.act.Input.{Input}
use Rattle.fetch_acts.specs.Process.{run}
use Rattle.fetch_acts.specs.Within.{asks, price_of}
use Rattle.fetch_definitions.specs.Fetch.{fetch}
use Rattle.fetch_definitions.specs.Then.{Context}
use Rattle.fetch_laws.specs.Own.{IsOwn}

-- how many ops a run of a fetch makes at most
abbrev pub most_asks : ℕ
most_asks = 126

-- a run of a fetch makes at most this many ops on the shared book
abbrev pub AsksFew : Type 0
AsksFew =
    (context : Context) (request : Request) (tape : List Input)
    → sum_by (price_of asks) (run (fetch context request) tape).acts ≤ most_asks

-- each op of a run is in range and of the client's key, before the time 2^48
abbrev pub AsksOwn : Type 0
AsksOwn =
    (context : Context) (request : Request) (tape : List Input) → context.now < 2 ^ 48
    → AllByRecursion (IsOwn context) (run (fetch context request) tape).acts
