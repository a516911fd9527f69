-- What a fetch costs at most, at a price for each kind of act (Fetch, section 4: main fetch, and what it calls).
use Rattle.std.specs.Prelude.{ℕ, ◌+◌, ◌-◌, ◌*◌, length}
use Rattle.value_requests.specs.declared.request.Request.{Request}
use Rattle.value_requests.specs.Requests.{most_redirects}
use Rattle.fetch_acts.specs.Within.{Prices}
use Rattle.fetch_definitions.specs.Then.{Context}

-- the violations of one request: at most one for each policy
abbrev pub report_price : Prices → Context → ℕ
report_price prices context = length context.policies * prices.tell

-- one level: the violations by the policies of two dispositions; six ops, which ask whether the host is known and
-- whether the preflight cache covers the request, note what two heads say of known hosts, learn what one allows, and
-- take it back; and two hops with their heads
abbrev pub level_price : Prices → Context → ℕ
level_price prices context =
    2 * report_price prices context + 6 * prices.ask + 2 * prices.send + 2 * prices.head

-- the end: the violations by all policies, and the body
abbrev pub end_price : Prices → Context → ℕ
end_price prices context = report_price prices context + prices.body

-- how many levels there are at most: one, and one more for each redirect that is left
abbrev pub levels : Request → ℕ
levels request = 1 + (most_redirects - request.redirects)

-- a whole fetch
abbrev pub fetch_price : Prices → Context → Request → ℕ
fetch_price prices context request = levels request * level_price prices context + end_price prices context
