use Rattle.std.proofs.Common.{◌≡◌, ℕ, List, ◌||◌, drop}
use Rattle.std.specs.List.{list_any}
use Rattle.value_requests.specs.TextSets.{has_text}
use Rattle.policy_filter.specs.Private.Listing.{is_found}
use Rattle.policy_filter.proofs.listed.found_in.Given as goal

-- the names so far, and those of the headers that are left
abbrev pub invariant-loop-header : goal.invariant-loop-header
invariant-loop-header l = (name : List ℕ)
    → (has_text l.found name || list_any (is_found l.lower name) (drop l.header-index l.headers))
    ≡ list_any (is_found l.lower name) l.headers
