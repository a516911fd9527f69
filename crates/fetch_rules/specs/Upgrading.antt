-- Requests that are made https ones (Mixed Content, section 4, "upgrade a mixed content request to a potentially
-- trustworthy URL, if appropriate"; Fetch, section 4.1, "main fetch", steps 5 and 6, and step 10, where a known host is
-- asked for).
use Rattle.std.specs.Prelude.{Bool, true, false, ◌-◌, List, [], ◌∷◌, ◌++◌, length, take, codes}
use Rattle.url.specs.Parser.{without_default_port}
use Rattle.url.specs.Parts.{Parts}
use Rattle.policy_csp.specs.Violations.{upgrades}
use Rattle.policy_csp_text.specs.declared.policy.Policy.{Policy}
use Rattle.policy_checks.specs.Mixed.{is_upgraded}
use Rattle.value_requests.specs.declared.client.Client.{Client}
use Rattle.value_requests.specs.declared.request.Request.{Request}
use Rattle.value_requests.specs.Requests.{current_url}

-- the URL with the scheme https; a port 443, which is now the default, is left out (URL Standard, the scheme's setter)
abbrev pub with_https : Parts → Parts
with_https url = record url { scheme = codes "https"; port = without_default_port (codes "https") url.port }

-- the list with another URL in the place of its last
abbrev pub with_last : Parts → List Parts → List Parts
with_last url urls = take (length urls - 1) urls ++ url ∷ []

-- the request whose current URL has the scheme https
abbrev pub secured : Request → Request
secured request = record request { urls = with_last (with_https (current_url request)) request.urls }

-- the same, where so
abbrev pub secured_where : Bool → Request → Request
secured_where true request = secured request
secured_where false request = request

-- "upgrade request to a potentially trustworthy URL, if appropriate" (Upgrade Insecure Requests): an enforced policy
-- asks for it
abbrev pub insecure_upgraded : List Policy → Request → Request
insecure_upgraded policies request = secured_where (upgrades policies) request

-- "upgrade a mixed content request to a potentially trustworthy URL, if appropriate"
abbrev pub mixed_upgraded : Client → Request → Request
mixed_upgraded client request = secured_where (is_upgraded request client.origin client.top) request

-- the request of a client with these policies as it goes on
abbrev pub upgraded : Client → List Policy → Request → Request
upgraded client policies request = mixed_upgraded client (insecure_upgraded policies request)
