-- The definitions computed on examples that were written down by hand: words and URLs, for a document at
-- http://a.test.
use Rattle.rows_definitions.proofs.Shared.{url_at as at}
use Rattle.std.proofs.Common.{◌≡◌, refl, ℕ, Bool, List, [], true, false, codes, Some, None}
use Rattle.percent_encoding.proofs.OnLiterals.{percent_encoding_on_literals}
use Rattle.url.proofs.OnLiterals.{url_on_literals}
use Rattle.url.specs.declared.host.Host.TheVariants as host
use Rattle.url.specs.Parts.{Parts}
use Rattle.value_origins.specs.declared.origin.Origin.{Origin}
use Rattle.value_origins.specs.Origins.{tuple_origin}
use Rattle.policy_csp_match.specs.declared.source.Source.TheVariants as kind
use Rattle.policy_csp_match.specs.declared.source.SourcePort.TheVariants as port
use Rattle.policy_csp_match.specs.Matching.{matches}
use Rattle.policy_csp_match.specs.Sources.{source_of}

abbrev http : List ℕ → List ℕ → Parts
http name path = at (codes "http") name path

abbrev https : List ℕ → List ℕ → Parts
https name path = at (codes "https") name path

abbrev home : Origin
home = tuple_origin (http (codes "a.test") (codes "/"))

-- the word matches the URL, after a number of redirects
abbrev word_matches : List ℕ → Parts → ℕ → Bool
word_matches word url redirects = matches (source_of word) url home redirects

-- names under a name, and not itself; the document's scheme matches itself and https
wildcard : (word_matches (codes "*.b.test") (http (codes "x.b.test") (codes "/")) 0 ≡ true)
    × (word_matches (codes "*.b.test") (https (codes "x.b.test") (codes "/")) 0 ≡ true)
    × (word_matches (codes "*.B.test") (http (codes "x.b.test") (codes "/")) 0 ≡ true)
    × (word_matches (codes "*.b.test") (http (codes "b.test") (codes "/")) 0 ≡ false)
unfolding url_on_literals
wildcard = (refl, refl, refl, refl)

-- ports
ports : (word_matches (codes "b.test:80") (https (codes "b.test") (codes "/")) 0 ≡ false)
    × (word_matches (codes "b.test:0080") (http (codes "b.test") (codes "/")) 0 ≡ true)
    × (word_matches (codes "b.test:65616") (http (codes "b.test") (codes "/")) 0 ≡ false)
    × (word_matches (codes "b.test:*") (record (http (codes "b.test") (codes "/")) { port = Some 8080 }) 0 ≡ true)
    × (word_matches (codes "b.test") (record (http (codes "b.test") (codes "/")) { port = Some 8080 }) 0 ≡ false)
unfolding url_on_literals
ports = (refl, refl, refl, refl, refl)

-- paths
paths : (word_matches (codes "b.test/a%2Fb") (http (codes "b.test") (codes "/a%2fb")) 0 ≡ true)
    × (word_matches (codes "b.test/a%2Fb") (http (codes "b.test") (codes "/a/b")) 0 ≡ false)
    × (word_matches (codes "b.test/a/") (http (codes "b.test") (codes "/a/x")) 0 ≡ true)
    × (word_matches (codes "b.test/a/") (http (codes "b.test") (codes "/a")) 0 ≡ false)
    × (word_matches (codes "b.test/a") (http (codes "b.test") (codes "/a/x")) 0 ≡ false)
    × (word_matches (codes "b.test/") (http (codes "b.test") (codes "/a")) 0 ≡ true)
    × (word_matches (codes "b.test/a") (http (codes "b.test") (codes "/x")) 1 ≡ true)
unfolding url_on_literals percent_encoding_on_literals
paths = (refl, refl, refl, refl, refl, refl, refl)

-- WebSocket schemes match their HTTP ones
schemes : (word_matches (codes "ws:") (http (codes "b.test") (codes "/")) 0 ≡ true)
    × (word_matches (codes "ws:") (https (codes "b.test") (codes "/")) 0 ≡ true)
    × (word_matches (codes "wss:") (http (codes "b.test") (codes "/")) 0 ≡ false)
    × (word_matches (codes "WSS:") (https (codes "b.test") (codes "/")) 0 ≡ true)
    × (word_matches (codes "https://b.test") (http (codes "b.test") (codes "/")) 0 ≡ false)
unfolding url_on_literals
schemes = (refl, refl, refl, refl, refl)

-- a word for each kind
kinds : (source_of (codes "*") ≡ kind.Any) × (source_of (codes "a.test:") ≡ kind.Scheme (codes "a.test"))
    × (source_of (codes "'SELF'") ≡ kind.SelfOrigin) × (source_of (codes "'none'") ≡ kind.NoneWord)
    × (source_of (codes "'Strict-Dynamic'") ≡ kind.StrictDynamic)
    × (source_of (codes "'Nonce-a-B='") ≡ kind.Nonce (codes "a-B="))
    × (source_of (codes "'SHA384-V'") ≡ kind.Hash 384 (codes "V"))
    × (source_of (codes "*.b.test:*/a;") ≡ kind.Unknown)
    × (source_of (codes "b.test//a") ≡ kind.Unknown)
    × (source_of (codes "HTTP://*.b.test.:80/a/%2f") ≡ kind.Host (record {
      scheme = Some (codes "HTTP");
      host = codes "*.b.test.";
      port = Some (port.Digits (codes "80"));
      path = Some (codes "/a/%2f");
    }))
kinds = (refl, refl, refl, refl, refl, refl, refl, refl, refl, refl)

-- 'self': the document's origin, and https on its host
own : (word_matches (codes "'self'") (http (codes "a.test") (codes "/x")) 1 ≡ true)
    × (word_matches (codes "'self'") (https (codes "a.test") (codes "/")) 0 ≡ true)
    × (word_matches (codes "'self'") (record (https (codes "a.test") (codes "/")) { port = Some 80 }) 0 ≡ true)
    × (word_matches (codes "'self'") (record (https (codes "a.test") (codes "/")) { port = Some 81 }) 0 ≡ false)
    × (word_matches (codes "'self'") (http (codes "b.test") (codes "/")) 0 ≡ false)
unfolding url_on_literals
own = (refl, refl, refl, refl, refl)
