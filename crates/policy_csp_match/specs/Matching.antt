-- Whether a source expression matches a URL (CSP 3, "does url match expression in origin with redirect count").
use Rattle.std.specs.Prelude.{ℕ, Bool, true, false, ◌==◌, ◌-◌, ◌&&◌, ◌||◌, length, drop, bytes_eq, codes, is_none}
use Rattle.std.specs.Prelude.{Option, Some, None, not, option_and_then, unwrap_or}
use Rattle.std.specs.Option.{option_map_or, option_or}
use Rattle.std.specs.Str.{str_eq_ignore_ascii_case}
use Rattle.url.specs.Host.{domain_of}
use Rattle.url.specs.Parts.{Parts, nonempty_host}
use Rattle.url.specs.Scheme.{default_port}
use Rattle.value_origins.specs.declared.origin.Origin.{Origin}
use Rattle.value_origins.specs.Origins.{is_default_port, is_host_of, is_http, is_origin_of, tuple_origin}
use Rattle.value_text.specs.Texts.{Text}
use Rattle.value_text.specs.Digits.{writes}
use Rattle.policy_csp_match.specs.declared.source.HostSource.{HostSource}
use Rattle.policy_csp_match.specs.declared.source.Source.{Source}
use Rattle.policy_csp_match.specs.declared.source.Source.TheVariants as kind
use Rattle.policy_csp_match.specs.declared.source.SourcePort.{SourcePort}
use Rattle.policy_csp_match.specs.declared.source.SourcePort.TheVariants as port
use Rattle.policy_csp_match.specs.Grammar.{has_wildcard}
use Rattle.policy_csp_match.specs.Paths.{path_part_matches}

-- the scheme is this one, in any ASCII case
abbrev pub is_scheme : Text → Text → Bool
is_scheme name scheme = str_eq_ignore_ascii_case scheme name

-- "scheme-part matches": b is a, or `http` matches `https` too; `ws` matches also `http` and `https`, `wss` also
-- `https`. `ws` doesn't match `wss` (this project's own choice: no URL that is fetched has either).
abbrev pub scheme_part_matches : Text → Text → Bool
scheme_part_matches a b =
    is_scheme a b
    || (is_scheme (codes "http") a && is_scheme (codes "https") b)
    || (is_scheme (codes "ws") a && (is_scheme (codes "http") b || is_scheme (codes "https") b))
    || (is_scheme (codes "wss") a && is_scheme (codes "https") b)

-- the text ends with this, ASCII case aside
abbrev pub ends_in : Text → Text → Bool
ends_in end text = str_eq_ignore_ascii_case (drop (length text - length end) text) end

-- a domain against a pattern: `*`; `*.` and what follows the domain's first labels; or the domain itself
abbrev pub domain_matches : Text → Text → Bool
domain_matches pattern domain =
    bytes_eq pattern (codes "*")
    || (has_wildcard pattern && ends_in (drop 1 pattern) domain)
    || str_eq_ignore_ascii_case pattern domain

-- "host-part matches": the URL's host is a domain that the pattern matches; an IP address matches none
abbrev pub host_part_matches : Text → Parts → Bool
host_part_matches pattern url =
    option_map_or (domain_matches pattern) (option_and_then domain_of (nonempty_host url)) false

-- the port of a URL, or the default one of its scheme where it has none
abbrev pub port_or_default : Parts → Option ℕ
port_or_default url = option_or url.port (default_port url.scheme)

-- "port-part matches": `*` matches each port, digits the port that they write, and no port-part only a URL without
-- port. Port 80 doesn't match the default port of an https URL (profile: CSP 3 lets it).
abbrev pub port_part_matches : Option SourcePort → Parts → Bool
port_part_matches None url = is_none url.port
port_part_matches (Some port.Any) url = true
port_part_matches (Some (port.Digits digits)) url =
    option_map_or (λ number. writes number digits) (port_or_default url) false

-- the scheme-part matches, or the scheme of the document where there is none
abbrev pub scheme_matches : Option Text → Parts → Origin → Bool
scheme_matches scheme url document = scheme_part_matches (unwrap_or scheme document.scheme) url.scheme

-- the path-part matches, or there is none; after a redirect the path doesn't count
abbrev pub path_matches : Option Text → Parts → ℕ → Bool
path_matches None url redirects = true
path_matches (Some path) url redirects = not (redirects == 0) || path_part_matches path url.path

-- a host-source: each of its parts matches
abbrev pub host_source_matches : HostSource → Parts → Origin → ℕ → Bool
host_source_matches source url document redirects =
    scheme_matches source.scheme url document
    && host_part_matches source.host url
    && port_part_matches source.port url
    && path_matches source.path url redirects

-- two ports are equal, or each is the default one of its own scheme
abbrev pub same_or_default_port : Origin → Origin → Bool
same_or_default_port a b =
    a.port == b.port || (is_default_port a.scheme a.port && is_default_port b.scheme b.port)

-- 'self': the document's origin, or https on its host and its port or the default ones
abbrev pub self_matches : Parts → Origin → Bool
self_matches url document =
    is_origin_of document url
    || (bytes_eq url.scheme (codes "https") && is_host_of document url
    && same_or_default_port document (tuple_origin url))

-- "does url match expression in origin with redirect count". `*` matches each http and https URL. A URL of another
-- scheme matches a scheme-source or a host-source of its own scheme, and nothing else.
abbrev pub matches : Source → Parts → Origin → ℕ → Bool
matches kind.Any url document redirects = is_http url.scheme
matches (kind.Scheme scheme) url document redirects = scheme_part_matches scheme url.scheme
matches (kind.Host host) url document redirects = host_source_matches host url document redirects
matches kind.SelfOrigin url document redirects = self_matches url document
matches (kind.Nonce value) url document redirects = false
matches (kind.Hash bits value) url document redirects = false
matches kind.StrictDynamic url document redirects = false
matches kind.NoneWord url document redirects = false
matches kind.Unknown url document redirects = false
