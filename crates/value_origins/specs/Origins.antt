-- Origins of http and https URLs (HTML, section 7.1.1, "origin"; URL, section 4.7, "origin").
use Rattle.std.specs.Prelude.{ℕ, Bool, false, ◌||◌, ◌&&◌, ◌==◌, [], ◌++◌, codes, decimal, bytes_eq}
use Rattle.std.specs.Prelude.{Option, Some, None, unwrap_or, if◌then◌else◌}
use Rattle.std.specs.Option.{option_or}
use Rattle.std.specs.Int.{w32, w128, to_be_bytes}
use Rattle.std.specs.Net.Addr.{ipv4_bits, ipv6_bits, segments_of}
use Rattle.std.specs.Net.Text.{ipv4_text, hex_groups_text}
use Rattle.url.specs.declared.host.Host.{Host}
use Rattle.url.specs.declared.host.Host.TheVariants.{Domain, Ipv4, Ipv6}
use Rattle.url.specs.Scheme.{default_port}
use Rattle.url.specs.Parts.{Parts, nonempty_host}
use Rattle.value_text.specs.Texts.{Text}
use Rattle.value_origins.specs.declared.origin.HostKind.{HostKind}
use Rattle.value_origins.specs.declared.origin.HostKind.TheVariants as kind
use Rattle.value_origins.specs.declared.origin.Origin.{Origin}

-- the host of a URL by its kind; one without a host has the empty domain
abbrev pub kind_of_host : Option (Host Text) → HostKind
kind_of_host None = kind.Domain []
kind_of_host (Some (Domain name)) = kind.Domain name
kind_of_host (Some (Ipv4 address)) = kind.V4 (ipv4_bits address)
kind_of_host (Some (Ipv6 address)) = kind.V6 (ipv6_bits address)

-- the scheme is http or https
abbrev pub is_http : Text → Bool
is_http scheme = bytes_eq scheme (codes "http") || bytes_eq scheme (codes "https")

-- the tuple of scheme, host and port of a URL; a URL without a port has the default one of its scheme
abbrev pub tuple_origin : Parts → Origin
tuple_origin url = record {
  scheme = url.scheme;
  host = kind_of_host (nonempty_host url);
  port = unwrap_or (option_or url.port (default_port url.scheme)) 0;
}

-- the origin of an http or https URL; another has an opaque one
abbrev pub origin_of : Parts → Option Origin
origin_of url = if is_http url.scheme then Some (tuple_origin url) else None

-- the hosts are of one kind and identical
abbrev pub same_host : HostKind → HostKind → Bool
same_host (kind.Domain a) (kind.Domain b) = bytes_eq a b
same_host (kind.V4 a) (kind.V4 b) = a == b
same_host (kind.V6 a) (kind.V6 b) = a == b
same_host _ _ = false

-- the host of the origin is that of the URL
abbrev pub is_host_of : Origin → Parts → Bool
is_host_of origin url = same_host origin.host (kind_of_host (nonempty_host url))

-- "same origin": the schemes, the hosts and the ports are identical
abbrev pub same_origin : Origin → Origin → Bool
same_origin a b = bytes_eq a.scheme b.scheme && same_host a.host b.host && a.port == b.port

-- the origin is this one, where there is one
abbrev pub is_origin : Origin → Option Origin → Bool
is_origin origin None = false
is_origin origin (Some other) = same_origin origin other

-- the origin is that of the URL, which has one
abbrev pub is_origin_of : Origin → Parts → Bool
is_origin_of origin url = is_origin origin (origin_of url)

-- the two origins are the same, where there are two
abbrev pub are_same : Option Origin → Option Origin → Bool
are_same None other = false
are_same (Some origin) other = is_origin origin other

-- two URLs have origins, and these are the same
abbrev pub have_same_origin : Parts → Parts → Bool
have_same_origin url other = are_same (origin_of url) (origin_of other)

-- the host as a URL writes it: an IPv6 address in brackets, compressed (URL, "host serializer")
abbrev pub host_text : HostKind → Text
host_text (kind.Domain name) = name
host_text (kind.V4 bits) = ipv4_text (to_be_bytes w32 bits)
host_text (kind.V6 bits) = codes "[" ++ hex_groups_text (segments_of (to_be_bytes w128 bits)) ++ codes "]"

-- the port is the default one of http or of https
abbrev pub is_default_port : Text → ℕ → Bool
is_default_port scheme port =
    (bytes_eq scheme (codes "http") && port == 80) || (bytes_eq scheme (codes "https") && port == 443)

-- a colon and the port, where it is not the default port of the scheme
abbrev pub port_text : Text → ℕ → Text
port_text scheme port = if is_default_port scheme port then [] else codes ":" ++ decimal port

-- "serialization of an origin": the scheme, the host and the port
abbrev pub serialized : Origin → Text
serialized origin =
    origin.scheme ++ codes "://" ++ host_text origin.host ++ port_text origin.scheme origin.port
