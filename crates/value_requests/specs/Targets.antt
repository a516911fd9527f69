-- Where a request is sent: the request target, the value of Host (RFC 9112, section 3.2), and the text of an
-- origin (HTML, section 7.1.1).
use Rattle.std.specs.Prelude.{ℕ, [], ◌++◌, codes, decimal, Option, Some, None, IsTrue}
use Rattle.url.specs.Host.{host_text}
use Rattle.url.specs.Parts.{Parts, host_or_empty}
use Rattle.value_origins.specs.declared.origin.Origin.{Origin}
use Rattle.value_origins.specs.Origins.{serialized}
use Rattle.value_text.specs.Texts.{Text}
use Rattle.value_text.specs.Ascii.{lacks_space}
use Rattle.value_requests.specs.declared.hop.Hop.{Hop}

-- a question mark and the query, where there is one
abbrev pub query_text : Option Text → Text
query_text None = []
query_text (Some query) = codes "?" ++ query

-- the request target in origin form: the path, and the query where there is one
abbrev pub target_of : Parts → Text
target_of url = url.path ++ query_text url.query

-- a colon and the port, where there is one
abbrev pub port_text : Option ℕ → Text
port_text None = []
port_text (Some port) = codes ":" ++ decimal port

-- the value of Host: the host, and the port where the URL has one
abbrev pub host_value : Parts → Text
host_value url = host_text (host_or_empty url) ++ port_text url.port

-- the serialised origin, or null for an opaque one
abbrev pub origin_text : Option Origin → Text
origin_text None = codes "null"
origin_text (Some origin) = serialized origin

-- neither the method nor the target has a space, so the first line of the request has three parts (RFC 9112,
-- section 3)
abbrev pub IsSendable : Hop → Type 0
IsSendable hop = IsTrue (lacks_space hop.method) × IsTrue (lacks_space hop.url)
