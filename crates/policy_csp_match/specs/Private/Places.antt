-- Source expressions that stand one behind the other in one text: the text of each, where its parts are, and the source
-- expression that stands in a place.
use Rattle.std.specs.Prelude.{◌≡◌, ℕ, Bool, true, false, List, [], ◌++◌, length, map, take, drop}
use Rattle.std.specs.Prelude.{Option, Some, None, if◌then◌else◌}
use Rattle.value_text.specs.Texts.{Text}
use Rattle.policy_csp_match.specs.declared.list.HostPlace.{HostPlace}
use Rattle.policy_csp_match.specs.declared.list.Place.{Place}
use Rattle.policy_csp_match.specs.declared.list.Place.TheVariants as place
use Rattle.policy_csp_match.specs.declared.list.PortKind.{PortKind}
use Rattle.policy_csp_match.specs.declared.list.PortKind.TheVariants as port_kind
use Rattle.policy_csp_match.specs.declared.list.Stored.{Stored}
use Rattle.policy_csp_match.specs.declared.source.HostSource.{HostSource}
use Rattle.policy_csp_match.specs.declared.source.Source.{Source}
use Rattle.policy_csp_match.specs.declared.source.Source.TheVariants as kind
use Rattle.policy_csp_match.specs.declared.source.SourcePort.{SourcePort}
use Rattle.policy_csp_match.specs.declared.source.SourcePort.TheVariants as port

-- ---- texts and places of source expressions

-- the text of a part, which is empty where there is none
abbrev pub part_text : Option Text → Text
part_text None = []
part_text (Some text) = text

-- there is such a part
abbrev pub is_there : Option Text → Bool
is_there None = false
is_there (Some text) = true

-- the digits of a port
abbrev pub port_text : Option SourcePort → Text
port_text None = []
port_text (Some port.Any) = []
port_text (Some (port.Digits digits)) = digits

-- the kind of a port
abbrev pub kind_of_port : Option SourcePort → PortKind
kind_of_port None = port_kind.Absent
kind_of_port (Some port.Any) = port_kind.Any
kind_of_port (Some (port.Digits digits)) = port_kind.Digits

-- the parts of a host-source, one behind the other
abbrev pub host_text : HostSource → Text
host_text source =
    source.host ++ part_text source.scheme ++ port_text source.port ++ part_text source.path

-- how long they are
abbrev pub host_place : HostSource → HostPlace
host_place source = record {
  host = length source.host;
  scheme = length (part_text source.scheme);
  port = length (port_text source.port);
  path = length (part_text source.path);
  has_scheme = is_there source.scheme;
  port_kind = kind_of_port source.port;
  has_path = is_there source.path;
}

-- the text of a source expression
abbrev pub source_text : Source → Text
source_text kind.Any = []
source_text (kind.Scheme scheme) = scheme
source_text (kind.Host host) = host_text host
source_text kind.SelfOrigin = []
source_text (kind.Nonce value) = value
source_text (kind.Hash bits value) = value
source_text kind.StrictDynamic = []
source_text kind.NoneWord = []
source_text kind.Unknown = []

-- its place
abbrev pub source_place : Source → Place
source_place kind.Any = place.Any
source_place (kind.Scheme scheme) = place.Scheme (length scheme)
source_place (kind.Host host) = place.Host (host_place host)
source_place kind.SelfOrigin = place.SelfOrigin
source_place (kind.Nonce value) = place.Nonce (length value)
source_place (kind.Hash bits value) = place.Hash bits (length value)
source_place kind.StrictDynamic = place.StrictDynamic
source_place kind.NoneWord = place.NoneWord
source_place kind.Unknown = place.Unknown

-- ---- what stands in a place

-- the part in front of a text, where there is one
abbrev pub part_in : Text → ℕ → Bool → Option Text
part_in text count there = if there then Some (take count text) else None

-- the port in front of a text
abbrev pub port_in : Text → ℕ → PortKind → Option SourcePort
port_in text count port_kind.Absent = None
port_in text count port_kind.Any = Some port.Any
port_in text count port_kind.Digits = Some (port.Digits (take count text))

-- the host-source in front of a text
abbrev pub host_in : Text → HostPlace → HostSource
host_in text place = record {
  scheme = part_in (drop place.host text) place.scheme place.has_scheme;
  host = take place.host text;
  port = port_in (drop place.scheme (drop place.host text)) place.port place.port_kind;
  path = part_in (drop place.port (drop place.scheme (drop place.host text))) place.path place.has_path;
}

-- the source expression in front of a text
abbrev pub source_in : Text → Place → Source
source_in text place.Any = kind.Any
source_in text (place.Scheme count) = kind.Scheme (take count text)
source_in text (place.Host host) = kind.Host (host_in text host)
source_in text place.SelfOrigin = kind.SelfOrigin
source_in text (place.Nonce count) = kind.Nonce (take count text)
source_in text (place.Hash bits count) = kind.Hash bits (take count text)
source_in text place.StrictDynamic = kind.StrictDynamic
source_in text place.NoneWord = kind.NoneWord
source_in text place.Unknown = kind.Unknown

-- the source expressions in these places of a text
abbrev pub sources_in : Text → List Stored → List Source
sources_in text stored = map (λ one. source_in (drop one.start text) one.place) stored

-- they stay the same whatever is added behind the text
abbrev pub Stay : Text → List Stored → Type 0
Stay text stored = (more : Text) → sources_in (text ++ more) stored ≡ sources_in text stored
