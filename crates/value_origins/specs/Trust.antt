-- Potentially trustworthy origins and URLs (Secure Contexts, section 3.1 and 3.2).
use Rattle.std.specs.Prelude.{Bool, false, Option, None, Some, ◌||◌, ◌==◌, ◌/◌, ◌^◌, codes, bytes_eq}
use Rattle.url.specs.Parts.{Parts}
use Rattle.value_origins.specs.Names.{is_local_name}
use Rattle.value_origins.specs.Origins.{origin_of}
use Rattle.value_origins.specs.declared.origin.HostKind.{HostKind}
use Rattle.value_origins.specs.declared.origin.HostKind.TheVariants as kind
use Rattle.value_origins.specs.declared.origin.Origin.{Origin}

-- a localhost name, an address of 127.0.0.0/8, whose first eight bits are 127, or the address ::1;
-- an IPv6 address that holds an IPv4 address is none
abbrev pub is_loopback : HostKind → Bool
is_loopback (kind.Domain name) = is_local_name name
is_loopback (kind.V4 bits) = bits / 2 ^ 24 == 127
is_loopback (kind.V6 bits) = bits == 1

-- "is origin potentially trustworthy", for http and https
abbrev pub is_trustworthy : Origin → Bool
is_trustworthy origin = bytes_eq origin.scheme (codes "https") || is_loopback origin.host

-- there is an origin, and it is potentially trustworthy
abbrev pub is_trustworthy_origin : Option Origin → Bool
is_trustworthy_origin None = false
is_trustworthy_origin (Some origin) = is_trustworthy origin

-- "is url potentially trustworthy", for http and https; another is not
abbrev pub is_trustworthy_url : Parts → Bool
is_trustworthy_url url = is_trustworthy_origin (origin_of url)
