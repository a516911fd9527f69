-- Sites, schemes aside (HTML, section 7.1.1, "same site"): this project's own choice, since it has no
-- public suffix list.
use Rattle.std.specs.Prelude.{Bool}
use Rattle.value_origins.specs.Names.{last_two_labels, without_last_dot}
use Rattle.value_origins.specs.Origins.{same_host}
use Rattle.value_origins.specs.declared.origin.HostKind.{HostKind}
use Rattle.value_origins.specs.declared.origin.HostKind.TheVariants as kind
use Rattle.value_origins.specs.declared.origin.Origin.{Origin}

-- the site of a host: the last two labels of a domain without one last dot, or the IP address itself
abbrev pub site_of : HostKind → HostKind
site_of (kind.Domain name) = kind.Domain (last_two_labels (without_last_dot name))
site_of (kind.V4 bits) = kind.V4 bits
site_of (kind.V6 bits) = kind.V6 bits

-- the hosts have equal sites
abbrev pub same_site : Origin → Origin → Bool
same_site a b = same_host (site_of a.host) (site_of b.host)
