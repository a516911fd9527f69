-- Hosts that may be known HSTS hosts (RFC 6797, section 8.1.1): domains as URLs have them.
use Rattle.std.specs.Prelude.{◌&&◌, Bool, false, not, ◌++◌, codes, Option, Some, None}
use Rattle.std.specs.Prelude.{option_and_then}
use Rattle.url.specs.Host.{domain_of}
use Rattle.url.specs.Parts.{Parts, nonempty_host}
use Rattle.value_origins.specs.Names.{is_local_name}
use Rattle.value_text.specs.Texts.{Text}
use Rattle.value_text.specs.Mime.{is_text}
use Rattle.value_requests.specs.Urls.{url_of_text, utf8_text}

-- the http URL of a host
abbrev pub http_url_of : Text → Option Parts
http_url_of host = url_of_text None (Some (codes "http://" ++ (host ++ codes "/")))

-- the host of a URL, where it is a domain
abbrev pub domain_in : Parts → Option Text
domain_in url = option_and_then domain_of (nonempty_host url)

-- The host of the text's http URL is a domain with exactly this text, and no localhost name. An address, a
-- port and a capital letter are no part of such a text; a last dot may be.
abbrev pub is_host_name : Text → Bool
is_host_name host = not (is_local_name host) && is_text host (option_and_then domain_in (http_url_of host))

-- bytes are one, where they are UTF-8
abbrev pub is_host_text : Option Text → Bool
is_host_text None = false
is_host_text (Some host) = is_host_name host

abbrev pub are_host_name : Text → Bool
are_host_name bytes = is_host_text (utf8_text bytes)
