-- Mixed content (Mixed Content, section 4): which requests are upgraded to https, and which are blocked.
use Rattle.std.specs.Prelude.{Bool, true, false, not, ◌&&◌, ◌||◌, Option, Some}
use Rattle.url.specs.Parts.{nonempty_host}
use Rattle.url.specs.declared.host.Host.{Host}
use Rattle.url.specs.declared.host.Host.TheVariants.{Ipv4, Ipv6}
use Rattle.value_text.specs.Texts.{Text}
use Rattle.value_origins.specs.Trust.{is_trustworthy, is_trustworthy_url}
use Rattle.value_origins.specs.declared.origin.Origin.{Origin}
use Rattle.value_requests.specs.Requests.{current_url}
use Rattle.value_requests.specs.declared.policy.Destination.{Destination}
use Rattle.value_requests.specs.declared.policy.Destination.TheVariants as destination
use Rattle.value_requests.specs.declared.request.Request.{Request}

-- "does settings prohibit mixed security contexts?": the document's origin is potentially trustworthy, or that of the
-- page at the top; pages between the two do not count (this project's own choice)
abbrev pub prohibits_mixed : Origin → Origin → Bool
prohibits_mixed document top = is_trustworthy document || is_trustworthy top

-- "upgradeable content": an image, audio or video
abbrev pub is_upgradeable : Destination → Bool
is_upgradeable destination.Image = true
is_upgradeable destination.Audio = true
is_upgradeable destination.Video = true
is_upgradeable _ = false

-- there is a host, and it is an IP address
abbrev pub is_ip_address : Option (Host Text) → Bool
is_ip_address (Some (Ipv4 address)) = true
is_ip_address (Some (Ipv6 address)) = true
is_ip_address _ = false

-- "upgrade a mixed content request to a potentially trustworthy URL, if appropriate": the request of a document, in a
-- page with this origin at the top, is upgraded
abbrev pub is_upgraded : Request → Origin → Origin → Bool
is_upgraded request document top =
    is_upgradeable request.destination && prohibits_mixed document top
    && not (is_trustworthy_url (current_url request)) && not (is_ip_address (nonempty_host (current_url request)))

-- "should fetching request be blocked as mixed content?"
abbrev pub is_blocked : Request → Origin → Origin → Bool
is_blocked request document top =
    prohibits_mixed document top && not (is_trustworthy_url (current_url request))
