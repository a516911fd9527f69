-- The client of a document (HTML, section 8.1.3.2, "environment settings object").
use Rattle.url.specs.Parts.{Parts}
use Rattle.value_origins.specs.Origins.{serialized, tuple_origin}
use Rattle.value_requests.specs.declared.client.Client.{Client}
use Rattle.value_requests.specs.declared.mode.ReferrerPolicy.{ReferrerPolicy}

-- the client of a document with this URL, in a page with that one at the top: its key is the
-- serialised origin of the top
abbrev pub client_of : Parts → Parts → ReferrerPolicy → Client
client_of url top policy = record {
  url = url;
  origin = tuple_origin url;
  top = tuple_origin top;
  key = serialized (tuple_origin top);
  policy = policy;
}
