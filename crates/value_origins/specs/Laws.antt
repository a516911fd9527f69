-- The text of an origin is that of the URL Standard's own serialization.
use Rattle.std.specs.Prelude.{◌≡◌, IsTrue}
use Rattle.url.specs.Origin.{ascii_serialization, origin_of}
use Rattle.url.specs.Parts.{Parts}
use Rattle.value_origins.specs.Origins.{is_http, serialized, tuple_origin}

-- for an http or https URL it is the text that `url` gives of the URL's origin
abbrev pub IsSerializedAsUrl : Parts → Type 0
IsSerializedAsUrl url =
    IsTrue (is_http url.scheme) → serialized (tuple_origin url) ≡ ascii_serialization (origin_of url)
