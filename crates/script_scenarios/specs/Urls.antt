-- The URLs that documents, and the pages at their top, may have.
use Rattle.std.specs.Prelude.{◌&&◌, Bool, not}
use Rattle.url.specs.Parts.{Parts, has_credentials}
use Rattle.value_origins.specs.Origins.{is_http}
use Rattle.value_requests.specs.Urls.{is_short_url}

-- an http or https URL without credentials, of at most 8,192 bytes as printed
abbrev pub is_document_url : Parts → Bool
is_document_url url = is_http url.scheme && not (has_credentials url) && is_short_url url
