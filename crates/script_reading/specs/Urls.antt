-- The URL of a document, or of the page at its top, as it is read.
use Rattle.std.specs.Prelude.{Some, None}
use Rattle.serde_json.specs.Data.{Data}
use Rattle.serde_json.specs.Find.{as_str}
use Rattle.url.specs.Parts.{Parts}
use Rattle.value_requests.specs.Urls.{url_of_text}
use Rattle.value_json.specs.Reading.{Read, ◌>>=◌, present, given}
use Rattle.script_scenarios.specs.Urls.{is_document_url}

-- the URL that a text gives, where a document may have it
abbrev pub document_url_of : Data → Read Parts
document_url_of tree = do
  text ← present (as_str tree)
  url ← present (url_of_text None (Some text))
  given (is_document_url url) url
