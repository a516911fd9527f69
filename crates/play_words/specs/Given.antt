-- Documents whose URLs are given by texts, as those of every scenario that is read are (URL Standard, section 4.4).
use Rattle.std.specs.Prelude.{◌≡◌, IsTrue, None, Ok}
use Rattle.url.specs.Parser.{parse_url}
use Rattle.url.specs.Parts.{Parts}
use Rattle.value_requests.specs.Requests.{is_http_url}
use Rattle.play_isolation.specs.Words.{Document, Text}

-- An http or https URL that a text gives.
pub record IsGiven (url : Parts) : Type 0 where
  pub text : Text
  pub read : parse_url None text ≡ Ok url
  pub http : IsTrue (is_http_url url)

-- The URL of the document and that of the page at its top are such.
pub record HasGiven (document : Document) : Type 0 where
  pub url : IsGiven document.url
  pub top : IsGiven document.top
