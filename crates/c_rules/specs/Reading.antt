-- The URL that a text gives by itself, or why it gives none.
use Rattle.std.specs.Prelude.{Option, Some, None, Result, Ok, Err, if◌then◌else◌}
use Rattle.url.specs.Parts.{Parts}
use Rattle.value_text.specs.Texts.{Text}
use Rattle.value_requests.specs.Requests.{is_http_url}
use Rattle.value_requests.specs.Urls.{url_of_text, utf8_text}
use Rattle.c_rules.specs.Answers.{and_then}
use Rattle.c_rules.specs.declared.refusal.Refusal.{Refusal}
use Rattle.c_rules.specs.declared.refusal.Refusal.TheVariants.{NotUrl, NotHttp}

-- the URL, if there is one
abbrev pub url_or_refusal : Option Parts → Result Parts Refusal
url_or_refusal None = Err NotUrl
url_or_refusal (Some url) = Ok url

-- the URL that a text gives by itself
abbrev pub url_in : Text → Result Parts Refusal
url_in text = url_or_refusal (url_of_text None (utf8_text text))

-- the URL, if it is an http or https one
abbrev pub web_or_refusal : Parts → Result Parts Refusal
web_or_refusal url = if is_http_url url then Ok url else Err NotHttp

-- the http or https URL that a text gives by itself
abbrev pub web_url_in : Text → Result Parts Refusal
web_url_in text = and_then (url_in text) web_or_refusal
