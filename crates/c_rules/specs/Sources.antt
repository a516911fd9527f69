-- Source expressions of content security policies.
use Rattle.std.specs.Prelude.{ℕ, Bool, Result, Ok}
use Rattle.value_text.specs.Texts.{Text}
use Rattle.policy_csp_match.specs.Matching.{matches}
use Rattle.policy_csp_match.specs.Sources.{source_of}
use Rattle.value_origins.specs.Origins.{tuple_origin}
use Rattle.c_rules.specs.Answers.{and_then}
use Rattle.c_rules.specs.Reading.{url_in, web_url_in}
use Rattle.c_rules.specs.declared.refusal.Refusal.{Refusal}

-- "does url match expression in origin with redirect count", of a word, a URL and a page
abbrev pub source_matches : Text → Text → Text → ℕ → Result Bool Refusal
source_matches word url page redirects =
    and_then (url_in url) (λ url. and_then (web_url_in page)
    (λ page. Ok (matches (source_of word) url (tuple_origin page) redirects)))
