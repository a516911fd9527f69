-- Rules on the origins of URLs that are given as texts.
use Rattle.std.specs.Prelude.{Bool, Result, Ok}
use Rattle.value_text.specs.Texts.{Text}
use Rattle.policy_checks.specs.Ports.{is_bad_port}
use Rattle.value_origins.specs.Origins.{have_same_origin, serialized, tuple_origin}
use Rattle.value_origins.specs.Sites.{same_site}
use Rattle.value_origins.specs.Trust.{is_trustworthy_url}
use Rattle.c_rules.specs.Answers.{and_then}
use Rattle.c_rules.specs.Reading.{url_in, web_url_in}
use Rattle.c_rules.specs.declared.refusal.Refusal.{Refusal}

-- "serialization of an origin", of that of a URL
abbrev pub origin_text : Text → Result Text Refusal
origin_text url = and_then (web_url_in url) (λ url. Ok (serialized (tuple_origin url)))

-- "same origin", of those of two URLs
abbrev pub are_same_origin : Text → Text → Result Bool Refusal
are_same_origin a b = and_then (web_url_in a) (λ a. and_then (web_url_in b) (λ b. Ok (have_same_origin a b)))

-- "schemelessly same site", of the origins of two URLs
abbrev pub are_same_site : Text → Text → Result Bool Refusal
are_same_site a b =
    and_then (web_url_in a) (λ a. and_then (web_url_in b) (λ b. Ok (same_site (tuple_origin a) (tuple_origin b))))

-- "is url potentially trustworthy"
abbrev pub is_trustworthy : Text → Result Bool Refusal
is_trustworthy url = and_then (url_in url) (λ url. Ok (is_trustworthy_url url))

-- "bad port", of a URL
abbrev pub goes_to_bad_port : Text → Result Bool Refusal
goes_to_bad_port url = and_then (web_url_in url) (λ url. Ok (is_bad_port url.port))
