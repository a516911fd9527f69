-- What an answer's headers let a request of another origin have.
use Rattle.std.specs.Prelude.{Bool, List, Result, Ok}
use Rattle.value_text.specs.Texts.{Text}
use Rattle.value_headers.specs.declared.headers.Header.{Header}
use Rattle.value_origins.specs.Origins.{tuple_origin}
use Rattle.policy_checks.specs.ResourcePolicy.{corp_blocks}
use Rattle.c_rules.specs.Answers.{and_then}
use Rattle.c_rules.specs.Reading.{web_url_in}
use Rattle.c_rules.specs.declared.refusal.Refusal.{Refusal}

-- "cross-origin resource policy check" of the answer of a URL, for a page
abbrev pub is_kept_by_resource_policy : Text → Text → List Header → Result Bool Refusal
is_kept_by_resource_policy page url headers =
    and_then (web_url_in page) (λ page. and_then (web_url_in url)
    (λ url. Ok (corp_blocks (tuple_origin page) (tuple_origin url) headers)))
