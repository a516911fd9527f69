-- Whether a source list lets a request through (CSP 3, section 6.7.2: "does request match source list?" and what it
-- asks). The order in which nonce, integrity, 'strict-dynamic' and URL decide is this project's own choice.
use Rattle.std.specs.Prelude.{Bool, true, false, not, ◌==◌, ◌&&◌, ◌||◌, List, [], ◌∷◌, length, bytes_eq}
use Rattle.std.specs.Prelude.{if◌then◌else◌}
use Rattle.std.specs.List.{list_all, list_any}
use Rattle.value_text.specs.Texts.{Text}
use Rattle.policy_csp_match.specs.declared.source.Source.{Source}
use Rattle.policy_csp_match.specs.declared.source.Source.TheVariants as source
use Rattle.policy_csp_match.specs.Matching.{matches}
use Rattle.policy_integrity.specs.declared.metadata.HashExpression.{HashExpression}
use Rattle.policy_integrity.specs.Metadata.{metadata_of}
use Rattle.value_origins.specs.declared.origin.Origin.{Origin}
use Rattle.value_requests.specs.declared.policy.Destination.{Destination}
use Rattle.value_requests.specs.declared.policy.Destination.TheVariants as destination
use Rattle.value_requests.specs.declared.request.Request.{Request}
use Rattle.value_requests.specs.Requests.{current_url}

-- ---- nonces

-- a nonce-source of this value
abbrev pub is_nonce : Text → Source → Bool
is_nonce nonce (source.Nonce value) = bytes_eq value nonce
is_nonce nonce _ = false

-- "does nonce match source list": there is a nonce, and a nonce-source of it
abbrev pub nonce_matches : Text → List Source → Bool
nonce_matches nonce sources = not (length nonce == 0) && list_any (is_nonce nonce) sources

-- ---- integrity

-- a hash-source of this algorithm and this value
abbrev pub is_hash : HashExpression → Source → Bool
is_hash hash (source.Hash algorithm value) = algorithm == hash.algorithm && bytes_eq value hash.value
is_hash hash _ = false

-- "does integrity metadata match source list?": there are hash expressions, and for each of them there is a hash-source
abbrev pub integrity_matches : List HashExpression → List Source → Bool
integrity_matches metadata sources =
    not (length metadata == 0) && list_all (λ hash. list_any (is_hash hash) sources) metadata

-- ---- 'strict-dynamic'

-- 'strict-dynamic'
abbrev pub is_strict_dynamic : Source → Bool
is_strict_dynamic source.StrictDynamic = true
is_strict_dynamic _ = false

-- ---- URLs

-- 'none'
abbrev pub is_none_word : Source → Bool
is_none_word source.NoneWord = true
is_none_word _ = false

-- the list has no source, or 'none' alone
abbrev pub is_none_list : List Source → Bool
is_none_list [] = true
is_none_list (only ∷ []) = is_none_word only
is_none_list _ = false

-- "does url match source list in origin with redirect count", of the current URL
abbrev pub url_matches : List Source → Request → Origin → Bool
url_matches sources request document =
    not (is_none_list sources)
    && list_any (λ source. matches source (current_url request) document request.redirects) sources

-- ---- source lists

-- a script is let through by its nonce, by its integrity metadata, by 'strict-dynamic' where no parser inserted it, and
-- without that word by its URL
abbrev pub script_passes : List Source → Request → Origin → Bool
script_passes sources request document =
    nonce_matches request.nonce sources
    || integrity_matches (metadata_of request.integrity) sources
    || (if list_any is_strict_dynamic sources then not request.parser else url_matches sources request document)

-- a style is let through by its nonce or its URL
abbrev pub style_passes : List Source → Request → Origin → Bool
style_passes sources request document =
    nonce_matches request.nonce sources || url_matches sources request document

-- the source list lets the request through
abbrev pub passes : List Source → Request → Origin → Destination → Bool
passes sources request document destination.Script = script_passes sources request document
passes sources request document destination.Style = style_passes sources request document
passes sources request document _ = url_matches sources request document
