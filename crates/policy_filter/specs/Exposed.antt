-- The names of response headers that a CORS response exposes ("CORS-exposed header-name list", Fetch, section 2.2.6, as
-- main fetch sets it, section 4.1).
use Rattle.std.specs.Prelude.{Bool, not, ◌&&◌, List, [], ◌∷◌, filter, codes, if◌then◌else◌}
use Rattle.value_text.specs.Texts.{Text}
use Rattle.value_text.specs.Wildcards.{has_wildcard}
use Rattle.value_lists.specs.declared.extract.Extracted.{Extracted}
use Rattle.value_lists.specs.declared.extract.Extracted.TheVariants.{Items}
use Rattle.value_lists.specs.declared.extract.Rule.TheVariants.{Tokens}
use Rattle.value_headers.specs.declared.headers.Header.{Header}
use Rattle.value_lists.specs.Extract.{extracted}
use Rattle.value_headers.specs.Headers.{is_named}

-- the names of a header list, each once, in order
abbrev pub header_names : List Header → List Text
header_names [] = []
header_names (header ∷ headers) = header.name ∷ filter (λ name. not (is_named name header)) (header_names headers)

-- the exposed names by what was extracted: `*` exposes all, unless the credentials mode is include; a list that is
-- absent or a failure exposes none
abbrev pub exposed_by : Bool → List Header → Extracted → List Text
exposed_by include headers (Items names) = if not include && has_wildcard names then header_names headers else names
exposed_by include headers _ = []

-- the exposed names of a header list, where the credentials mode is include or another
abbrev pub exposed_names : Bool → List Header → List Text
exposed_names include headers =
    exposed_by include headers (extracted Tokens (codes "Access-Control-Expose-Headers") headers)
