-- The two formats of scenarios. In the second one a document may be in a page of another origin, the scenario says
-- how long a response's body may be, and it may have more documents.
use Rattle.std.specs.Prelude.{ℕ, ◌==◌, List, [], ◌∷◌, codes, Option, Some, None, option_and_then, Ok, if◌then◌else◌}
use Rattle.serde_json.specs.Data.{Data}
use Rattle.serde_json.specs.Find.{get, as_number, as_u64}
use Rattle.url.specs.Parts.{Parts}
use Rattle.value_text.specs.Texts.{Text}
use Rattle.value_json.specs.Reading.{Read, number_of, optional}
use Rattle.script_reading.specs.Urls.{document_url_of}
use Rattle.script_reading.specs.declared.format.Format.{Format}
use Rattle.script_reading.specs.declared.format.Format.TheVariants.{First, Second}

-- the whole number that a value is, where it is one
abbrev pub whole_number : Data → Option ℕ
whole_number tree = option_and_then as_u64 (as_number tree)

-- the format of a number: the second is that of 2 alone
abbrev pub format_numbered : Option ℕ → Format
format_numbered None = First
format_numbered (Some number) = if number == 2 then Second else First

-- the format of a tree: the second where the root is an object whose `format` is the number 2
abbrev pub format_of : Data → Format
format_of tree = format_numbered (option_and_then whole_number (get (codes "format") tree))

abbrev pub number_of_format : Format → ℕ
number_of_format First = 1
number_of_format Second = 2

-- ---- the root

-- the keys after `format`, and after `body_limit` where there is one
abbrev pub later_keys : List Text
later_keys =
    codes "now" ∷ codes "hsts" ∷ codes "cookies" ∷ codes "servers" ∷ codes "routes" ∷ codes "piece"
    ∷ codes "documents" ∷ []

abbrev pub root_keys : Format → List Text
root_keys First = codes "format" ∷ later_keys
root_keys Second = codes "format" ∷ codes "body_limit" ∷ later_keys

-- the greatest number of bytes that a response's body may have
abbrev pub body_limit_of : Format → Data → Read ℕ
body_limit_of First tree = Ok 262144
body_limit_of Second tree = optional (codes "body_limit") 1048576 (number_of 1 1048576) tree

-- ---- documents

-- how many documents there are at most
abbrev pub most_documents : Format → ℕ
most_documents First = 64
most_documents Second = 128

abbrev pub document_keys : Format → List Text
document_keys First = codes "url" ∷ codes "headers" ∷ codes "script" ∷ []
document_keys Second = codes "url" ∷ codes "top" ∷ codes "headers" ∷ codes "script" ∷ []

-- the URL of the page at the top of a document with this URL, which is the document's where no key says otherwise
abbrev pub top_of : Format → Parts → Data → Read Parts
top_of First url tree = Ok url
top_of Second url tree = optional (codes "top") url document_url_of tree
