-- MIME types of answers.
use Rattle.std.specs.Prelude.{List, Option, Result, Ok}
use Rattle.value_text.specs.Texts.{Text}
use Rattle.value_headers.specs.declared.headers.Header.{Header}
use Rattle.value_lists.specs.Essence.{essence_of}
use Rattle.c_rules.specs.declared.refusal.Refusal.{Refusal}

-- the essence of the MIME type of a header list; no list is refused
abbrev pub essence_in : List Header → Result (Option Text) Refusal
essence_in list = Ok (essence_of list)
