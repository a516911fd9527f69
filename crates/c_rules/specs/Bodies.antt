-- What is asked of a whole body.
use Rattle.std.specs.Prelude.{Bool, Result, Ok}
use Rattle.value_text.specs.Texts.{Text}
use Rattle.policy_integrity.specs.Matching.{matches}
use Rattle.policy_integrity.specs.Metadata.{metadata_of}
use Rattle.c_rules.specs.declared.refusal.Refusal.{Refusal}

-- "do bytes match metadataList", of the metadata of a text; no text is refused
abbrev pub matches_integrity : Text → Text → Result Bool Refusal
matches_integrity metadata body = Ok (matches body (metadata_of metadata))
