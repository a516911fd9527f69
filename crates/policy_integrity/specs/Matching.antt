-- Whether a body matches integrity metadata (Subresource Integrity, section 3.3, "get the strongest metadata from
-- set" and "do bytes match metadataList").
use Rattle.std.specs.Prelude.{ℕ, Bool, ◌==◌, ◌||◌, max, false, List, length, map, filter, bytes_eq}
use Rattle.std.specs.Prelude.{Option, Some, None, option_map, if◌then◌else◌}
use Rattle.std.specs.List.{fold, list_any}
use Rattle.sha2.specs.Sha256.{sha256}
use Rattle.sha2.specs.Sha512.{sha384, sha512}
use Rattle.base64.specs.Engines.{standard}
use Rattle.base64.specs.GeneralPurpose.{encode_of}
use Rattle.value_text.specs.Texts.{Text}
use Rattle.value_text.specs.Ascii.{hyphen, plus_sign, slash, underscore}
use Rattle.policy_integrity.specs.declared.metadata.HashExpression.{HashExpression}

-- the strongest algorithm of the metadata: the greatest
abbrev pub strongest_algorithm : List HashExpression → ℕ
strongest_algorithm metadata = fold (λ strongest hash. max strongest hash.algorithm) 0 metadata

-- "get the strongest metadata from set": the hash expressions of this algorithm
abbrev pub strongest : List HashExpression → List HashExpression
strongest metadata = filter (λ hash. hash.algorithm == strongest_algorithm metadata) metadata

-- "apply algorithm to bytes"; no other number is an algorithm
abbrev pub digest : ℕ → Text → Option Text
digest algorithm body =
    if algorithm == 256 then Some (sha256 body)
    else if algorithm == 384 then Some (sha384 body)
    else if algorithm == 512 then Some (sha512 body) else None

-- the digest in standard base64 with padding
abbrev pub written_digest : ℕ → Text → Option Text
written_digest algorithm body = option_map (encode_of standard) (digest algorithm body)

-- `-` and `_` are read as `+` and `/` (profile)
abbrev pub standard_symbol : ℕ → ℕ
standard_symbol byte = if byte == hyphen then plus_sign else if byte == underscore then slash else byte

-- the value reads as this text, where there is one
abbrev pub reads_as : Text → Option Text → Bool
reads_as value None = false
reads_as value (Some text) = bytes_eq (map standard_symbol value) text

-- the body's digest is that of the hash expression
abbrev pub has_digest : Text → HashExpression → Bool
has_digest body hash = reads_as hash.value (written_digest hash.algorithm body)

-- "do bytes match metadataList": there is no metadata, or one of the strongest has the body's digest
abbrev pub matches : Text → List HashExpression → Bool
matches body metadata = length metadata == 0 || list_any (has_digest body) (strongest metadata)
