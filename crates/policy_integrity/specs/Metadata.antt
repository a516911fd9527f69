-- The metadata of an integrity text (Subresource Integrity, section 3.3, "parse metadata", and the grammar of
-- section 3.5).
use Rattle.std.specs.Prelude.{ℕ, ◌==◌, List, codes, bytes_eq, Option, Some, None, option_map, if◌then◌else◌}
use Rattle.std.specs.List.{after_first, before_first, filter_map}
use Rattle.value_text.specs.Texts.{Text}
use Rattle.value_text.specs.Ascii.{hyphen, question_mark}
use Rattle.value_text.specs.Base64.{is_base64_value}
use Rattle.value_text.specs.Words.{words}
use Rattle.policy_integrity.specs.declared.metadata.HashExpression.{HashExpression}

-- hash-algorithm, by its bits; the name is in lower case
abbrev pub algorithm_named : Text → Option ℕ
algorithm_named name =
    if bytes_eq name (codes "sha256") then Some 256
    else if bytes_eq name (codes "sha384") then Some 384
    else if bytes_eq name (codes "sha512") then Some 512 else None

-- the hash expression of an algorithm and a value, where both are valid
abbrev pub expression_of : Option ℕ → Text → Option HashExpression
expression_of algorithm value =
    if is_base64_value value then option_map (λ bits. record { algorithm = bits; value = value }) algorithm else None

-- hash-expression: the algorithm's name, `-` and the value
abbrev pub hash_expression : Text → Option HashExpression
hash_expression text =
    expression_of (algorithm_named (before_first (λ byte. byte == hyphen) text))
    (after_first (λ byte. byte == hyphen) text)

-- the hash expression of a token, without its options: they begin at the first `?`
abbrev pub hash_of : Text → Option HashExpression
hash_of token = hash_expression (before_first (λ byte. byte == question_mark) token)

-- "parse metadata": the hash expressions of the tokens; other tokens are skipped
abbrev pub metadata_of : Text → List HashExpression
metadata_of text = filter_map hash_of (words text)
