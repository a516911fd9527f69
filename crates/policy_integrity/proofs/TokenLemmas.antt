-- The hash expression of a token, from its parts.
use Rattle.std.proofs.Common.{◌≡◌, ◌==◌, ℕ, List, Option, refl}
use Rattle.std.specs.List.{after_first, before_first}
use Rattle.value_text.specs.Ascii.{hyphen, question_mark}
use Rattle.policy_integrity.specs.Metadata.{algorithm_named, expression_of, hash_of}

-- the hash expression of a token is that of its algorithm and value
pub hash_of_parts : (token expression name value : List ℕ) (algorithm : Option ℕ)
    → expression ≡ before_first (λ byte. byte == question_mark) token
    → name ≡ before_first (λ byte. byte == hyphen) expression
    → value ≡ after_first (λ byte. byte == hyphen) expression
    → algorithm ≡ algorithm_named name
    → hash_of token ≡ expression_of algorithm value
hash_of_parts token expression name value algorithm e n v a = rw (a, n, v, e) refl
