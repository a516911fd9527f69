-- What of the tokens of a text (RFC 8259) cannot be taken: values that nest too deep, and numbers that are too large.
use Rattle.std.specs.Prelude.{ℕ, suc, ◌-◌, ◌&&◌, Bool, true, List, [], ◌∷◌, nat_lt, is_some}
use Rattle.json.specs.Token.{Token}
use Rattle.serde_json.specs.Read.{max_depth, number_of}

-- with so many arrays and objects open, none is opened past the deepest, and each number has a value
abbrev pub is_taken : ℕ → List Token → Bool
is_taken deep [] = true
is_taken deep (Token.begin_object ∷ tokens) = nat_lt deep max_depth && is_taken (suc deep) tokens
is_taken deep (Token.end_object ∷ tokens) = is_taken (deep - 1) tokens
is_taken deep (Token.begin_array ∷ tokens) = nat_lt deep max_depth && is_taken (suc deep) tokens
is_taken deep (Token.end_array ∷ tokens) = is_taken (deep - 1) tokens
is_taken deep (Token.key s ∷ tokens) = is_taken deep tokens
is_taken deep (Token.string s ∷ tokens) = is_taken deep tokens
is_taken deep (Token.number s ∷ tokens) = is_some (number_of s) && is_taken deep tokens
is_taken deep (Token.boolean b ∷ tokens) = is_taken deep tokens
is_taken deep (Token.null ∷ tokens) = is_taken deep tokens
is_taken deep (Token.bad ∷ tokens) = is_taken deep tokens
