-- Texts without a space.
use Rattle.std.proofs.Common.{ℕ, List, [], ◌∷◌, arith}
use Rattle.std.proofs.lemmas.Grind.{common_steps}
use Rattle.std.specs.Prelude.{not, ◌==◌, IsTrue}
use Rattle.std.specs.List.{list_all}
use Rattle.value_text.specs.Ascii.{lacks_space, space}
use Rattle.value_text.specs.Tokens.{is_tchar, is_token}

-- no space is a tchar
tchar-not-space : (byte : ℕ) → IsTrue (is_tchar byte) → IsTrue (not (byte == space))
tchar-not-space byte is = grind (arith, common_steps)

tchars-lack-space : (text : List ℕ) → IsTrue (list_all is_tchar text) → IsTrue (lacks_space text)
tchars-lack-space [] all = grind arith
tchars-lack-space (byte ∷ text) all = grind (arith, common_steps, tchar-not-space byte, tchars-lack-space text)

-- a token has no space
pub token-lacks_space : (text : List ℕ) → IsTrue (is_token text) → IsTrue (lacks_space text)
token-lacks_space text is = grind (arith, common_steps, tchars-lack-space text)
