-- A Content-Length that is digits alone is one piece, which nothing is trimmed of.
use Rattle.std.proofs.Common.{arith, ◌≡◌, ◌^◌, ◌-◌, ◌∷◌, [], ℕ, List, refl, ap, ◌∙◌}
use Rattle.std.proofs.Common.{true, codes, reverse, Option, Some, None, option_map, IfSome}
use Rattle.std.proofs.lemmas.Grind.{common_steps}
use Rattle.std.proofs.lemmas.Bool.Decides.{nat_tests}
use Rattle.std.proofs.lemmas.List.{reverse-reverse}
use Rattle.std.specs.Char.{is_ascii_digit}
use Rattle.std.specs.List.{list_all}
use Rattle.value_lemmas.proofs.Lists.{list_all-reverse}
use Rattle.value_headers.specs.Headers.{combined}
use Rattle.value_lists.specs.Split.{pieces, split}
use Rattle.value_headers.specs.declared.headers.Header.{Header}
use Rattle.value_text.specs.Digits.{capped_digits}
use Rattle.value_text.specs.Trims.{tab_or_space, trimmed, trimmed_start}
use Rattle.link_http1.specs.Framings.{by_length, of_content_length}
use Rattle.link_http1.specs.declared.framing.Framing.TheVariants as framing

-- digits have no comma and no quotation mark
pieces-digits : (text : List ℕ) → list_all is_ascii_digit text ≡ true → pieces text ≡ text ∷ []
pieces-digits [] each = refl
pieces-digits (byte ∷ text) each = grind (arith, nat_tests, common_steps, pieces-digits text)

-- and no blanks
start-digits : (text : List ℕ) → list_all is_ascii_digit text ≡ true → trimmed_start tab_or_space text ≡ text
start-digits [] each = refl
start-digits (byte ∷ text) each = grind (arith, nat_tests, common_steps)

trimmed-digits : (text : List ℕ) → list_all is_ascii_digit text ≡ true → trimmed tab_or_space text ≡ text
trimmed-digits text each =
    ap (λ (l : List ℕ). reverse (trimmed_start tab_or_space (reverse l))) (start-digits text each)
    ∙ (ap (λ (l : List ℕ). reverse l) (start-digits (reverse text) (list_all-reverse is_ascii_digit text each))
    ∙ reverse-reverse text)

split-digits : (text : List ℕ) → list_all is_ascii_digit text ≡ true → split text ≡ text ∷ []
split-digits text each = rw (pieces-digits text each, trimmed-digits text each) refl

-- so the framing is by the number that they write
of-digits : (headers : List Header) (value : List ℕ) (length : ℕ) → combined (codes "Content-Length") headers
    ≡ Some value → Some length ≡ capped_digits value (2 ^ 64 - 1) → of_content_length headers ≡ framing.Length length
of-digits headers value length is found =
    ap (λ (text : Option (List ℕ)). by_length (option_map split text)) is
    ∙ grind (arith, nat_tests, common_steps, split-digits value, found)

-- the same of what reading it comes to
pub length-alone : (headers : List Header) (value : List ℕ) (result : Option ℕ) → combined (codes "Content-Length")
    headers
    ≡ Some value → result ≡ capped_digits value (2 ^ 64 - 1)
    → IfSome result (λ length. of_content_length headers ≡ framing.Length length)
length-alone headers value None is found = tt
length-alone headers value (Some length) is found = of-digits headers value length is found
