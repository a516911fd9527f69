-- How long an escaped text is, and texts of bytes that are written as they are.
use Rattle.std.proofs.Common.{◌≡◌, ◌∙◌, ap, ℕ, ◌+◌, ◌*◌, ◌&&◌, Bool, true}
use Rattle.std.proofs.Common.{false, List, [], ◌∷◌, ◌++◌, cond, length}
use Rattle.std.proofs.Common.{refl, arith, codes}
use Rattle.std.proofs.lemmas.List.Concat.{flat_map-append}
use Rattle.std.specs.Prelude.{not, filter}
use Rattle.std.specs.List.{list_all}
use Rattle.script_lines.specs.Escapes.{escaped, escaped_byte, hex_escape, is_plain}
use Rattle.script_lines.specs.Lines.{line, escaped_line}

-- the bytes that are not written as they are
abbrev others : List ℕ → List ℕ
others text = filter (λ byte. not (is_plain byte)) text

-- a text without such bytes has none of them
pub none_escaped : (text : List ℕ) → list_all is_plain text ≡ true → length (others text) ≡ 0
none_escaped [] all = refl
none_escaped (byte ∷ text) all = split (is_plain byte) (none_escaped text) all
  where
    split : (v : Bool) → (list_all is_plain text ≡ true → length (others text) ≡ 0) → (v && list_all is_plain text)
        ≡ true
        → length (cond (not v) (byte ∷ others text) (others text)) ≡ 0
    split true more all = more all
    split false more all = cc

-- three bytes more for each of them
pub escaped_len : (text : List ℕ) → length (escaped text) ≡ length text + length (others text) * 3
escaped_len [] = refl
escaped_len (byte ∷ text) = split (is_plain byte) (escaped_len text)
  where
    split : (v : Bool) → length (escaped text) ≡ length text + length (others text) * 3
        → length (cond v (byte ∷ []) (hex_escape byte) ++ escaped text)
        ≡ length (byte ∷ text) + length (cond (not v) (byte ∷ others text) (others text)) * 3
    split true more = omega (arith, more)
    split false more = omega (arith, more)

-- two texts that are escaped together
pub escaped_both : (x y : List ℕ) → escaped (x ++ y) ≡ escaped x ++ escaped y
escaped_both x y = flat_map-append escaped_byte x y

-- a header, escaped piece by piece
pub escaped_header : (name value : List ℕ) → escaped_line (name ++ codes ": " ++ value)
    ≡ codes "  " ++ escaped name ++ codes ": " ++ escaped value ++ codes "\n"
escaped_header name value = ap (λ (t : List ℕ). line (codes "  " ++ t))
    (escaped_both (name ++ codes ": ") value ∙ ap (λ (t : List ℕ). t ++ escaped value) (escaped_both name (codes ": ")))

-- a request line, escaped piece by piece
pub escaped_request : (method url : List ℕ) → escaped_line (method ++ codes " " ++ url ++ codes " HTTP/1.1")
    ≡ codes "  " ++ escaped method ++ codes " " ++ escaped url ++ codes " HTTP/1.1" ++ codes "\n"
escaped_request method url = ap (λ (t : List ℕ). line (codes "  " ++ t))
    (escaped_both (method ++ codes " " ++ url) (codes " HTTP/1.1")
    ∙ ap (λ (t : List ℕ). t ++ codes " HTTP/1.1") (escaped_both (method ++ codes " ") url
    ∙ ap (λ (t : List ℕ). t ++ escaped url) (escaped_both method (codes " "))))

-- what the lines that are escaped rest on
pub ruleset escaped_pieces = (escaped_header, escaped_request)
