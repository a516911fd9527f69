-- The grammar of the Strict-Transport-Security header field (RFC 6797, section 6.1).
use Rattle.std.specs.Prelude.{◌≡◌, ℕ, Bool, ◌==◌, List, [], ◌∷◌, ◌++◌, Some, None, IsTrue}
use Rattle.std.specs.List.{list_all, list_any}
use Rattle.std.specs.Str.{str_to_ascii_lowercase}
use Rattle.value_text.specs.Texts.{Text}
use Rattle.value_text.specs.Ascii.{backslash, equals_sign, quotation_mark, semicolon}
use Rattle.value_text.specs.Tokens.{is_token}
use Rattle.value_text.specs.Trims.{tab_or_space}
use Rattle.book_hosts.specs.declared.directives.Directive.{Directive}

-- a tab or a space
abbrev pub is_blank : ℕ → Bool
is_blank byte = list_any (λ blank. blank == byte) tab_or_space

-- tabs and spaces alone
abbrev pub IsBlank : Text → Type 0
IsBlank text = IsTrue (list_all is_blank text)

-- a text that has this one between blanks
pub record IsPadded (inner text : Text) : Type 0 where
  pub before : Text
  pub behind : Text
  pub blank_before : IsBlank before
  pub blank_behind : IsBlank behind
  pub text_is : text ≡ before ++ (inner ++ behind)

-- what is written of a quoted-string after its first quote, and its value: a backslash takes the next
-- byte with it, and the first other quote is the last byte (RFC 9110, section 5.6.4)
pub data IsQuoted : Text → Text → Type 0 where
  closed : IsQuoted (quotation_mark ∷ []) []
  plain : (byte : ℕ) (written value : Text) → (byte ≡ quotation_mark → ⊥) → (byte ≡ backslash → ⊥)
      → IsQuoted written value → IsQuoted (byte ∷ written) (byte ∷ value)
  escaped : (byte : ℕ) (written value : Text) → IsQuoted written value
      → IsQuoted (backslash ∷ byte ∷ written) (byte ∷ value)

-- directive-value: a token, which is its own value, or a quoted-string
pub data IsValue : Text → Text → Type 0 where
  token : (text : Text) → IsTrue (is_token text) → IsValue text text
  quoted : (written value : Text) → IsQuoted written value → IsValue (quotation_mark ∷ written) value

-- directive: a name, which is a token, or a name, "=" and a value; it is seen with its name in lower
-- case, since names compare in any case
pub data IsDirective : Text → Directive → Type 0 where
  bare : (name text : Text) → IsTrue (is_token name) → IsPadded name text
      → IsDirective text (record { name = str_to_ascii_lowercase name; value = None })
  valued : (name left written right value : Text) → IsTrue (is_token name) → IsPadded name left
      → IsValue written value → IsPadded written right
      → IsDirective (left ++ equals_sign ∷ right) (record { name = str_to_ascii_lowercase name; value = Some value })

-- [ directive ]
pub data IsPiece : Text → List Directive → Type 0 where
  blank : (text : Text) → IsBlank text → IsPiece text []
  written : (text : Text) (directive : Directive) → IsDirective text directive → IsPiece text (directive ∷ [])

-- the field: [ directive ] *( ";" [ directive ] )
pub data IsField : Text → List Directive → Type 0 where
  last : (text : Text) (directives : List Directive) → IsPiece text directives → IsField text directives
  more : (piece rest : Text) (directives others : List Directive) → IsPiece piece directives → IsField rest others
      → IsField (piece ++ semicolon ∷ rest) (directives ++ others)
