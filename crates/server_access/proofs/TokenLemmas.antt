-- Lists of tokens with commas between, and texts without white space.
use Rattle.std.proofs.Common.{◌≡◌, ◌==◌, ℕ, Bool, true, false, not, ◌||◌, cond, List, [], ◌∷◌, ◌++◌, length}
use Rattle.std.proofs.Common.{map, filter, reverse, refl, ap, sym, ◌∙◌, true≢false, if◌then◌else◌, eqb-true}
use Rattle.std.proofs.lemmas.Bool.{and_from}
use Rattle.std.proofs.lemmas.List.{append-nil, reverse-reverse}
use Rattle.std.proofs.lemmas.List.Folds.{list_all-append}
use Rattle.std.specs.Cmp.{first_so, second_so}
use Rattle.std.specs.List.{join_with_byte, list_all, list_any}
use Rattle.value_lemmas.proofs.Lists.{list_all-reverse}
use Rattle.value_text.specs.Ascii.{comma}
use Rattle.value_text.specs.Pieces.{with_front}
use Rattle.value_text.specs.Tokens.{is_tchar, is_token}
use Rattle.value_text.specs.Trims.{tab_or_space, trimmed, trimmed_end, trimmed_start}
use Rattle.value_text.specs.Words.{is_filled}
use Rattle.value_lists.specs.declared.extract.Extracted.{Extracted}
use Rattle.value_lists.specs.declared.extract.Extracted.TheVariants.{Absent, Failure, Items}
use Rattle.value_lists.specs.declared.extract.Rule.TheVariants.{Tokens}
use Rattle.value_lists.specs.Extract.{between_commas, extracted_of, token_list}

-- ---- bytes

-- a tchar is another byte than one that is none
tchar-other : (byte other : ℕ) → is_tchar other ≡ false → is_tchar byte ≡ true → (byte == other) ≡ false
tchar-other byte other none is = by-test (byte == other) refl
  where
    by-test : (b : Bool) → (byte == other) ≡ b → b ≡ false
    by-test true same = absurd (true≢false (sym is ∙ ap is_tchar (eqb-true byte other same) ∙ none))
    by-test false same = refl

-- the other way round
other-tchar : (byte other : ℕ) → is_tchar other ≡ false → is_tchar byte ≡ true → (other == byte) ≡ false
other-tchar byte other none is = by-test (other == byte) refl
  where
    by-test : (b : Bool) → (other == byte) ≡ b → b ≡ false
    by-test true same = absurd (true≢false (sym is ∙ sym (ap is_tchar (eqb-true other byte same)) ∙ none))
    by-test false same = refl

-- the byte is none of the blanks
abbrev pub is_solid : List ℕ → ℕ → Bool
is_solid blanks byte = not (list_any (λ blank. blank == byte) blanks)

-- a tchar is no blank, where no blank is a tchar
pub tchar-solid : (blanks : List ℕ) → list_all (λ blank. not (is_tchar blank)) blanks ≡ true → (byte : ℕ)
    → is_tchar byte ≡ true → is_solid blanks byte ≡ true
tchar-solid [] none byte is = refl
tchar-solid (blank ∷ blanks) none byte is =
    ap (λ (b : Bool). not (b || list_any (λ other. other == byte) blanks)) (other-tchar byte blank (negated
    (is_tchar blank) (first_so (not (is_tchar blank)) _ none)) is)
    ∙ tchar-solid blanks (second_so (not (is_tchar blank)) _ none) byte is
  where
    negated : (b : Bool) → not b ≡ true → b ≡ false
    negated true so = sym so
    negated false so = refl

-- ---- texts without blanks

start-solid : (blanks text : List ℕ) → list_all (is_solid blanks) text ≡ true → trimmed_start blanks text ≡ text
start-solid blanks [] all = refl
start-solid blanks (byte ∷ text) all =
    ap (λ (b : Bool). if b then trimmed_start blanks text else byte ∷ text)
    (negated (list_any (λ blank. blank == byte) blanks)
    (first_so (is_solid blanks byte) (list_all (is_solid blanks) text) all))
  where
    negated : (b : Bool) → not b ≡ true → b ≡ false
    negated true so = sym so
    negated false so = refl

-- nothing is trimmed of them
pub solid-trimmed : (blanks text : List ℕ) → list_all (is_solid blanks) text ≡ true → trimmed blanks text ≡ text
solid-trimmed blanks text all =
    ap (trimmed_end blanks) (start-solid blanks text all)
    ∙ ap reverse (start-solid blanks (reverse text) (list_all-reverse (is_solid blanks) text all))
    ∙ reverse-reverse text

-- each byte of a token is as all tchars are
pub all-tchars : (test : ℕ → Bool) → ((byte : ℕ) → is_tchar byte ≡ true → test byte ≡ true) → (text : List ℕ)
    → list_all is_tchar text ≡ true → list_all test text ≡ true
all-tchars test so [] all = refl
all-tchars test so (byte ∷ text) all =
    and_from (test byte) (list_all test text) (so byte (first_so (is_tchar byte) (list_all is_tchar text) all))
    (all-tchars test so text (second_so (is_tchar byte) (list_all is_tchar text) all))

tchars-of : (text : List ℕ) → is_token text ≡ true → list_all is_tchar text ≡ true
tchars-of text is = second_so (not (length text == 0)) (list_all is_tchar text) is

-- and each byte of tokens with commas between, where a comma is too
pub all-joined : (test : ℕ → Bool) → test comma ≡ true → ((byte : ℕ) → is_tchar byte ≡ true → test byte ≡ true)
    → (first : List ℕ) (texts : List (List ℕ)) → list_all is_token (first ∷ texts) ≡ true
    → list_all test (join_with_byte comma (first ∷ texts)) ≡ true
all-joined test at_comma so first [] all =
    all-tchars test so first (tchars-of first (first_so (is_token first) true all))
all-joined test at_comma so first (text ∷ texts) all =
    list_all-append test first (comma ∷ join_with_byte comma (text ∷ texts))
    ∙ and_from (list_all test first) _
    (all-tchars test so first (tchars-of first (first_so (is_token first) (list_all is_token (text ∷ texts)) all)))
    (and_from (test comma) _ at_comma
    (all-joined test at_comma so text texts (second_so (is_token first) (list_all is_token (text ∷ texts)) all)))

-- ---- what is extracted of them

between-token : (text rest : List ℕ) → list_all is_tchar text ≡ true
    → between_commas (text ++ comma ∷ rest) ≡ text ∷ between_commas rest
between-token [] rest all = refl
between-token (byte ∷ text) rest all =
    ap (λ (b : Bool). if b then [] ∷ between_commas (text ++ comma ∷ rest)
    else with_front byte (between_commas (text ++ comma ∷ rest)))
    (tchar-other byte comma refl (first_so (is_tchar byte) (list_all is_tchar text) all))
    ∙ ap (with_front byte) (between-token text rest (second_so (is_tchar byte) (list_all is_tchar text) all))

between-last : (text : List ℕ) → list_all is_tchar text ≡ true → between_commas text ≡ text ∷ []
between-last [] all = refl
between-last (byte ∷ text) all =
    ap (λ (b : Bool). if b then [] ∷ between_commas text else with_front byte (between_commas text))
    (tchar-other byte comma refl (first_so (is_tchar byte) (list_all is_tchar text) all))
    ∙ ap (with_front byte) (between-last text (second_so (is_tchar byte) (list_all is_tchar text) all))

between-joined : (first : List ℕ) (texts : List (List ℕ)) → list_all is_token (first ∷ texts) ≡ true
    → between_commas (join_with_byte comma (first ∷ texts)) ≡ first ∷ texts
between-joined first [] all = between-last first (tchars-of first (first_so (is_token first) true all))
between-joined first (text ∷ texts) all =
    between-token first (join_with_byte comma (text ∷ texts))
    (tchars-of first (first_so (is_token first) (list_all is_token (text ∷ texts)) all))
    ∙ ap (λ (l : List (List ℕ)). first ∷ l)
    (between-joined text texts (second_so (is_token first) (list_all is_token (text ∷ texts)) all))

-- a token has nothing to trim
token-trimmed : (text : List ℕ) → is_token text ≡ true → trimmed tab_or_space text ≡ text
token-trimmed text is =
    solid-trimmed tab_or_space text
    (all-tchars (is_solid tab_or_space) (tchar-solid tab_or_space refl) text (tchars-of text is))

-- the items of tokens are the tokens
items-kept : (texts : List (List ℕ)) → list_all is_token texts ≡ true
    → filter is_filled (map (trimmed tab_or_space) texts) ≡ texts
items-kept [] all = refl
items-kept (text ∷ texts) all =
    let is : is_token text ≡ true = first_so (is_token text) (list_all is_token texts) all in
    ap (λ (t : List ℕ). cond (is_filled t) (t ∷ filter is_filled (map (trimmed tab_or_space) texts))
    (filter is_filled (map (trimmed tab_or_space) texts))) (token-trimmed text is)
    ∙ ap (λ (b : Bool). cond b (text ∷ filter is_filled (map (trimmed tab_or_space) texts))
    (filter is_filled (map (trimmed tab_or_space) texts)))
    (first_so (not (length text == 0)) (list_all is_tchar text) is)
    ∙ ap (λ (l : List (List ℕ)). text ∷ l) (items-kept texts (second_so (is_token text) (list_all is_token texts) all))

-- the value of a list of texts, where there are some
abbrev pub list_value : List (List ℕ) → List (List ℕ)
list_value [] = []
list_value (text ∷ texts) = join_with_byte comma (text ∷ texts) ∷ []

-- what is found in it
abbrev pub found_in : List (List ℕ) → Extracted
found_in [] = Absent
found_in (text ∷ texts) = Items (text ∷ texts)

pub extracted-list : (texts : List (List ℕ)) → list_all is_token texts ≡ true
    → extracted_of Tokens (list_value texts) ≡ found_in texts
extracted-list [] all = refl
extracted-list (text ∷ texts) all =
    ap (λ (pieces : List (List ℕ)). token_list (filter is_filled (map (trimmed tab_or_space) pieces) ++ []))
    (between-joined text texts all)
    ∙ ap (λ (l : List (List ℕ)). token_list (l ++ [])) (items-kept (text ∷ texts) all)
    ∙ ap token_list (append-nil (text ∷ texts))
    ∙ ap (λ (b : Bool). if b then Items (text ∷ texts) else Failure) all
