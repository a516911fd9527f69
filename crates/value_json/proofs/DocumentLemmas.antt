-- What a text is read as, over its document.
use Rattle.std.proofs.Common.{◌≡◌, ℕ, ◌≤◌, ◌<◌, List, [], Bool, true, false, Option, Some, None, refl, sym, ap, ◌∙◌}
use Rattle.std.proofs.Common.{arith, append-nil, true≢false}
use Rattle.std.proofs.lemmas.Bool.{leb-true}
use Rattle.std.proofs.lemmas.Bool.Decides.{leb_tells}
use Rattle.std.specs.Prelude.{option_and_then, ◌&&◌, is_some, IsSome}
use Rattle.json.specs.Token.{Token}
use Rattle.json.specs.Lex.{tokens}
use Rattle.json.specs.Json as json
use Rattle.json.specs.Tree as written
use Rattle.json.proofs.Found.{Some_inj, one_reading, document-BeginsWith}
use Rattle.json.proofs.Nesting.{value-depth}
use Rattle.json.proofs.Printed.Trees.{value-json_tokens}
use Rattle.json.proofs.Unique.Spelling.{value-json_tokens_back, tokens-document}
use Rattle.serde_json.specs.Data.{Data}
use Rattle.serde_json.specs.Read.{of_json, max_depth, read}
use Rattle.value_json.specs.Private.Taken.{is_taken}
use Rattle.value_json.proofs.TakenLemmas.{fits, taken-whole}

abbrev last : Option (json.Json × List Token) → Option json.Json
last o = option_and_then (λ (p : json.Json × List Token). json.if_last p.0 p.1) o

-- a document that nests no deeper than it may
shallow : (text : List ℕ) (j : json.Json) → json.document text ≡ Some j → written.depth j ≤ max_depth
    → last (json.value max_depth (tokens text)) ≡ Some j
shallow text j e h =
    ap (λ (ts : List Token). last (json.value max_depth ts)) (tokens-document text j e
    ∙ sym (append-nil (written.json_tokens j)))
    ∙ ap last (value-json_tokens j max_depth [] h)

-- what is read at the lesser depth is read at the greater one
none-at : (text : List ℕ) (o : Option (json.Json × List Token)) → json.value max_depth (tokens text) ≡ o
    → json.document text ≡ None → last o ≡ None
none-at text None e none = refl
none-at text (Some (j, rest)) e none =
    let spelt = value-json_tokens_back max_depth (tokens text) rest j e in
    let shallow : written.depth j ≤ max_depth = value-depth max_depth (tokens text) rest j e in
    let same : json.value json.max_depth (tokens text) ≡ Some (j, rest) =
    ap (json.value json.max_depth) spelt ∙ value-json_tokens j json.max_depth rest (omega arith) in
    sym (ap last same) ∙ none

pub no-document : (text : List ℕ) → json.document text ≡ None → read text ≡ None
no-document text none =
    ap (option_and_then of_json) (none-at text (json.value max_depth (tokens text)) refl none)

-- a document that nests deeper is not read
too-deep : (text : List ℕ) (j : json.Json) (o : Option (json.Json × List Token))
    → json.value max_depth (tokens text) ≡ o
    → json.document text ≡ Some j → max_depth < written.depth j → last o ≡ None
too-deep text j None e is deep = refl
too-deep text j (Some (i, rest)) e is deep =
    let begins = document-BeginsWith text j is in
    let same = one_reading max_depth begins.0 (tokens text) (i, rest) (j, begins.1) e begins.2 in
    let one : written.depth i ≡ written.depth j =
    ap (λ (p : json.Json × List Token). written.depth p.0) (Some_inj (i, rest) (j, begins.1) same) in
    absurd (omega (arith, one, value-depth max_depth (tokens text) rest i e, deep))

some-of : {A : Type 0} (o : Option A) → is_some o ≡ true → (a : A) × (o ≡ Some a)
some-of None e = absurd (true≢false (sym e))
some-of (Some a) e = (a, refl)

both-true : (a b : Bool) → true ≡ a && b → (a ≡ true) × (b ≡ true)
both-true true b e = (refl, sym e)
both-true false b e = absurd (true≢false e)

-- a document whose tokens are taken has a meaning, which is what is read
pub taken-read : (text : List ℕ) (j : json.Json) → json.document text ≡ Some j → true ≡ is_taken 0 (tokens text)
    → (d : Data) × (of_json j ≡ Some d) × (read text ≡ Some d)
taken-read text j is taken =
    let both = both-true (fits (written.depth j)) (is_some (of_json j))
    (taken ∙ ap (is_taken 0) (tokens-document text j is) ∙ taken-whole j) in
    let d = some-of (of_json j) both.1 in
    (d.0, d.1, ap (option_and_then of_json) (shallow text j is (leb-true (written.depth j) max_depth both.0)) ∙ d.1)

not-both : (text : List ℕ) (j : json.Json) (b : Bool) → fits (written.depth j) ≡ b → json.document text ≡ Some j
    → false ≡ b && is_some (of_json j) → read text ≡ None
not-both text j true e is fails =
    ap (option_and_then of_json) (shallow text j is (leb-true (written.depth j) max_depth e))
    ∙ none-of (of_json j) fails
  where
    none-of : (o : Option Data) → false ≡ is_some o → o ≡ None
    none-of None fails = refl
    none-of (Some d) fails = absurd (true≢false (sym fails))
not-both text j false e is fails =
    let deep : max_depth < written.depth j = grind (arith, leb_tells, e) in
    ap (option_and_then of_json) (too-deep text j (json.value max_depth (tokens text)) refl is deep)

pub untaken-read : (text : List ℕ) (j : json.Json) → json.document text ≡ Some j → false ≡ is_taken 0 (tokens text)
    → read text ≡ None
untaken-read text j is untaken =
    not-both text j (fits (written.depth j)) refl is
    (untaken ∙ ap (is_taken 0) (tokens-document text j is) ∙ taken-whole j)

some-is : {A : Type 0} (o : Option A) → IsSome o → (a : A) × (o ≡ Some a)
some-is None is = absurd (true≢false (sym is))
some-is (Some a) is = (a, refl)

pub document-of : (text : List ℕ) → IsSome (json.document text) → (j : json.Json) × (json.document text ≡ Some j)
document-of text is = some-is (json.document text) is
