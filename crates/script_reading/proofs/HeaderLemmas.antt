-- The values of a name in a header list that headers were appended to: those of another name add none.
use Rattle.std.proofs.Common.{◌≡◌, ◌++◌, ◌∷◌, [], ℕ, List, map, ap, ◌∙◌}
use Rattle.std.proofs.Common.{Result, Ok, Err, OnOk}
use Rattle.std.specs.Prelude.{⊤}
use Rattle.value_headers.specs.Headers.{appended, values_of}
use Rattle.value_headers.specs.declared.headers.Header.{Header}
use Rattle.value_headers.proofs.ValueLemmas.{values-all_appended, values-appended}
use Rattle.value_requests.specs.declared.init.Pair.{Pair}
use Rattle.script_reading.specs.Headers.{header_of_pair, listed}

pub values-listed : (name : List ℕ) (pairs : List Pair)
    → values_of name (listed pairs) ≡ values_of name (map header_of_pair pairs)
values-listed name pairs = values-all_appended name (map header_of_pair pairs) []

-- the values of a list that a header was appended to
pub appended-named : (name text value : List ℕ) (headers new : List Header) (pair : Pair)
    → new ≡ appended text value headers → text ≡ pair.name → value ≡ pair.value
    → values_of name new ≡ values_of name headers ++ values_of name (header_of_pair pair ∷ [])
appended-named name text value headers new pair is named valued =
    ap (values_of name) is ∙ values-appended name text value headers
    ∙ ap (λ (n : List ℕ). values_of name headers ++ values_of name (record { name = n; value = value } ∷ [])) named
    ∙ ap (λ (v : List ℕ). values_of name headers ++ values_of name (record { name = pair.name; value = v } ∷ []))
    valued

-- what follows from what a call ensures where it succeeds
pub on-ok : {E : Type 0} (result : Result ⊤ E) (A B : Type 0) → (A → B) → OnOk result A → OnOk result B
on-ok (Ok done) A B f holds = f holds
on-ok (Err error) A B f holds = holds
