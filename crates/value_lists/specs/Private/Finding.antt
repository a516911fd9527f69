-- What a search finds of the values of a name: none, one, or at least two.
use Rattle.std.specs.Prelude.{List, [], ◌∷◌, ◌≡◌, ◌≤◌, length}
use Rattle.value_text.specs.Texts.{Text}
use Rattle.value_lists.specs.declared.extract.Found.{Found}
use Rattle.value_lists.specs.declared.extract.Found.TheVariants.{Nothing, Once, Repeated}

-- there is no value, this one alone, or more than one
abbrev pub WasFound : Found → List Text → Type 0
WasFound Nothing values = values ≡ []
WasFound (Once value) values = values ≡ value.now ∷ []
WasFound Repeated values = 2 ≤ length values

-- all values are what was found and then those that are left; where two were found, there are at least two
abbrev pub FoundBefore : Found → List Text → List Text → Type 0
FoundBefore Nothing left values = values ≡ left
FoundBefore (Once value) left values = values ≡ value.now ∷ left
FoundBefore Repeated left values = 2 ≤ length values
