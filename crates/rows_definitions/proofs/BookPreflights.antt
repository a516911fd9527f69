-- The definitions computed on worked examples.
use Rattle.std.proofs.Common.{◌≡◌, ℕ, List, [], ◌∷◌, ◌++◌, Bool, true, false, Option, Some, None, codes, refl}
use Rattle.book_preflights.specs.declared.entry.Allowed.{Allowed}
use Rattle.book_preflights.specs.declared.entry.Allowed.TheVariants.{Method, HeaderName}
use Rattle.book_preflights.specs.declared.question.Lesson.{Lesson}
use Rattle.book_preflights.specs.declared.question.Question.{Question}
use Rattle.book_preflights.specs.Cache.{cleared, covers, learned}
use Rattle.book_preflights.specs.Keys.{keyed}

-- the type of a value: that of kept entries has no public name
abbrev TypeOf : {X : Type 0} → X → Type 0
TypeOf {X = X} value = X

abbrev Kept : Type 0
Kept = TypeOf (keyed [] (record {
  origin = [];
  url = [];
  include = false;
  made = 0;
  age = 0;
  allowed = Method [];
}))

-- key k, origin o, URL u
abbrev lesson : Bool → ℕ → List (List ℕ) → List (List ℕ) → Lesson
lesson include age methods names = record {
  key = codes "k";
  origin = codes "o";
  url = codes "u";
  include = include;
  age = age;
  methods = methods;
  names = names;
}

abbrev question : Bool → Option (List ℕ) → List (List ℕ) → Question
question include method names = record {
  key = codes "k";
  origin = codes "o";
  url = codes "u";
  include = include;
  method = method;
  names = names;
}

abbrev one : List ℕ → List (List ℕ)
one text = text ∷ []

abbrev entry : List ℕ → Bool → ℕ → ℕ → Allowed → Kept
entry key include made age allowed = keyed key (record {
  origin = codes "o";
  url = codes "u";
  include = include;
  made = made;
  age = age;
  allowed = allowed;
})

abbrev put : List Kept
put = learned (lesson false 5 (one (codes "PUT")) []) 0 []

-- a lesson of age 5 at 0 covers at 4 and not at 5, methods by their case
pub computes-ages : (covers (question false (Some (codes "PUT")) []) 4 put ≡ true)
    × (covers (question false (Some (codes "PUT")) []) 5 put ≡ false)
    × (covers (question false (Some (codes "put")) []) 4 put ≡ false)
    × (covers (question true (Some (codes "PUT")) []) 4 put ≡ false)
    × (covers (question false None []) 5 [] ≡ true)
computes-ages = (refl, refl, refl, refl, refl)

abbrev wild : List Kept
wild = learned (lesson true 5 (one (codes "*")) (one (codes "*"))) 0 []

-- the wildcard covers each method, and each name but one
pub computes-wildcards : (covers (question true (Some (codes "PUT")) (one (codes "x-a"))) 0 wild ≡ true)
    × (covers (question false (Some (codes "PUT")) (one (codes "x-a"))) 0 wild ≡ true)
    × (covers (question false None (one (codes "Authorization"))) 0 wild ≡ false)
    × (covers (question false None (one (codes "X-A"))) 4 (learned (lesson false 5 [] (one (codes "x-a"))) 0 []) ≡ true)
computes-wildcards = (refl, refl, refl, refl)

-- a lesson that finds an entry gives it its age and time alone, also to one made with credentials and
-- to the wildcard; an entry of age 0 is dead at once, so that an equal one is added again
pub computes-lessons : (learned (lesson false 7 (one (codes "PUT")) []) 3 wild
    ≡ entry (codes "k") true 3 7 (Method (codes "*")) ∷ entry (codes "k") true 0 5 (HeaderName (codes "*")) ∷ [])
    × (learned (lesson false 0 (codes "PUT" ∷ codes "PUT" ∷ []) []) 3 []
    ≡ entry (codes "k") false 3 0 (Method (codes "PUT")) ∷ entry (codes "k") false 3 0 (Method (codes "PUT")) ∷ [])
    × (learned (lesson false 7 [] (one (codes "a"))) 5 put ≡ entry (codes "k") false 5 7 (HeaderName (codes "a")) ∷ [])
computes-lessons = (refl, refl, refl)

-- entries are in the order of their keys, and clearing takes out those of a key, an origin and a URL
abbrev beside : List Kept → List Kept
beside own = entry (codes "a") false 0 9 (Method (codes "PUT"))
    ∷ (own ++ entry (codes "kk") false 0 9 (Method (codes "PUT")) ∷ [])

pub computes-keys : (learned (lesson false 5 (one (codes "PUT")) []) 0 (beside [])
    ≡ beside (entry (codes "k") false 0 5 (Method (codes "PUT")) ∷ []))
    × (cleared (codes "k") (codes "o") (codes "u") (beside put) ≡ beside [])
    × (cleared (codes "k") (codes "o") (codes "v") (beside put) ≡ beside put)
computes-keys = (refl, refl, refl)
