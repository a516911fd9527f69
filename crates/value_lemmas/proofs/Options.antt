-- Options and results: what they were made of.
use Rattle.std.proofs.Common.{◌≡◌, Bool, true, false, refl, Option, Some, None, Result, Ok, Err, OnErr}
use Rattle.std.specs.Prelude.{if◌then◌else◌, option_and_then, option_map}

-- what was chosen was chosen by its test
pub if-parts : {A : Type 0} (b : Bool) (o : Option A) (y : A) → (if b then o else None) ≡ Some y
    → (b ≡ true) × (o ≡ Some y)
if-parts true o y e = (refl, e)
if-parts false o y e = cc

pub if-from : {A : Type 0} (b : Bool) (o : Option A) (y : A) → b ≡ true → o ≡ Some y
    → (if b then o else None) ≡ Some y
if-from true o y p q = q
if-from false o y p q = cc

-- where the test does not hold, what is chosen is the other
pub if-not : {A : Type 0} (b : Bool) (x o y : A) → b ≡ false → o ≡ y → (if b then x else o) ≡ y
if-not true x o y p q = cc
if-not false x o y p q = q

-- what was done with a value was done with the one that is there
pub option_map-some : {A B : Type 0} (f : A → B) (o : Option A) (y : B) → option_map f o ≡ Some y
    → (x : A) × (o ≡ Some x) × (f x ≡ y)
option_map-some f None y e = cc
option_map-some f (Some x) y e = (x, refl, cc)

pub option_and_then-some : {A B : Type 0} (f : A → Option B) (o : Option A) (y : B) → option_and_then f o ≡ Some y
    → (x : A) × (o ≡ Some x) × (f x ≡ Some y)
option_and_then-some f None y e = cc
option_and_then-some f (Some x) y e = (x, refl, e)

-- what holds anyway holds of an error
pub OnErr-from : {A E P : Type 0} (r : Result A E) → P → OnErr r P
OnErr-from (Ok x) holds = tt
OnErr-from (Err e) holds = holds
