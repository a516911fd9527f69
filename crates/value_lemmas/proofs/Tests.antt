-- Tests and orders: what is equal to what, and what a test that passes tells.
use Rattle.std.proofs.Common.{◌≡◌, ◌==◌, ◌||◌, ℕ, Bool, true, false, cond, refl, arith, eq-eqb}
use Rattle.std.proofs.lemmas.Grind.{common_steps}
use Rattle.std.specs.Ordering.{is_lt}
use Rattle.std.specs.declared.cmp.Ordering.{Ordering}
use Rattle.std.specs.declared.cmp.Ordering.TheVariants.{Equal, Greater, Less}

-- ---- one of two

-- a test that is there already adds nothing
pub or-again : (a b : Bool) → (a || b) ≡ (a || (a || b))
or-again true b = refl
or-again false b = refl

pub or-left_comm : (a b c : Bool) → (a || (b || c)) ≡ (b || (a || c))
or-left_comm true true c = refl
or-left_comm true false c = refl
or-left_comm false b c = refl

pub cond-or : (b c : Bool) → cond b true c ≡ (b || c)
cond-or true c = refl
cond-or false c = refl

-- ---- numbers and orders

pub eqb-self : (n : ℕ) → (n == n) ≡ true
eqb-self n = eq-eqb n n refl

pub eqb-comm : (a b : ℕ) → (a == b) ≡ (b == a)
eqb-comm a b = grind (arith, common_steps)

pub is_lt-true : (o : Ordering) → is_lt o ≡ true → o ≡ Less
is_lt-true Less e = refl
is_lt-true Equal e = absurd (cc)
is_lt-true Greater e = absurd (cc)
