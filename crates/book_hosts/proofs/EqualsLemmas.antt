-- The first equals sign by its index.
use Rattle.std.proofs.Common.{◌≡◌, ◌+◌, ◌==◌, ℕ, suc, Bool, true, false, not, List, [], ◌∷◌, length, take, drop}
use Rattle.std.proofs.Common.{Option, Some, None, option_map, refl, ap, ◌∙◌, arith, if◌then◌else◌, cond, nat_lt}
use Rattle.std.proofs.lemmas.Grind.{common_steps}
use Rattle.std.specs.List.{before_first, position_or_len}
use Rattle.book_hosts.specs.Reading.{behind_equals}

-- what is before the first equals sign, byte by byte
abbrev pub until_equals : List ℕ → List ℕ
until_equals [] = []
until_equals (byte ∷ text) = if byte == 61 then [] else byte ∷ until_equals text

-- what is after it
abbrev pub after_equals : List ℕ → Option (List ℕ)
after_equals [] = None
after_equals (byte ∷ text) = if byte == 61 then Some text else after_equals text

before-step : (here : Bool) (n byte : ℕ) (text before : List ℕ) → take n text ≡ before
    → take (cond (not here) (1 + n) 0) (byte ∷ text) ≡ (if here then [] else byte ∷ before)
before-step true n byte text before h = refl
before-step false n byte text before h =
    let e : 1 + n ≡ suc n = omega arith in
    rw e (ap (λ l. byte ∷ l) h)

pub until_equals-is : (text : List ℕ) → before_first (λ byte. byte == 61) text ≡ until_equals text
until_equals-is [] = refl
until_equals-is (byte ∷ text) =
    before-step (byte == 61) (position_or_len (λ b. b == 61) text) byte text (until_equals text) (until_equals-is text)

found-there : (within : Bool) (n byte : ℕ) (text : List ℕ)
    → option_map (λ i. drop (i + 1) (byte ∷ text)) (cond within (Some (1 + n)) None)
    ≡ option_map (λ i. drop (i + 1) text) (cond within (Some n) None)
found-there true n byte text =
    let e : 1 + n + 1 ≡ suc (n + 1) = omega arith in
    rw e refl
found-there false n byte text = refl

lt-suc : (n m : ℕ) → nat_lt (1 + n) (suc m) ≡ nat_lt n m
lt-suc n m = grind (arith, common_steps)

behind-step : (here : Bool) (n byte : ℕ) (text : List ℕ) (behind : Option (List ℕ))
    → option_map (λ i. drop (i + 1) text) (cond (nat_lt n (length text)) (Some n) None) ≡ behind
    → option_map (λ i. drop (i + 1) (byte ∷ text))
    (cond (nat_lt (cond (not here) (1 + n) 0) (length (byte ∷ text))) (Some (cond (not here) (1 + n) 0)) None)
    ≡ (if here then Some text else behind)
behind-step true n byte text behind h =
    let e : nat_lt 0 (suc (length text)) ≡ true = grind (arith, common_steps) in
    rw e refl
behind-step false n byte text behind h =
    rw (lt-suc n (length text)) (found-there (nat_lt n (length text)) n byte text ∙ h)

pub after_equals-is : (text : List ℕ) → behind_equals text ≡ after_equals text
after_equals-is [] = refl
after_equals-is (byte ∷ text) =
    behind-step (byte == 61) (position_or_len (λ b. b == 61) text) byte text (after_equals text) (after_equals-is text)
