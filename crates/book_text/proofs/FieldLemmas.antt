-- What is written is read back, field by field.
use Rattle.std.proofs.Common.{◌≡◌, ◌≤◌, ◌<◌, ◌+◌, ℕ, Bool, true, false, List, [], ◌∷◌, ◌++◌, length, take}
use Rattle.std.proofs.Common.{drop, get_or, refl, ap, sym, subst, ◌∙◌, arith, Option, Some, None, ◌⊎◌, inr, cond}
use Rattle.std.proofs.Common.{append_assoc, length-append, length-take}
use Rattle.std.proofs.lemmas.Option.{same_Some}
use Rattle.std.proofs.lemmas.Bool.{and_parts, le-ltb, lt-ltb, ltb-false}
use Rattle.std.proofs.lemmas.Bool.Decides.{Decides-eqb}
use Rattle.std.proofs.lemmas.Grind.{common_steps}
use Rattle.std.proofs.lemmas.List.{take-append-drop, take_at, drop_at}
use Rattle.std.proofs.lemmas.List.Sums.{passes_at_first, split_at_first}
use Rattle.std.proofs.lemmas.Slice.Eq.{bytes_eq-Decides}
use Rattle.std.specs.Prelude.{◌==◌, nat_lt, not, decimal, option_and_then, option_map, if◌then◌else◌, bytes_eq}
use Rattle.std.specs.List.{position, position_or_len}
use Rattle.value_lemmas.proofs.Options.{if-parts, option_and_then-some, option_map-some}
use Rattle.value_lemmas.proofs.Tests.{eqb-self}
use Rattle.value_decimal.specs.Decimals.{number_up_to}
use Rattle.value_decimal.proofs.DecimalLemmas.{lacks, number-lacks, number-read, number-writes}
use Rattle.book_text.specs.Reading.{after_prefix, both_at, bytes_at, made_at, number_at, stopped, text_at}
use Rattle.book_text.specs.Texts.{greatest, number_field, text_field}

-- a thing is read exactly where it is written
pub record Reads {A : Type 0} (spell : A → List ℕ) (Fits : A → Type 0) (read : List ℕ → Option (A × List ℕ)) : Type 0 where
  pub sound : (text : List ℕ) (x : A) (rest : List ℕ) → read text ≡ Some (x, rest) → (text ≡ spell x ++ rest) × Fits x
  pub complete : (x : A) (rest : List ℕ) → Fits x → read (spell x ++ rest) ≡ Some (x, rest)

-- ---- numbers

module _ (stop : ℕ) where
  abbrev is_stop : ℕ → Bool
  is_stop byte = byte == stop

  place : (front rest : List ℕ) → lacks stop front ≡ true → length front ≡ position_or_len is_stop (front ++ stop ∷ rest)
  place [] rest none = grind (arith, common_steps)
  place (byte ∷ front) rest none =
      grind (arith, common_steps, place front rest (and_parts (not (byte == stop)) (lacks stop front) none).1)

  place-there : (front rest : List ℕ) → lacks stop front ≡ true
      → position is_stop (front ++ stop ∷ rest) ≡ Some (length front)
  place-there front rest none =
      let text : List ℕ = front ++ stop ∷ rest in
      let at : position_or_len is_stop text ≡ length front = sym (place front rest none) in
      let within : nat_lt (length front) (length text) ≡ true =
      lt-ltb (length front) (length text) (omega (arith, length-append front (stop ∷ rest))) in
      rw at (ap (λ (b : Bool). cond b (Some (length front)) None) within)

  cut-there : (text : List ℕ) (end : ℕ) → position is_stop text ≡ Some end
      → text ≡ take end text ++ (stop ∷ drop (end + 1) text)
  cut-there text end some =
      let here : (position_or_len is_stop text < length text) × (position_or_len is_stop text ≡ end) =
      grind (arith, common_steps) in
      let at : get_or text end 0 ≡ stop =
      (Decides-eqb (get_or text end 0) stop).0 (subst (λ (n : ℕ). is_stop (get_or text n 0) ≡ true) here.1
      (passes_at_first is_stop text 0 here.0)) in
      let whole : text ≡ take end text ++ (get_or text end 0 ∷ drop (end + 1) text) =
      subst (λ (n : ℕ). text ≡ take n text ++ (get_or text n 0 ∷ drop (n + 1) text)) here.1
      (split_at_first is_stop text 0 here.0) in
      whole ∙ ap (λ (byte : ℕ). take end text ++ (byte ∷ drop (end + 1) text)) at

  drop-stop : (front rest : List ℕ) → drop (length front + 1) (front ++ stop ∷ rest) ≡ rest
  drop-stop front rest =
      ap (λ (l : List ℕ). drop (length front + 1) l) (sym (append_assoc front (stop ∷ []) rest))
      ∙ drop_at (front ++ stop ∷ []) rest (length front + 1) (omega (arith, length-append front (stop ∷ [])))

module _ (most stop : ℕ) (few : most ≤ greatest) (apart : (stop < 48) ⊎ (57 < stop)) where
  number-sound : (text : List ℕ) (n : ℕ) (rest : List ℕ) → number_at most stop text ≡ Some (n, rest)
      → (text ≡ number_field stop n ++ rest) × (n ≤ most)
  number-sound text n rest e =
      let found = option_and_then-some (λ end. option_map (λ (number : ℕ). (number, drop (end + 1) text))
      (number_up_to most (take end text)))
      (position (λ byte. byte == stop) text) (n, rest) e in
      let word = option_map-some (λ (number : ℕ). (number, drop (found.0 + 1) text))
      (number_up_to most (take found.0 text))
      (n, rest) found.2 in
      let written = number-writes most (take found.0 text) word.0 word.1 in
      let value : word.0 ≡ n = ap (λ p. p.0) word.2 in
      let after : drop (found.0 + 1) text ≡ rest = ap (λ p. p.1) word.2 in (
        cut-there stop text found.0 found.1
            ∙ (λ i. (sym written.text i) ++ (stop ∷ after i))
            ∙ ap (λ (m : ℕ). decimal m ++ (stop ∷ rest)) value
            ∙ sym (append_assoc (decimal n) (stop ∷ []) rest),
        subst (λ (m : ℕ). m ≤ most) value written.few,
      )

  number-complete : (n : ℕ) (rest : List ℕ) → n ≤ most → number_at most stop (number_field stop n ++ rest) ≡ Some (n, rest)
  number-complete n rest fits =
      let front : List ℕ = decimal n in
      let none = number-lacks stop apart n (omega (arith, fits, few)) in
      ap (number_at most stop) (append_assoc front (stop ∷ []) rest)
      ∙ ap (λ (o : Option ℕ). option_and_then (λ end. option_map (λ (number : ℕ). (number, drop (end + 1) (front ++ stop ∷ rest)))
      (number_up_to most (take end (front ++ stop ∷ rest)))) o) (place-there stop front rest none)
      ∙ ap (λ (word : List ℕ). option_map (λ (number : ℕ). (number, drop (length front + 1) (front ++ stop ∷ rest)))
      (number_up_to most word)) (take_at front (stop ∷ rest) (length front) refl)
      ∙ ap (λ (o : Option ℕ). option_map (λ (number : ℕ). (number, drop (length front + 1) (front ++ stop ∷ rest))) o)
      (number-read most n fits (omega (arith, fits, few)))
      ∙ ap (λ (l : List ℕ). Some (n, l)) (drop-stop stop front rest)

  pub number-reads : Reads (number_field stop) (λ n. n ≤ most) (number_at most stop)
  number-reads = record { sound = number-sound; complete = number-complete }

-- ---- texts

stop-sound : (stop : ℕ) (front after x rest : List ℕ) → stopped stop front after ≡ Some (x, rest)
    → (front ≡ x) × (after ≡ stop ∷ rest)
stop-sound stop front [] x rest e = absurd (cc)
stop-sound stop front (byte ∷ after) x rest e =
    let is = if-parts (byte == stop) (Some (front, after)) (x, rest) e in
    let same : byte ≡ stop = (Decides-eqb byte stop).0 is.0 in
    let pair : (front, after) ≡ (x, rest) = same_Some (front, after) (x, rest) is.1 in
    (ap (λ p. p.0) pair, (λ i. same i ∷ ap (λ p. p.1) pair i))

bytes-sound : (stop n : ℕ) (text x rest : List ℕ) → bytes_at stop n text ≡ Some (x, rest)
    → (text ≡ x ++ (stop ∷ rest)) × (length x ≡ n)
bytes-sound stop n text x rest e = by (nat_lt (length text) n) refl e
  where
    by : (b : Bool) → nat_lt (length text) n ≡ b
        → (if b then None else stopped stop (take n text) (drop n text)) ≡ Some (x, rest)
        → (text ≡ x ++ (stop ∷ rest)) × (length x ≡ n)
    by true short e = absurd (cc)
    by false long e =
        let is = stop-sound stop (take n text) (drop n text) x rest e in
        let enough : n ≤ length text = ltb-false (length text) n long in (
          sym (take-append-drop n text) ∙ (λ i. is.0 i ++ is.1 i),
          ap length (sym is.0) ∙ omega (arith, enough, length-take n text),
        )

bytes-complete : (stop : ℕ) (x rest : List ℕ) → bytes_at stop (length x) (x ++ (stop ∷ rest)) ≡ Some (x, rest)
bytes-complete stop x rest =
    let long : nat_lt (length (x ++ (stop ∷ rest))) (length x) ≡ false =
    le-ltb (length (x ++ (stop ∷ rest))) (length x) (omega (arith, length-append x (stop ∷ rest))) in
    ap (λ (b : Bool). if b then None else stopped stop (take (length x) (x ++ (stop ∷ rest)))
    (drop (length x) (x ++ (stop ∷ rest)))) long
    ∙ (λ i. stopped stop (take_at x (stop ∷ rest) (length x) refl i) (drop_at x (stop ∷ rest) (length x) refl i))
    ∙ ap (λ (b : Bool). if b then Some (x, rest) else None) (eqb-self stop)

colon-apart : (58 < 48) ⊎ (57 < 58)
colon-apart = inr (omega arith)

module _ (stop : ℕ) where
  regrouped : (x rest : List ℕ) → text_field stop x ++ rest ≡ number_field 58 (length x) ++ (x ++ (stop ∷ rest))
  regrouped x rest = simp append_assoc

  text-sound : (text x rest : List ℕ) → text_at stop text ≡ Some (x, rest)
      → (text ≡ text_field stop x ++ rest) × (length x ≤ greatest)
  text-sound text x rest e =
      let found = option_and_then-some (λ (f : ℕ × List ℕ). bytes_at stop f.0 f.1) (number_at greatest 58 text)
      (x, rest) e in
      let number = number-sound greatest 58 (omega arith) colon-apart text found.0.0 found.0.1 found.1 in
      let bytes = bytes-sound stop found.0.0 found.0.1 x rest found.2 in (
        number.0 ∙ (λ i. number_field 58 (sym bytes.1 i) ++ bytes.0 i) ∙ sym (regrouped x rest),
        subst (λ (n : ℕ). n ≤ greatest) (sym bytes.1) number.1,
      )

  text-complete : (x rest : List ℕ) → length x ≤ greatest → text_at stop (text_field stop x ++ rest) ≡ Some (x, rest)
  text-complete x rest fits =
      ap (text_at stop) (regrouped x rest)
      ∙ ap (λ o. option_and_then (λ (f : ℕ × List ℕ). bytes_at stop f.0 f.1) o)
      (number-complete greatest 58 (omega arith) colon-apart (length x) (x ++ (stop ∷ rest)) fits)
      ∙ bytes-complete stop x rest

  pub text-reads : Reads (text_field stop) (λ x. length x ≤ greatest) (text_at stop)
  text-reads = record { sound = text-sound; complete = text-complete }

-- ---- two things

module _ {A B : Type 0} {s : A → List ℕ} {t : B → List ℕ} {F : A → Type 0} {G : B → Type 0}
    {r : List ℕ → Option (A × List ℕ)} {q : List ℕ → Option (B × List ℕ)} (one : Reads s F r) (two : Reads t G q) where
  both-sound : (text : List ℕ) (x : A × B) (rest : List ℕ) → both_at r q text ≡ Some (x, rest)
      → (text ≡ (s x.0 ++ t x.1) ++ rest) × (F x.0 × G x.1)
  both-sound text x rest e =
      let first = option_and_then-some (λ (a : A × List ℕ). option_map (λ (b : B × List ℕ). ((a.0, b.0), b.1))
      (q a.1)) (r text) (x, rest) e in
      let second = option_map-some (λ (b : B × List ℕ). ((first.0.0, b.0), b.1)) (q first.0.1) (x, rest) first.2 in
      let a = one.sound text first.0.0 first.0.1 first.1 in
      let b = two.sound first.0.1 second.0.0 second.0.1 second.1 in
      let is_a : first.0.0 ≡ x.0 = ap (λ p. p.0.0) second.2 in
      let is_b : second.0.0 ≡ x.1 = ap (λ p. p.0.1) second.2 in
      let is_rest : second.0.1 ≡ rest = ap (λ p. p.1) second.2 in (
        a.0 ∙ (λ i. s (is_a i) ++ (b.0 ∙ (λ j. t (is_b j) ++ is_rest j)) i) ∙ sym (append_assoc (s x.0) (t x.1) rest),
        (subst F is_a a.1, subst G is_b b.1),
      )

  both-complete : (x : A × B) (rest : List ℕ) → F x.0 × G x.1 → both_at r q ((s x.0 ++ t x.1) ++ rest) ≡ Some (x, rest)
  both-complete x rest fits =
      ap (both_at r q) (append_assoc (s x.0) (t x.1) rest)
      ∙ ap (λ o. option_and_then (λ (a : A × List ℕ). option_map (λ (b : B × List ℕ). ((a.0, b.0), b.1)) (q a.1)) o)
      (one.complete x.0 (t x.1 ++ rest) fits.0)
      ∙ ap (λ o. option_map (λ (b : B × List ℕ). ((x.0, b.0), b.1)) o) (two.complete x.1 rest fits.1)

  pub both-reads : Reads (λ (x : A × B). s x.0 ++ t x.1) (λ (x : A × B). F x.0 × G x.1) (both_at r q)
  both-reads = record { sound = both-sound; complete = both-complete }

-- ---- what a thing stands for

module _ {A B : Type 0} {s : A → List ℕ} {F : A → Type 0} {r : List ℕ → Option (A × List ℕ)} (make : A → B) (back : B → A)
    (over : (a : A) → F a → back (make a) ≡ a) (same : (b : B) → make (back b) ≡ b) (one : Reads s F r) where
  made-sound : (text : List ℕ) (x : B) (rest : List ℕ) → made_at make r text ≡ Some (x, rest)
      → (text ≡ s (back x) ++ rest) × F (back x)
  made-sound text x rest e =
      let found = option_map-some (λ (a : A × List ℕ). (make a.0, a.1)) (r text) (x, rest) e in
      let a = one.sound text found.0.0 found.0.1 found.1 in
      let is : found.0.0 ≡ back x = sym (over found.0.0 a.1) ∙ ap (λ p. back p.0) found.2 in
      let is_rest : found.0.1 ≡ rest = ap (λ p. p.1) found.2 in
      (a.0 ∙ (λ i. s (is i) ++ is_rest i), subst F is a.1)

  made-complete : (x : B) (rest : List ℕ) → F (back x) → made_at make r (s (back x) ++ rest) ≡ Some (x, rest)
  made-complete x rest fits =
      ap (λ o. option_map (λ (a : A × List ℕ). (make a.0, a.1)) o) (one.complete (back x) rest fits)
      ∙ ap (λ (y : B). Some (y, rest)) (same x)

  pub made-reads : Reads (λ x. s (back x)) (λ x. F (back x)) (made_at make r)
  made-reads = record { sound = made-sound; complete = made-complete }

-- ---- these bytes

pub prefix-sound : (prefix text rest : List ℕ) → after_prefix prefix text ≡ Some rest → text ≡ prefix ++ rest
prefix-sound prefix text rest e = by (nat_lt (length text) (length prefix)) e
  where
    by : (b : Bool) → (if b then None else if bytes_eq (take (length prefix) text) prefix
        then Some (drop (length prefix) text) else None) ≡ Some rest → text ≡ prefix ++ rest
    by true e = absurd (cc)
    by false e =
        let is = if-parts (bytes_eq (take (length prefix) text) prefix) (Some (drop (length prefix) text)) rest e in
        let front : take (length prefix) text ≡ prefix = (bytes_eq-Decides (take (length prefix) text) prefix).0 is.0 in
        sym (take-append-drop (length prefix) text)
        ∙ (λ i. front i ++ same_Some (drop (length prefix) text) rest is.1 i)

pub prefix-complete : (prefix rest : List ℕ) → after_prefix prefix (prefix ++ rest) ≡ Some rest
prefix-complete prefix rest =
    let long : nat_lt (length (prefix ++ rest)) (length prefix) ≡ false =
    le-ltb (length (prefix ++ rest)) (length prefix) (omega (arith, length-append prefix rest)) in
    let front : bytes_eq (take (length prefix) (prefix ++ rest)) prefix ≡ true =
    (bytes_eq-Decides (take (length prefix) (prefix ++ rest)) prefix).1 (take_at prefix rest (length prefix) refl) in
    ap (λ (b : Bool). if b then None else if bytes_eq (take (length prefix) (prefix ++ rest)) prefix
    then Some (drop (length prefix) (prefix ++ rest)) else None) long
    ∙ ap (λ (b : Bool). if b then Some (drop (length prefix) (prefix ++ rest)) else None) front
    ∙ ap (λ (l : List ℕ). Some l) (drop_at prefix rest (length prefix) refl)
