-- Header values that are squeezed while they are filled: whatever follows, they are cut to the same.
use Rattle.std.proofs.Common.{◌≡◌, ℕ, zero, suc, ◌<◌, Bool, true, false, cond, ◌&&◌, not, List, [], ◌∷◌, ◌++◌, length}
use Rattle.std.proofs.Common.{take, drop, refl, ap, sym, subst, ◌∙◌, arith, append_assoc, take_all, true≢false}
use mathlib.Core.Bool.{and-false}
use Rattle.std.proofs.lemmas.Bool.{and_parts, not-true}
use Rattle.std.proofs.lemmas.List.{length-append, length-take, reverse-append, take-append-drop}
use Rattle.std.proofs.lemmas.List.{take-append-le}
use Rattle.std.proofs.lemmas.Slice.Eq.{bytes_eq-Decides}
use Rattle.std.specs.Prelude.{◌==◌, ◌||◌, nat_lt, reverse}
use Rattle.std.specs.List.{list_any}
use Rattle.value_text.specs.Trims.{http_whitespace, tab_or_space, trimmed, trimmed_end, trimmed_start}
use Rattle.value_text.specs.Values.{is_header_value, is_nul_or_newline}
use Rattle.script_filling.specs.Filling.{cut_value, mark}
use Rattle.script_filling.specs.Private.Squeezes.{all_fit, squeezed, squeezed_start, stand_in}

abbrev none : List ℕ → Bool
none [] = true
none (byte ∷ text) = false

none-length : (text : List ℕ) → (length text == 0) ≡ none text
none-length [] = refl
none-length (byte ∷ text) = grind arith

abbrev is_blank : List ℕ → ℕ → Bool
is_blank blanks byte = list_any (λ (blank : ℕ). blank == byte) blanks

-- ---- blanks at the start

start-by : (is : Bool) (byte : ℕ) (x y s t u : List ℕ) → t ≡ cond (none s) u (s ++ y)
    → cond is t (byte ∷ (x ++ y)) ≡ cond (none (cond is s (byte ∷ x))) u (cond is s (byte ∷ x) ++ y)
start-by true byte x y s t u so = so
start-by false byte x y s t u so = refl

start-append : (blanks x y : List ℕ) → trimmed_start blanks (x ++ y)
    ≡ cond (none (trimmed_start blanks x)) (trimmed_start blanks y) (trimmed_start blanks x ++ y)
start-append blanks [] y = refl
start-append blanks (byte ∷ x) y =
    start-by (is_blank blanks byte) byte x y (trimmed_start blanks x) (trimmed_start blanks (x ++ y))
    (trimmed_start blanks y) (start-append blanks x y)

start-twice : (blanks x : List ℕ) → trimmed_start blanks (trimmed_start blanks x) ≡ trimmed_start blanks x
start-twice blanks [] = refl
start-twice blanks (byte ∷ x) = by-blank (is_blank blanks byte) refl (start-twice blanks x)
  where
    by-blank : (is : Bool) → is_blank blanks byte ≡ is
        → trimmed_start blanks (trimmed_start blanks x) ≡ trimmed_start blanks x
        → trimmed_start blanks (cond is (trimmed_start blanks x) (byte ∷ x))
        ≡ cond is (trimmed_start blanks x) (byte ∷ x)
    by-blank true e so = so
    by-blank false e so = ap (λ (b : Bool). cond b (trimmed_start blanks x) (byte ∷ x)) e

-- ---- blanks at the end

-- the text without them, from its front on
abbrev core : List ℕ → List ℕ → List ℕ
core blanks [] = []
core blanks (byte ∷ text) = cond (is_blank blanks byte && none (core blanks text)) [] (byte ∷ core blanks text)

none-append : (text : List ℕ) (byte : ℕ) → none (text ++ byte ∷ []) ≡ false
none-append [] byte = refl
none-append (first ∷ text) byte = refl

none-reverse : (byte : ℕ) (text : List ℕ) → none (reverse (byte ∷ text)) ≡ false
none-reverse byte text =
    ap none (reverse-append (byte ∷ []) text) ∙ none-append (reverse text) byte

end-by : (byte : ℕ) (s : List ℕ) (is : Bool)
    → reverse (cond (none s) (cond is [] (byte ∷ [])) (s ++ byte ∷ []))
    ≡ cond (is && none (reverse s)) [] (byte ∷ reverse s)
end-by byte [] true = refl
end-by byte [] false = refl
end-by byte (first ∷ s) is =
    reverse-append (first ∷ s) (byte ∷ [])
    ∙ sym (ap (λ (b : Bool). cond b [] (byte ∷ reverse (first ∷ s)))
    (ap (λ (b : Bool). is && b) (none-reverse first s) ∙ and-false is))

end-core : (blanks text : List ℕ) → trimmed_end blanks text ≡ core blanks text
end-core blanks [] = refl
end-core blanks (byte ∷ text) =
    ap (λ (l : List ℕ). reverse (trimmed_start blanks l)) (reverse-append (byte ∷ []) text)
    ∙ ap reverse (start-append blanks (reverse text) (byte ∷ []))
    ∙ end-by byte (trimmed_start blanks (reverse text)) (is_blank blanks byte)
    ∙ ap (λ (l : List ℕ). cond (is_blank blanks byte && none l) [] (byte ∷ l)) (end-core blanks text)

append-by : (is : Bool) (byte : ℕ) (cx x cy t : List ℕ) → t ≡ cond (none cy) cx (x ++ cy)
    → cond (is && none t) [] (byte ∷ t)
    ≡ cond (none cy) (cond (is && none cx) [] (byte ∷ cx)) (byte ∷ (x ++ cy))
append-by is byte cx x [] t so = ap (λ (l : List ℕ). cond (is && none l) [] (byte ∷ l)) so
append-by is byte cx [] (first ∷ cy) t so =
    ap (λ (l : List ℕ). cond (is && none l) [] (byte ∷ l)) so
    ∙ ap (λ (b : Bool). cond b [] (byte ∷ first ∷ cy)) (and-false is)
append-by is byte cx (other ∷ x) (first ∷ cy) t so =
    ap (λ (l : List ℕ). cond (is && none l) [] (byte ∷ l)) so
    ∙ ap (λ (b : Bool). cond b [] (byte ∷ other ∷ (x ++ first ∷ cy))) (and-false is)

none-is : (text : List ℕ) → cond (none text) [] text ≡ text
none-is [] = refl
none-is (byte ∷ text) = refl

core-append : (blanks x y : List ℕ)
    → core blanks (x ++ y) ≡ cond (none (core blanks y)) (core blanks x) (x ++ core blanks y)
core-append blanks [] y = sym (none-is (core blanks y))
core-append blanks (byte ∷ x) y =
    append-by (is_blank blanks byte) byte (core blanks x) x (core blanks y) (core blanks (x ++ y))
    (core-append blanks x y)

abbrev ended : List ℕ → List ℕ
ended text = core http_whitespace text

-- what may stand in a header value does so without the blanks at its end
fit-by : (byte : ℕ) (e : List ℕ) (is : Bool) → all_fit (byte ∷ e) ≡ true → all_fit (cond is [] (byte ∷ e)) ≡ true
fit-by byte e true fit = refl
fit-by byte e false fit = fit

ended-fit : (text : List ℕ) → all_fit text ≡ true → all_fit (ended text) ≡ true
ended-fit [] fit = refl
ended-fit (byte ∷ text) fit =
    let parts = and_parts (not (is_nul_or_newline byte)) (all_fit text) fit in
    fit-by byte (ended text) (is_blank http_whitespace byte && none (ended text))
    (ap (λ (b : Bool). b && all_fit (ended text)) parts.0 ∙ ended-fit text parts.1)

fit-append : (x y : List ℕ) → all_fit (x ++ y) ≡ (all_fit x && all_fit y)
fit-append [] y = refl
fit-append (byte ∷ x) y = by-byte (not (is_nul_or_newline byte)) (fit-append x y)
  where
    by-byte : (b : Bool) → all_fit (x ++ y) ≡ (all_fit x && all_fit y)
        → (b && all_fit (x ++ y)) ≡ ((b && all_fit x) && all_fit y)
    by-byte true so = so
    by-byte false so = refl

-- ---- what stands for a text

-- both have other bytes than blanks, and fit without the blanks at their ends and with them, or neither
abbrev Alike : List ℕ → List ℕ → Type 0
Alike x y =
    (none (ended x) ≡ none (ended y)) × ((all_fit (ended x) ≡ all_fit (ended y)) × (all_fit x ≡ all_fit y))

alike-by : (x y m : List ℕ) (em : List ℕ) → Alike x y
    → (none (cond (none em) (ended x) (x ++ em)) ≡ none (cond (none em) (ended y) (y ++ em)))
    × (all_fit (cond (none em) (ended x) (x ++ em)) ≡ all_fit (cond (none em) (ended y) (y ++ em)))
alike-by x y m [] alike = (alike.0, alike.1.0)
alike-by x y m (byte ∷ em) alike = (
  none-behind x byte em ∙ sym (none-behind y byte em),
  fit-append x (byte ∷ em) ∙ ap (λ (b : Bool). b && all_fit (byte ∷ em)) alike.1.1 ∙ sym (fit-append y (byte ∷ em)),
)
  where
    none-behind : (z : List ℕ) (first : ℕ) (rest : List ℕ) → none (z ++ first ∷ rest) ≡ false
    none-behind [] first rest = refl
    none-behind (other ∷ z) first rest = refl

-- so it is of what follows them
alike-ended : (x y m : List ℕ) → Alike x y
    → (none (ended (x ++ m)) ≡ none (ended (y ++ m))) × (all_fit (ended (x ++ m)) ≡ all_fit (ended (y ++ m)))
alike-ended x y m alike =
    let those = alike-by x y m (ended m) alike in (
      ap none (core-append http_whitespace x m) ∙ those.0 ∙ sym (ap none (core-append http_whitespace y m)),
      ap all_fit (core-append http_whitespace x m) ∙ those.1 ∙ sym (ap all_fit (core-append http_whitespace y m)),
    )

-- by whether the text has other bytes than blanks, and fits without the blanks at its end, and with them
abbrev stand_by : Bool → Bool → Bool → List ℕ
stand_by blank inner whole =
    cond blank (cond whole [] (10 ∷ [])) (cond (not inner) (0 ∷ []) (cond whole (97 ∷ []) (97 ∷ 10 ∷ [])))

stand-in-by : (text : List ℕ) → stand_in text ≡ stand_by (none (ended text)) (all_fit (ended text)) (all_fit text)
stand-in-by text =
    ap (λ (e : List ℕ). cond (length e == 0) (cond (all_fit text) [] (10 ∷ [])) (cond (not (all_fit e)) (0 ∷ [])
    (cond (all_fit text) (97 ∷ []) (97 ∷ 10 ∷ [])))) (end-core http_whitespace text)
    ∙ ap (λ (b : Bool). cond b (cond (all_fit text) [] (10 ∷ [])) (cond (not (all_fit (ended text))) (0 ∷ [])
    (cond (all_fit text) (97 ∷ []) (97 ∷ 10 ∷ [])))) (none-length (ended text))

abbrev Told : Bool → Bool → Bool → List ℕ → Type 0
Told blank inner whole y =
    (blank ≡ none (ended y)) × ((inner ≡ all_fit (ended y)) × (whole ≡ all_fit y))

told : (blank inner whole : Bool) → (blank ≡ true → inner ≡ true) → (whole ≡ true → inner ≡ true)
    → Told blank inner whole (stand_by blank inner whole)
told true true true one two = (refl, (refl, refl))
told true true false one two = (refl, (refl, refl))
told true false whole one two = absurd (true≢false (sym (one refl)))
told false true true one two = (refl, (refl, refl))
told false true false one two = (refl, (refl, refl))
told false false true one two = absurd (true≢false (sym (two refl)))
told false false false one two = (refl, (refl, refl))

blank-fit : (e : List ℕ) → none e ≡ true → all_fit e ≡ true
blank-fit [] is = refl
blank-fit (byte ∷ e) is = absurd (true≢false (sym is))

stand-in-alike : (text : List ℕ) → Alike text (stand_in text)
stand-in-alike text =
    subst (Alike text) (sym (stand-in-by text))
    (told (none (ended text)) (all_fit (ended text)) (all_fit text) (blank-fit (ended text)) (ended-fit text))

-- ---- what is cut

-- it does not begin with a blank
abbrev begins : List ℕ → Bool
begins [] = true
begins (byte ∷ text) = not (is_blank http_whitespace byte)

begins-start : (text : List ℕ) → begins (trimmed_start http_whitespace text) ≡ true
begins-start [] = refl
begins-start (byte ∷ text) = by-blank (is_blank http_whitespace byte) refl (begins-start text)
  where
    by-blank : (is : Bool) → is_blank http_whitespace byte ≡ is
        → begins (trimmed_start http_whitespace text) ≡ true
        → begins (cond is (trimmed_start http_whitespace text) (byte ∷ text)) ≡ true
    by-blank true e so = so
    by-blank false e so = ap not e

begins-take : (n : ℕ) (text : List ℕ) → begins text ≡ true → begins (take n text) ≡ true
begins-take zero text is = refl
begins-take (suc n) [] is = refl
begins-take (suc n) (byte ∷ text) is = is

begins-append : (x y : List ℕ) → begins x ≡ true → none x ≡ false → begins (x ++ y) ≡ true
begins-append [] y is some = absurd (true≢false some)
begins-append (byte ∷ x) y is some = is

start-keeps : (text : List ℕ) → begins text ≡ true → trimmed_start http_whitespace text ≡ text
start-keeps [] is = refl
start-keeps (byte ∷ text) is =
    ap (λ (b : Bool). cond b (trimmed_start http_whitespace text) (byte ∷ text))
    (not-true (is_blank http_whitespace byte) is)

-- a tab or space is HTTP whitespace
less-blank : (byte : ℕ) → is_blank http_whitespace byte ≡ false → is_blank tab_or_space byte ≡ false
less-blank byte is = by-each (9 == byte) (10 == byte) (13 == byte) (32 == byte) is
  where
    by-each : (a b c d : Bool) → (a || (b || (c || (d || false)))) ≡ false → (a || (d || false)) ≡ false
    by-each true b c d e = absurd (true≢false e)
    by-each false true c d e = absurd (true≢false e)
    by-each false false true d e = absurd (true≢false e)
    by-each false false false d e = e

core-within : (text : List ℕ) → core tab_or_space (ended text) ≡ ended text
core-within [] = refl
core-within (byte ∷ text) =
    by-blank (core-within text) (is_blank http_whitespace byte) refl (none (ended text)) refl
  where
    keeps : core tab_or_space (ended text) ≡ ended text → (is_blank tab_or_space byte && none (ended text)) ≡ false
        → core tab_or_space (byte ∷ ended text) ≡ byte ∷ ended text
    keeps so e =
        ap (λ (l : List ℕ). cond (is_blank tab_or_space byte && none l) [] (byte ∷ l)) so
        ∙ ap (λ (b : Bool). cond b [] (byte ∷ ended text)) e

    by-blank : core tab_or_space (ended text) ≡ ended text → (is : Bool) → is_blank http_whitespace byte ≡ is
        → (empty : Bool) → none (ended text) ≡ empty
        → core tab_or_space (cond (is && empty) [] (byte ∷ ended text)) ≡ cond (is && empty) [] (byte ∷ ended text)
    by-blank so true e true f = refl
    by-blank so true e false f = keeps so (ap (λ (b : Bool). is_blank tab_or_space byte && b) f ∙ and-false _)
    by-blank so false e empty f =
        keeps so (ap (λ (b : Bool). b && none (ended text)) (less-blank byte e))

-- without blanks at its ends it is a header value where each of its bytes fits
value-fits : (text : List ℕ) → begins text ≡ true → is_header_value (ended text) ≡ all_fit (ended text)
value-fits [] is = refl
value-fits (byte ∷ text) is =
    let whole : List ℕ = byte ∷ ended text in
    let bare : is_blank http_whitespace byte ≡ false = not-true (is_blank http_whitespace byte) is in
    let same : ended (byte ∷ text) ≡ whole = ap (λ (b : Bool). cond (b && none (ended text)) [] whole) bare in
    let start : trimmed_start tab_or_space whole ≡ whole =
    ap (λ (b : Bool). cond b (trimmed_start tab_or_space (ended text)) whole) (less-blank byte bare) in
    let stays : trimmed tab_or_space whole ≡ whole =
    ap (trimmed_end tab_or_space) start ∙ end-core tab_or_space whole
    ∙ ap (core tab_or_space) (sym same) ∙ core-within (byte ∷ text) ∙ same in
    ap is_header_value same
    ∙ ap (λ (b : Bool). b && all_fit whole) ((bytes_eq-Decides (trimmed tab_or_space whole) whole).1 stays)
    ∙ ap all_fit (sym same)

-- a value of which more than 16,384 bytes are there
abbrev Kept : List ℕ → Type 0
Kept kept = (begins kept ≡ true) × ((none kept ≡ false) × (length kept ≡ 16384))

cut-long : (kept e : List ℕ) (byte : ℕ) → length kept ≡ 16384
    → cut_value (kept ++ byte ∷ e) ≡ kept ++ mark (kept ++ byte ∷ e) ∷ []
cut-long kept e byte long =
    let all : nat_lt 16384 (length (kept ++ byte ∷ e)) ≡ true =
    above (length (kept ++ byte ∷ e)) (omega (arith, length-append kept (byte ∷ e), long)) in
    ap (λ (b : Bool). cond b (take 16384 (kept ++ byte ∷ e) ++ mark (kept ++ byte ∷ e) ∷ []) (kept ++ byte ∷ e)) all
    ∙ ap (λ (l : List ℕ). l ++ mark (kept ++ byte ∷ e) ∷ [])
    (take-append-le 16384 kept (byte ∷ e) (omega (arith, long)) ∙ take_all 16384 kept (omega (arith, long)))
  where
    above : (n : ℕ) → 16384 < n → nat_lt 16384 n ≡ true
    above n more = grind (arith, more)

cut-behind : (kept w : List ℕ) → Kept kept → cut_value (ended (kept ++ w))
    ≡ cond (none (ended w)) (cut_value (ended kept)) (kept ++ cond (all_fit kept && all_fit (ended w)) 97 0 ∷ [])
cut-behind kept w is = by-end (ended w) (core-append http_whitespace kept w)
  where
    by-end : (e : List ℕ) → ended (kept ++ w) ≡ cond (none e) (ended kept) (kept ++ e)
        → cut_value (ended (kept ++ w))
        ≡ cond (none e) (cut_value (ended kept)) (kept ++ cond (all_fit kept && all_fit e) 97 0 ∷ [])
    by-end [] so = ap cut_value so
    by-end (byte ∷ e) so =
        let fits : is_header_value (kept ++ byte ∷ e) ≡ (all_fit kept && all_fit (byte ∷ e)) =
        ap is_header_value (sym so) ∙ value-fits (kept ++ w) (begins-append kept w is.0 is.1.0) ∙ ap all_fit so
        ∙ fit-append kept (byte ∷ e) in
        ap cut_value so ∙ cut-long kept e byte is.1.1
        ∙ ap (λ (b : Bool). kept ++ cond b 97 0 ∷ []) fits

cut-alike : (kept x y m : List ℕ) → Kept kept → Alike x y
    → cut_value (ended (kept ++ (x ++ m))) ≡ cut_value (ended (kept ++ (y ++ m)))
cut-alike kept x y m is alike =
    let those = alike-ended x y m alike in
    cut-behind kept (x ++ m) is
    ∙ ap (λ (b : Bool). cond b (cut_value (ended kept)) (kept ++ cond (all_fit kept && all_fit (ended (x ++ m))) 97 0
    ∷ [])) those.0
    ∙ ap (λ (b : Bool). cond (none (ended (y ++ m))) (cut_value (ended kept)) (kept ++ cond (all_fit kept && b) 97 0
    ∷ [])) those.1
    ∙ sym (cut-behind kept (y ++ m) is)

-- ---- a value that grows

long-kept : (n : ℕ) (text : List ℕ) → 0 < n → n < length text → none (take n text) ≡ false
long-kept zero text some long = absurd (omega (arith, some))
long-kept (suc n) [] some long = absurd (omega (arith, long))
long-kept (suc n) (byte ∷ text) some long = refl

-- of a text without blanks at its start
squeezed-begun : (begun more : List ℕ) → begins begun ≡ true
    → cut_value (ended (trimmed_start http_whitespace (squeezed_start begun ++ more)))
    ≡ cut_value (ended (trimmed_start http_whitespace (begun ++ more)))
squeezed-begun begun more is = by-length (nat_lt 16384 (length begun)) refl
  where
    by-length : (long : Bool) → nat_lt 16384 (length begun) ≡ long
        → cut_value (ended (trimmed_start http_whitespace
        (cond long (take 16384 begun ++ stand_in (drop 16384 begun)) begun ++ more)))
        ≡ cut_value (ended (trimmed_start http_whitespace (begun ++ more)))
    by-length false e = refl
    by-length true e =
        let long : 16384 < length begun = grind (arith, e) in
        let kept : List ℕ = take 16384 begun in
        let rest : List ℕ = drop 16384 begun in
        let there : Kept kept = (
          begins-take 16384 begun is,
          (
            long-kept 16384 begun (omega arith) long,
            omega (arith, length-take 16384 begun, long),
          ),
        ) in
        let split : begun ++ more ≡ kept ++ (rest ++ more) =
        ap (λ (l : List ℕ). l ++ more) (sym (take-append-drop 16384 begun)) ∙ append_assoc kept rest more in
        ap (λ (l : List ℕ). cut_value (ended (trimmed_start http_whitespace l)))
        (append_assoc kept (stand_in rest) more)
        ∙ ap (λ (l : List ℕ). cut_value (ended l)) (start-keeps (kept ++ (stand_in rest ++ more))
        (begins-append kept (stand_in rest ++ more) there.0 there.1.0))
        ∙ sym (cut-alike kept rest (stand_in rest) more there (stand-in-alike rest))
        ∙ sym (ap (λ (l : List ℕ). cut_value (ended l)) (start-keeps (kept ++ (rest ++ more))
        (begins-append kept (rest ++ more) there.0 there.1.0)))
        ∙ sym (ap (λ (l : List ℕ). cut_value (ended (trimmed_start http_whitespace l))) split)

-- the blanks at the start of a text do not matter
start-first : (text more : List ℕ) → trimmed_start http_whitespace (trimmed_start http_whitespace text ++ more)
    ≡ trimmed_start http_whitespace (text ++ more)
start-first text more =
    start-append http_whitespace (trimmed_start http_whitespace text) more
    ∙ ap (λ (l : List ℕ). cond (none l) (trimmed_start http_whitespace more) (l ++ more))
    (start-twice http_whitespace text)
    ∙ sym (start-append http_whitespace text more)

-- what is squeezed is cut to the same, whatever follows
pub squeezed-same : (text more : List ℕ) → cut_value (trimmed http_whitespace (squeezed text ++ more))
    ≡ cut_value (trimmed http_whitespace (text ++ more))
squeezed-same text more =
    ap cut_value (end-core http_whitespace (trimmed_start http_whitespace (squeezed text ++ more)))
    ∙ squeezed-begun (trimmed_start http_whitespace text) more (begins-start text)
    ∙ ap (λ (l : List ℕ). cut_value (ended l)) (start-first text more)
    ∙ sym (ap cut_value (end-core http_whitespace (trimmed_start http_whitespace (text ++ more))))
