-- The first directive of each name, collected one by one.
use Rattle.std.proofs.Common.{◌≡◌, ◌&&◌, ◌++◌, ◌∷◌, [], ℕ, Bool, true, false, List, Option, Some, None, cond, filter}
use Rattle.std.proofs.Math.Bool.{and-true}
use Rattle.std.proofs.Common.{Bor, ◌<◌, ◌+◌, add-one, drop, drop-cons, get_or, length, map}
use Rattle.std.proofs.Common.{not, ◌||◌, refl, ap, sym, ◌∙◌, append_assoc, arith}
use Rattle.std.proofs.lemmas.Grind.{common_steps}
use Rattle.std.proofs.lemmas.Slice.Eq.{bytes_eq-Decides}
use Rattle.std.specs.List.{cons_option, filter_map, list_any}
use Rattle.std.proofs.lemmas.List.Folds.{list_any-append}
use Rattle.policy_csp_text.specs.Policies.{directive_of, first_of_each, is_named}
use Rattle.policy_csp_text.specs.Private.Collecting.{is_new, with_found}
use Rattle.policy_csp_text.specs.declared.policy.Directive.{Directive}

-- all are new where none was found
pub new_all : (directives : List Directive) → filter (is_new []) directives ≡ directives
new_all [] = refl
new_all (directive ∷ directives) = ap (λ ds. directive ∷ ds) (new_all directives)

-- two filters are one
filter-both : {X : Type 0} (p q r : X → Bool) → ((x : X) → r x ≡ (p x && q x)) → (xs : List X)
    → filter p (filter q xs) ≡ filter r xs
filter-both p q r h [] = refl
filter-both p q r h (x ∷ xs) = grind (arith, common_steps, filter-both p q r h xs, h x)

-- what was found has its name, or has not, as for each directive of this name
new-by-name : (found : List Directive) (a b : Directive) → a.name ≡ b.name → is_new found a ≡ is_new found b
new-by-name found a b e = ap (λ name. not (list_any (λ other. is_named other.name (record a { name = name })) found)) e

-- a directive of a name that was found is not new
old-of-name : (found : List Directive) (directive other : Directive) (same : Bool)
    → is_named directive.name other ≡ same → is_new found directive ≡ false
    → is_new found other ≡ (is_new found other && not same)
old-of-name found directive other true e old =
    let named : other.name ≡ directive.name = (bytes_eq-Decides other.name directive.name).0 e in
    rw (new-by-name found other directive named ∙ old) refl
old-of-name found directive other false e old = sym (and-true (is_new found other))

-- neither of two
neither : (a b : Bool) → not (a || (b || false)) ≡ (not a && not b)
neither true b = refl
neither false true = refl
neither false false = refl

-- what is new to one directive more
new-to-more : (found : List Directive) (directive other : Directive)
    → is_new (found ++ directive ∷ []) other ≡ (is_new found other && not (is_named directive.name other))
new-to-more found directive other =
    ap not (list_any-append (λ d. is_named d.name other) found (directive ∷ []))
    ∙ neither (list_any (λ d. is_named d.name other) found) (is_named directive.name other)

-- a directive is added, or is not
step-by : (found : List Directive) (directive : Directive) (rest : List Directive) (new : Bool)
    → is_new found directive ≡ new
    → (cond new (found ++ directive ∷ []) found) ++ filter (is_new (cond new (found ++ directive ∷ []) found)) rest
    ≡ found ++ cond new (directive ∷ filter (is_new found) (filter (λ other. not (is_named directive.name other)) rest))
    (filter (is_new found) (filter (λ other. not (is_named directive.name other)) rest))
step-by found directive rest true e =
    append_assoc found (directive ∷ []) _
    ∙ ap (λ ds. found ++ directive ∷ ds)
    (sym (filter-both (is_new found) (λ other. not (is_named directive.name other)) (is_new (found ++ directive ∷ []))
    (λ other. new-to-more found directive other) rest))
step-by found directive rest false e =
    ap (λ ds. found ++ ds)
    (sym (filter-both (is_new found) (λ other. not (is_named directive.name other)) (is_new found)
    (λ other. old-of-name found directive other (is_named directive.name other) refl e) rest))

-- the next directive is added where it is new, and later ones of its name are not
pub found_step : (found : List Directive) (here : Option Directive) (rest : List Directive)
    → with_found here found ++ filter (is_new (with_found here found)) (first_of_each rest)
    ≡ found ++ filter (is_new found) (first_of_each (cons_option here rest))
found_step found None rest = refl
found_step found (Some directive) rest =
    step-by found directive (first_of_each rest) (is_new found directive) refl

-- the next token is taken
pub collected-step : (tokens : List (Bor (List ℕ))) (i : ℕ) (none : Bor (List ℕ)) (found new whole : List Directive)
    (here : Option Directive) → i < length tokens → here ≡ directive_of (get_or tokens i none).now
    → new ≡ with_found here found
    → found ++ filter (is_new found) (first_of_each (filter_map directive_of (map (λ t. t.now) (drop i tokens))))
    ≡ whole
    → new ++ filter (is_new new) (first_of_each (filter_map directive_of (map (λ t. t.now) (drop (i + 1) tokens))))
    ≡ whole
collected-step tokens i none found new whole here lt e n h =
    let rest = filter_map directive_of (map (λ t. t.now) (drop (i + 1) tokens)) in
    let next : drop i tokens ≡ get_or tokens i none ∷ drop (i + 1) tokens =
    rw (add-one i) (drop-cons tokens i none lt) in
    let cut : cons_option here rest ≡ filter_map directive_of (map (λ t. t.now) (drop i tokens)) =
    ap (λ o. cons_option o rest) e
    ∙ sym (ap (λ ts. filter_map directive_of (map (λ t. t.now) ts)) next) in
    rw n (found_step found here rest ∙ ap (λ ds. found ++ filter (is_new found) (first_of_each ds)) cut ∙ h)
