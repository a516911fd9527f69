-- How many policies there are, counted and not kept.
use Rattle.std.proofs.Common.{◌≡◌, ◌∙◌, ◌==◌, ◌||◌, ◌∷◌, [], ℕ, Bool, true, not, List, Option, Some, None, refl, ap}
use Rattle.std.proofs.Common.{sym}
use Rattle.std.proofs.Common.{arith, map, filter, length, inl, inr, suc}
use Rattle.std.proofs.lemmas.Bool.{cases_Bool}
use Rattle.std.proofs.lemmas.Grind.{common_steps}
use Rattle.std.specs.List.{cons_option, filter_map, list_any}
use Rattle.std.specs.Option.{is_some}
use Rattle.policy_csp_text.specs.Policies.{directive_of, first_of_each, has_directives, policy_of}
use Rattle.policy_csp_text.specs.declared.policy.Directive.{Directive}

-- there is a first directive where one of the tokens is one
some-first : (found : Option Directive) (rest : List Directive)
    → not (length (first_of_each (cons_option found rest)) == 0)
    ≡ (is_some found || not (length (first_of_each rest) == 0))
some-first None rest = refl
some-first (Some directive) rest = grind (arith, common_steps)

pub any-directive : (tokens : List (List ℕ))
    → list_any (λ token. is_some (directive_of token)) tokens
    ≡ not (length (first_of_each (filter_map directive_of tokens)) == 0)
any-directive [] = refl
any-directive (token ∷ tokens) =
    ap (λ b. is_some (directive_of token) || b) (any-directive tokens)
    ∙ sym (some-first (directive_of token) (filter_map directive_of tokens))

-- as many as the texts that have a directive
pub count-texts : (enforced : Bool) (texts : List (List ℕ))
    → length (filter (λ text. has_directives (policy_of true text)) texts)
    ≡ length (filter has_directives (map (policy_of enforced) texts))
count-texts enforced [] = refl
count-texts enforced (text ∷ texts) =
    elim (cases_Bool (has_directives (policy_of true text))) [
      | inl some ↦ rw some (ap suc (count-texts enforced texts))
      | inr none ↦ rw none (count-texts enforced texts)
    ]
