-- How the logic stores a script: it is written from its leaves up, and read back by a stack (private contracts).
use Rattle.std.specs.Prelude.{◌≡◌, ℕ, List, [], ◌∷◌, ◌++◌, refl}
use Rattle.std.specs.Coded.{Coded, code_by, coded⊎, coded_ℕ, coded_list}
use Rattle.std.proofs.Common.{◌⊎◌, inl, inr, ap, ◌∙◌}
use Rattle.value_requests.specs.declared.init.Init.{Init}
use Rattle.value_requests.specs.declared.init.LoadInit.{LoadInit}
use Rattle.value_requests.specs.contracts.init.Init as fetch_init
use Rattle.value_requests.specs.contracts.init.LoadInit as load_init
use Rattle.script_scenarios.specs.declared.command.Test.{Test}
use Rattle.script_scenarios.specs.contracts.command.Test as condition
use Rattle.script_scenarios.specs.Scripts.{Step, fetch, load, wait, repeat, choose, Steps, no_steps, step}

abbrev pub Token : Type 0
Token = Init ⊎ (LoadInit ⊎ (ℕ ⊎ (ℕ ⊎ (Test ⊎ (ℕ ⊎ ℕ)))))

abbrev pub token_code : Coded Token
token_code =
    coded⊎ fetch_init.the_row.coded (coded⊎ load_init.the_row.coded (coded⊎ coded_ℕ (coded⊎ coded_ℕ
    (coded⊎ condition.the_row.coded (coded⊎ coded_ℕ coded_ℕ)))))

abbrev mutual
  pub tokens_of_step : Step → List Token
  tokens_of_step (fetch asked) = inl asked ∷ []
  tokens_of_step (load asked) = inr (inl asked) ∷ []
  tokens_of_step (wait n) = inr (inr (inl n)) ∷ []
  tokens_of_step (repeat n s) = tokens s ++ inr (inr (inr (inl n))) ∷ []
  tokens_of_step (choose test s t) = tokens s ++ (tokens t ++ inr (inr (inr (inr (inl test)))) ∷ [])

  pub tokens : Steps → List Token
  tokens no_steps = inr (inr (inr (inr (inr (inl 0))))) ∷ []
  tokens (step x s) = tokens_of_step x ++ (tokens s ++ inr (inr (inr (inr (inr (inr 0))))) ∷ [])

-- what has been read: steps, and lists of them
pub record Stack : Type 0 where
  pub done : List Step
  pub lists : List Steps

abbrev pub read_repeat : ℕ → List Step → List Steps → Stack
read_repeat n done [] = record { done = done; lists = [] }
read_repeat n done (s ∷ lists) = record { done = repeat n s ∷ done; lists = lists }

abbrev pub read_choose : Test → List Step → List Steps → Stack
read_choose test done [] = record { done = done; lists = [] }
read_choose test done (t ∷ []) = record { done = done; lists = [] }
read_choose test done (t ∷ s ∷ lists) = record { done = choose test s t ∷ done; lists = lists }

abbrev pub read_step : List Step → List Steps → Stack
read_step [] lists = record { done = []; lists = lists }
read_step (x ∷ done) [] = record { done = done; lists = [] }
read_step (x ∷ done) (s ∷ lists) = record { done = done; lists = step x s ∷ lists }

abbrev pub with_step : Step → Stack → Stack
with_step x stack = record { done = x ∷ stack.done; lists = stack.lists }

abbrev pub with_list : Steps → Stack → Stack
with_list s stack = record { done = stack.done; lists = s ∷ stack.lists }

abbrev pub read_token : Token → Stack → Stack
read_token (inl asked) stack = with_step (fetch asked) stack
read_token (inr (inl asked)) stack = with_step (load asked) stack
read_token (inr (inr (inl n))) stack = with_step (wait n) stack
read_token (inr (inr (inr (inl n)))) stack = read_repeat n stack.done stack.lists
read_token (inr (inr (inr (inr (inl test))))) stack = read_choose test stack.done stack.lists
read_token (inr (inr (inr (inr (inr (inl n)))))) stack = with_list no_steps stack
read_token (inr (inr (inr (inr (inr (inr n)))))) stack = read_step stack.done stack.lists

abbrev pub read_tokens : List Token → Stack → Stack
read_tokens [] stack = stack
read_tokens (t ∷ ts) stack = read_tokens ts (read_token t stack)

abbrev pub first_list : List Steps → Steps
first_list [] = no_steps
first_list (s ∷ lists) = s

abbrev pub steps_of_tokens : List Token → Steps
steps_of_tokens ts = first_list (read_tokens ts (record { done = []; lists = [] })).lists

pub read_tokens-append : (xs ys : List Token) (stack : Stack)
    → read_tokens (xs ++ ys) stack ≡ read_tokens ys (read_tokens xs stack)
read_tokens-append [] ys stack = refl
read_tokens-append (x ∷ xs) ys stack = read_tokens-append xs ys (read_token x stack)

mutual
  pub read-step : (x : Step) (stack : Stack) → read_tokens (tokens_of_step x) stack ≡ with_step x stack
  read-step (fetch asked) stack = refl
  read-step (load asked) stack = refl
  read-step (wait n) stack = refl
  read-step (repeat n s) stack =
      read_tokens-append (tokens s) (inr (inr (inr (inl n))) ∷ []) stack
      ∙ ap (λ (k : Stack). read_tokens (inr (inr (inr (inl n))) ∷ []) k) (read-steps s stack)
  read-step (choose test s t) stack =
      read_tokens-append (tokens s) (tokens t ++ inr (inr (inr (inr (inl test)))) ∷ []) stack
      ∙ ap (λ (k : Stack). read_tokens (tokens t ++ inr (inr (inr (inr (inl test)))) ∷ []) k) (read-steps s stack)
      ∙ read_tokens-append (tokens t) (inr (inr (inr (inr (inl test)))) ∷ []) (with_list s stack)
      ∙ ap (λ (k : Stack). read_tokens (inr (inr (inr (inr (inl test)))) ∷ []) k) (read-steps t (with_list s stack))

  pub read-steps : (s : Steps) (stack : Stack) → read_tokens (tokens s) stack ≡ with_list s stack
  read-steps no_steps stack = refl
  read-steps (step x s) stack =
      read_tokens-append (tokens_of_step x) (tokens s ++ inr (inr (inr (inr (inr (inr 0))))) ∷ []) stack
      ∙ ap (λ (k : Stack). read_tokens (tokens s ++ inr (inr (inr (inr (inr (inr 0))))) ∷ []) k) (read-step x stack)
      ∙ read_tokens-append (tokens s) (inr (inr (inr (inr (inr (inr 0))))) ∷ []) (with_step x stack)
      ∙ ap (λ (k : Stack). read_tokens (inr (inr (inr (inr (inr (inr 0))))) ∷ []) k) (read-steps s (with_step x stack))

pub steps-tokens : (s : Steps) → steps_of_tokens (tokens s) ≡ s
steps-tokens s = ap (λ (k : Stack). first_list k.lists) (read-steps s (record { done = []; lists = [] }))

abbrev pub steps_code : Coded Steps
steps_code = code_by (List Token) (coded_list token_code) tokens steps_of_tokens steps-tokens
