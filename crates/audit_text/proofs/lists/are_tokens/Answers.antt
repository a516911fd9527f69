use Rattle.std.proofs.Common.{◌∙◌, rules, tests, sym, List, ℕ}
use Rattle.std.specs.Borrow.{Bor}
use Rattle.std.proofs.lemmas.Iterator.{YieldsList-from_slice}
use Rattle.std.proofs.lemmas.Iterator.Search.{all_from_yields_List}
use Rattle.std.proofs.lemmas.List.Folds.{list_all-map}
use Rattle.value_text.specs.Tokens.{is_token}
use Rattle.audit_text.proofs.lists.are_tokens.Goals as goal

pub returns : goal.returns
returns c = all_from_yields_List (λ (part : Bor (List ℕ)). is_token part.now) _ _ _ c.all.ensures.ran
    (YieldsList-from_slice c.args.parts.now cc) (λ x b q k. search (rules, tests))
    ∙ sym (list_all-map is_token (λ (part : Bor (List ℕ)). part.now) c.args.parts.now)
