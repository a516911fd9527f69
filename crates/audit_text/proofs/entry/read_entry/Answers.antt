use Rattle.std.proofs.Common.{◌∙◌, ap, map, List, ℕ}
use Rattle.std.specs.Borrow.{Bor}
use Rattle.audit_text.proofs.CallLemmas.{read-result}
use Rattle.audit_text.proofs.entry.read_entry.Goals as goal

pub returns : goal.returns
returns c = read-result c.entry_in.result
    (map (λ (word : Bor (List ℕ)). word.now) c.as_slice.result.now) c.args.text.now
    (ap (map (λ (word : Bor (List ℕ)). word.now)) c.as_slice.ensures.value ∙ c.in_ok-words.ensures) c.entry_in.ensures
