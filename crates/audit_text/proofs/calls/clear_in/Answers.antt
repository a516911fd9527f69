use Rattle.audit_text.proofs.ShortLemmas.{clear-short}
use Rattle.audit_text.proofs.calls.clear_in.Goals as goal

pub returns-in_default : goal.returns-in_default
returns-in_default c = clear-short (λ word. word.now) c.args.words.now c.in_default.len_below
