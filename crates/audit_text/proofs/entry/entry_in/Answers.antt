use Rattle.audit_text.proofs.ShortLemmas.{entry-short}
use Rattle.audit_text.proofs.entry.entry_in.Goals as goal

pub returns-in_default : goal.returns-in_default
returns-in_default c = entry-short (λ word. word.now) c.args.words.now c.in_default.len_below
