use Rattle.audit_text.proofs.ShortLemmas.{tail-short}
use Rattle.audit_text.proofs.tail.tail_in.Goals as goal

pub returns-in_default : goal.returns-in_default
returns-in_default c = tail-short (λ word. word.now) c.args.words.now c.in_default.len_below
