use Rattle.audit_text.proofs.ShortLemmas.{covers-short}
use Rattle.audit_text.proofs.calls.covers_in.Goals as goal

pub returns-in_default : goal.returns-in_default
returns-in_default c = covers-short (λ word. word.now) c.args.words.now c.in_default.len_below
