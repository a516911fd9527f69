use Rattle.audit_text.proofs.ShortLemmas.{note-short}
use Rattle.audit_text.proofs.calls.note_in.Goals as goal

pub returns-in_default : goal.returns-in_default
returns-in_default c = note-short (λ word. word.now) c.args.words.now c.in_default.len_below
