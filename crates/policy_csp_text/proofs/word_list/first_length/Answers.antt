use Rattle.std.proofs.Common.{sym}
use Rattle.policy_csp_text.proofs.WordLemmas.{one-word}
use Rattle.policy_csp_text.proofs.word_list.first_length.Goals as goal

pub returns-in-None : goal.returns-in-None
returns-in-None c = one-word c.args.text.now (sym c.in-None.ensures)
