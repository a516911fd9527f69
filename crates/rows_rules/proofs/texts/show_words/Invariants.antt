use Rattle.std.proofs.Common.{length}
use Rattle.rows_rules.proofs.texts.show_words.Given as goal

abbrev pub decreases-loop-word : goal.decreases-loop-word
decreases-loop-word l = length l.left
