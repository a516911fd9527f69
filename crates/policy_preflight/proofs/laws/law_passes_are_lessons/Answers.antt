use Rattle.policy_preflight.proofs.LessonLemmas.{verdict-lesson}
use Rattle.policy_preflight.proofs.laws.law_passes_are_lessons.Goals as goal

pub returns : goal.returns
returns c = verdict-lesson
