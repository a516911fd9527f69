use Rattle.std.proofs.Common.{ap, map}
use Rattle.value_text.specs.Trims.{tab_or_space, trimmed}
use Rattle.value_lists.proofs.SplitLemmas.{onto-nothing}
use Rattle.value_lists.proofs.split.Splitter.new.Goals as goal

pub returns : goal.returns
returns c = λ rest. rw (c.new.ensures, c.new-2.ensures.items) (ap (map (trimmed tab_or_space)) (onto-nothing rest))
