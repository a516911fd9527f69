-- The order of texts by their bytes.
use Rattle.std.specs.Cmp.Lexicographic.{slice_cmp}
use Rattle.std.specs.declared.cmp.Ordering.{Ordering}
use Rattle.std.specs.Ordering.{nat_cmp}
use Rattle.value_text.specs.Texts.{Text}

-- by the first bytes in which they differ; a text comes before the longer ones that begin with it
abbrev pub text_cmp : Text → Text → Ordering
text_cmp a b = slice_cmp nat_cmp a b
