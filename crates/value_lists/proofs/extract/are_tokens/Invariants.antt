use Rattle.std.proofs.Common.{◌≡◌, drop}
use Rattle.std.specs.List.{list_all}
use Rattle.value_text.specs.Tokens.{is_token}
use Rattle.value_lists.proofs.extract.are_tokens.Given as goal

abbrev pub invariant-loop-index : goal.invariant-loop-index
invariant-loop-index l = list_all is_token l.texts ≡ list_all is_token (drop l.index l.texts)
