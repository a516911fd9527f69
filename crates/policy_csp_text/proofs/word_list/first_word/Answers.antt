use Rattle.std.proofs.Common.{◌≡◌, ◌<◌, [], ap, sym, ◌∙◌, length, arith}
use Rattle.std.proofs.lemmas.Grind.{common_steps}
use Rattle.value_text.specs.Words.{words}
use Rattle.policy_csp_text.proofs.WordLemmas.{behind-filled, behind-shorter, first-word, within, words-behind}
use Rattle.policy_csp_text.proofs.word_list.first_word.Goals as goal

pub returns-then-is_empty-clause-word : goal.returns-then-is_empty-clause-word
returns-then-is_empty-clause-word c =
    let none : c.behind_blanks-filled.result.now ≡ [] =
    grind (arith, common_steps, c.is_empty.ensures, c.if-is_empty.true) in
    words-behind c.args.text.now ∙ ap words (sym c.behind_blanks-filled.ensures ∙ none)

pub split_at-requires : goal.split_at-requires
split_at-requires c = rw c.first_length.ensures (within c.behind_blanks-filled.result.now)

pub returns-clause-word : goal.returns-clause-word
returns-clause-word c =
    let some : 0 < length c.behind_blanks-filled.result.now =
    grind (arith, common_steps, c.is_empty.ensures, c.if-is_empty.false) in
    rw (c.split_at.ensures.front, c.split_at.ensures.back)
    (first-word c.args.text.now c.behind_blanks-filled.result.now c.first_length.result c.behind_blanks-filled.ensures
    some c.first_length.ensures)

pub returns-clause-shorter : goal.returns-clause-shorter
returns-clause-shorter c =
    let some : 0 < length c.behind_blanks-filled.result.now =
    grind (arith, common_steps, c.is_empty.ensures, c.if-is_empty.false) in
    grind (
      arith,
      common_steps,
      c.split_at.ensures.back_len,
      c.first_length.ensures,
      some,
      behind-shorter c.args.text.now,
      behind-filled c.args.text.now,
      c.behind_blanks-filled.ensures,
    )
