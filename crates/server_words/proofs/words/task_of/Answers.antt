use Rattle.std.proofs.Common.{◌∙◌, ℕ, List, Some, ap, sym}
use Rattle.server_words.specs.Words.{count_of, texts}
use Rattle.server_words.proofs.CommandLemmas.{both-now}
use Rattle.server_words.proofs.WordLemmas.{no-task, task, task-of-two}
use Rattle.server_words.proofs.words.task_of.Goals as goal

pub returns-then-not-are_texts-clause-value : goal.returns-then-not-are_texts-clause-value
returns-then-not-are_texts-clause-value c =
    no-task (texts c.args.words.now) (sym c.are_texts.ensures ∙ c.if-not-are_texts.true)

pub returns-clause-value : goal.returns-clause-value
returns-clause-value c =
    ap (λ (address : List ℕ). Some (task address c.in-Some-count_of.count))
    (c.in_ok-address-2.ensures ∙ c.as_bytes-2.ensures.value)
    ∙ task-of-two (texts c.args.words.now) c.in-Some.address.now c.in-Some.number.now c.in-Some-count_of.count
    (sym c.are_texts.ensures ∙ c.if-not-are_texts.false)
    (ap both-now (sym c.in-Some.is) ∙ c.in_ok-address.ensures)
    (c.in-Some-count_of.ensures.value ∙ ap count_of c.as_bytes.ensures.value)
