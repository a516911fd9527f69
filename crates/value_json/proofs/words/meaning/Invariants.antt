use Rattle.std.proofs.Common.{◌≡◌, drop}
use Rattle.value_json.specs.Reading.{meaning}
use Rattle.value_json.proofs.ReadingLemmas.{entries}
use Rattle.value_json.proofs.words.meaning.Given as goal

abbrev pub invariant-loop-word : goal.invariant-loop-word
invariant-loop-word g l =
    meaning (entries l.words) l.text ≡ meaning (entries (drop l.word-index l.words)) l.text
