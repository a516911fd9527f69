use Rattle.std.proofs.Common.{◌∙◌, ap, map, refl}
use Rattle.value_requests.proofs.SetLemmas.{has-inserted}
use Rattle.value_requests.specs.TextSets.{has_text}
use Rattle.value_requests.proofs.text_set.TextSet.add.Goals as goal

pub returns-clause-added : goal.returns-clause-added
returns-clause-added c = λ other.
    ap (λ keys. has_text (map (λ text. text.items) keys) other) c.in_ok-insert.ensures.keys
    ∙ (has-inserted (λ text. text.items) other c.in_ok-from_slice.field-0 c.self.inside.texts.keys
    ∙ rw (c.in_ok-from_slice.ensures.items, ← c.self.view_is) refl)
