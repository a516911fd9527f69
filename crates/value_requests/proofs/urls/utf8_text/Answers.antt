use Rattle.std.proofs.Common.{sym, ◌∙◌, ap, Some, Option, List, ℕ}
use Rattle.value_requests.proofs.TextLemmas.{utf8_text-IsUtf8, utf8_text-none}
use Rattle.value_requests.proofs.urls.utf8_text.Goals as goal

pub returns-in-Ok : goal.returns-in-Ok
returns-in-Ok c =
    ap (λ (bytes : List ℕ). let text : Option (List ℕ) = Some bytes in text) c.in-Ok.ensures.cases.0
    ∙ sym (utf8_text-IsUtf8 c.args.bytes.now c.in-Ok.ensures.cases.1)

pub returns-in-Err : goal.returns-in-Err
returns-in-Err c = sym (utf8_text-none c.args.bytes.now c.in-Err.ensures.cases.0)
