-- What a line comes to that is added to a reader of heads.
use Rattle.std.specs.Prelude.{◌≡◌}
use Rattle.value_text.specs.Texts.{Text}
use Rattle.value_requests.specs.declared.hop.Head.{Head}
use Rattle.link_http1.specs.Answers.{IsUnfinished}
use Rattle.link_http1.specs.Heads.{EndsBlock, EndsFinal}
use Rattle.link_http1.specs.declared.head.Pushed.{Pushed}
use Rattle.link_http1.specs.declared.head.Pushed.TheVariants as pushed

-- nothing is decided, a final head ends where the bytes end, or only a block does
abbrev pub IsPushed : Text → Pushed → Type 0
IsPushed bytes (pushed.More reader) = (reader ≡ bytes) × IsUnfinished bytes
IsPushed bytes (pushed.Final head) = EndsFinal bytes head
IsPushed bytes pushed.Bad = EndsBlock bytes × ((head : Head) → ¬ (EndsFinal bytes head))
