-- What the headers of an answer say, where a handle holds some.
use Rattle.std.specs.Prelude.{ℕ, Option}
use Rattle.value_text.specs.Texts.{Text}
use Rattle.c_handle.specs.Codes.{yes_or_no}
use Rattle.c_handle.specs.Things.{code_by, held_headers, TextBy}
use Rattle.c_handle.specs.declared.thing.Thing.{Thing}
use Rattle.value_lists.specs.Nosniff as sniffing
use Rattle.c_rules.specs.Types.{essence_in}

-- "determine nosniff" of a header list
abbrev pub nosniff : Option Thing → ℕ
nosniff held = code_by (held_headers held) (λ list. yes_or_no (sniffing.nosniff list))

-- the essence of a header list is written, or there is none
abbrev pub HasEssence : Option Thing → Text → Text → ℕ → ℕ → ℕ → Type 0
HasEssence held = TextBy (held_headers held) essence_in
