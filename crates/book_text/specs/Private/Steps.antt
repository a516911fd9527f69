-- What a call of the reader gives.
use Rattle.std.specs.Prelude.{◌≡◌, ℕ, Bool, List, Option, Result, Ok, Err}
use Rattle.std.specs.Borrow.{Bor}
use Rattle.value_text.specs.Texts.{Text}
use Rattle.book_text.specs.Reading.{next_line}
use Rattle.book_text.specs.declared.refusal.ReadError.{ReadError}
use Rattle.book_text.specs.declared.refusal.ReadError.TheVariants.{Memory, Refused}
use Rattle.book_text.specs.declared.refusal.Reason.{Reason}
use Rattle.book_text.specs.declared.refusal.Refusal.{Refusal}

-- memory was refused, or this is what reading gives
abbrev pub Fails : {Y : Type 0} → ReadError → Result Y Refusal → Type 0
Fails Memory read = Unit {0}
Fails (Refused refusal) read = read ≡ Err refusal

-- what was returned, seen by view, is what reading gives, unless memory was refused
abbrev pub Gives : {X Y : Type 0} → (X → Y) → Result X ReadError → Result Y Refusal → Type 0
Gives view (Ok x) read = read ≡ Ok (view x)
Gives view (Err error) read = Fails error read

-- a line was read behind others, unless memory was refused
abbrev pub Goes : {A : Type 0} → (Text → Option (A × Text)) → (A → List A → Bool) → (A → List A → Reason) → ℕ
    → List A → List A → Text → Result (Bor Text) ReadError → Type 0
Goes {A} read may why line old new text (Ok rest) = (next : List A → Text → Result (List A × Text) Refusal)
    → next_line read may why line old (read text) next ≡ next new rest.now
Goes {A} read may why line old new text (Err error) = (next : List A → Text → Result (List A × Text) Refusal)
    → Fails error (next_line read may why line old (read text) next)
