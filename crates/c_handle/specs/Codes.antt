-- What the codes tell, and what is written beside them.
use Rattle.std.specs.Prelude.{◌≡◌, ℕ, Bool, true, false, drop, length, nat_lt, take, MatchBool}
use Rattle.std.specs.Prelude.{Option, Some, None, Result, Ok, Err, if◌then◌else◌}
use Rattle.value_text.specs.Texts.{Text}
use Rattle.c_handle.specs.declared.codes.TheConstants.{OK, NO, OUT_OF_MEMORY, TOO_SHORT, NOT_A_URL, NOT_HTTP}
use Rattle.c_handle.specs.declared.codes.TheConstants.{NOT_A_HEADER, NOT_A_HOST, NOT_AWAITED, NO_REQUEST}
use Rattle.c_handle.specs.declared.codes.TheConstants.{NO_SUCH_NUMBER}
use Rattle.c_handle.specs.declared.codes.TheConstants.{TOO_LATE, WRONG_HANDLE}
use Rattle.c_rules.specs.declared.refusal.Refusal.{Refusal}
use Rattle.c_rules.specs.declared.refusal.Refusal.TheVariants.{OutOfMemory, NotUrl, NotHttp, NotHeader, TooLate}
use Rattle.c_rules.specs.declared.refusal.Refusal.TheVariants.{NoRequest, NotHost}

-- the numbers of the codes
abbrev pub AreNumbered : Type 0
AreNumbered = (OK ≡ 0) × (NO ≡ 1) × (WRONG_HANDLE ≡ 2) × (OUT_OF_MEMORY ≡ 3) × (TOO_SHORT ≡ 4) × (NO_SUCH_NUMBER ≡ 5)
    × (NOT_A_URL ≡ 6) × (NOT_HTTP ≡ 7) × (NOT_A_HEADER ≡ 8) × (TOO_LATE ≡ 9) × (NOT_AWAITED ≡ 10) × (NO_REQUEST ≡ 11)
    × (NOT_A_HOST ≡ 12)

-- the code of a refusal
abbrev pub code_of : Refusal → ℕ
code_of OutOfMemory = OUT_OF_MEMORY
code_of NotUrl = NOT_A_URL
code_of NotHttp = NOT_HTTP
code_of NotHeader = NOT_A_HEADER
code_of TooLate = TOO_LATE
code_of NoRequest = NO_REQUEST
code_of NotHost = NOT_A_HOST

-- whether it holds
abbrev pub yes_or_no : Bool → ℕ
yes_or_no true = OK
yes_or_no false = NO

-- whether it holds, or why there is no answer
abbrev pub told : Result Bool Refusal → ℕ
told (Ok holds) = yes_or_no holds
told (Err refusal) = code_of refusal

-- The text is written at the beginning of the room, if it is long enough, and the rest of the room stays. Its length is
-- told in both cases.
abbrev pub IsWritten : Text → Text → Text → ℕ → ℕ → Type 0
IsWritten text room after len code =
    (len ≡ length text) × MatchBool (nat_lt (length room) (length text)) ((code ≡ TOO_SHORT) × (after ≡ room))
    ((code ≡ OK) × (take len after ≡ text) × (drop len after ≡ drop len room))

-- nothing is written
abbrev pub IsKept : Text → Text → ℕ → ℕ → Type 0
IsKept room after len_before len = (after ≡ room) × (len ≡ len_before)

-- a text that there may be is written, or why there is no answer is told
abbrev pub IsTextTold : Result (Option Text) Refusal → Text → Text → ℕ → ℕ → ℕ → Type 0
IsTextTold (Ok (Some text)) room after len_before len code = IsWritten text room after len code
IsTextTold (Ok None) room after len_before len code = (code ≡ NO) × IsKept room after len_before len
IsTextTold (Err refusal) room after len_before len code = (code ≡ code_of refusal) × IsKept room after len_before len

-- a text, as one that there may be
abbrev pub some_text : Result Text Refusal → Result (Option Text) Refusal
some_text (Ok text) = Ok (Some text)
some_text (Err refusal) = Err refusal
