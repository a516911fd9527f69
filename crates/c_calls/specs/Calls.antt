-- What each call that is given a handle tells, and what the handle holds after it.
use Rattle.std.specs.Prelude.{◌&&◌, ℕ, Bool, not, List, Option, Some, None, Result, Ok, Err}
use Rattle.c_handle.specs.declared.thing.Thing.TheVariants as thing
use Rattle.c_calls.specs.Terms.{Book, Header, OK, Refusal, Text, TextBy, Thing, WRONG_HANDLE, after_field, appending}
use Rattle.c_calls.specs.Terms.{code_by, code_of, combined, held_book, held_headers, is_kept_by_resource_policy}
use Rattle.c_calls.specs.Terms.{is_known_host, is_wildcard, passes_cors_check, says, told, yes_or_no}

-- what a call tells, and what the handle holds then
pub record Done : Type 0 where
  pub code : ℕ
  pub held : Option Thing

abbrev pub done : ℕ → Option Thing → Done
done code held = record { code = code; held = held }

-- what a change tells of what is held, or that it is nothing of the kind
abbrev pub done_by : {A : Type 0} → Option A → (A → Done) → Option Thing → Done
done_by None change held = done WRONG_HANDLE held
done_by (Some it) change held = change it

-- the list as it is told after "append", or as it was
abbrev pub append_done : List Header → Result (List Header) Refusal → Done
append_done list (Ok next) = done OK (Some (thing.Headers next))
append_done list (Err refusal) = done (code_of refusal) (Some (thing.Headers list))

-- "append" of a header list
abbrev pub append_to : Text → Text → Option Thing → Done
append_to name value held = done_by (held_headers held) (λ list. append_done list (appending name value list)) held

-- "CORS check" of a header list; `*` is no origin, and passes none
abbrev pub cors_check : Text → Bool → Option Thing → ℕ
cors_check origin include held =
    code_by (held_headers held)
    (λ list. yes_or_no (not (is_wildcard origin) && passes_cors_check origin include list))

-- "cross-origin resource policy check" of a header list
abbrev pub resource_policy : Text → Text → Option Thing → ℕ
resource_policy page url held = code_by (held_headers held) (λ list. told (is_kept_by_resource_policy page url list))

-- "get" of a header list
abbrev pub IsGot : Text → Option Thing → Text → Text → ℕ → ℕ → ℕ → Type 0
IsGot name held = TextBy (held_headers held) (λ list. Ok (combined name list))

-- whether a host of a book is known
abbrev pub known_host : Text → ℕ → Option Thing → ℕ
known_host host now held = code_by (held_book held) (λ book. told (is_known_host host now book))

-- the book after a field, or as it was
abbrev pub note_done : Text → Text → ℕ → Book → Result Bool Refusal → Done
note_done host field now book (Ok says) = done (yes_or_no says) (Some (thing.Book (after_field host field now book)))
note_done host field now book (Err refusal) = done (code_of refusal) (Some (thing.Book book))

-- a Strict-Transport-Security field of a host, which a book notes
abbrev pub note_host : Text → Text → ℕ → Option Thing → Done
note_host host field now held =
    done_by (held_book held) (λ book. note_done host field now book (says host field now)) held
