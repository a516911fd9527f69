-- What the calls that make a request tell, and what the handle holds after them.
use Rattle.std.specs.Prelude.{◌≡◌, ℕ, Option, Some, None, option_and_then}
use Rattle.c_handle.specs.declared.thing.Thing.TheVariants as thing
use Rattle.c_calls.specs.Terms.{Asked, Change, Choice, NO_SUCH_NUMBER, OK, Text, Thing, Words, chosen, header_added}
use Rattle.c_calls.specs.Terms.{held_request, load_of, text_set, yes_or_no}
use Rattle.c_calls.specs.Calls.{Done, done, done_by}
use Rattle.c_calls.specs.Choices.{load_numbered}

-- the handle holds the load, or what it held
abbrev pub IsLoadOf : Option Asked → ℕ → Option Thing → Option Thing → Type 0
IsLoadOf None code before held = (code ≡ NO_SUCH_NUMBER) × (held ≡ before)
IsLoadOf (Some asked) code before held = (code ≡ OK) × (held ≡ Some (thing.Request asked))

abbrev pub IsLoad : ℕ → Text → ℕ → Option Thing → Option Thing → Type 0
IsLoad number url = IsLoadOf (option_and_then (λ kind. load_of kind url) (load_numbered number))

-- a request after a change, which was made or not
abbrev pub change_done : Change Asked → Done
change_done change = done (yes_or_no change.made) (Some (thing.Request change.now))

-- a request with one more header
abbrev pub add_header : Text → Text → Option Thing → Done
add_header name value held = done_by (held_request held) (λ asked. change_done (header_added name value asked)) held

-- a request with a text
abbrev pub set_text_of : Option Words → Text → Asked → Done
set_text_of None text asked = done NO_SUCH_NUMBER (Some (thing.Request asked))
set_text_of (Some words) text asked = change_done (text_set words text asked)

abbrev pub set_text : Option Words → Text → Option Thing → Done
set_text words text held = done_by (held_request held) (set_text_of words text) held

-- a request with a choice
abbrev pub choose_of : Option Choice → Asked → Done
choose_of None asked = done NO_SUCH_NUMBER (Some (thing.Request asked))
choose_of (Some choice) asked = change_done (chosen choice asked)

abbrev pub choose : Option Choice → Option Thing → Done
choose choice held = done_by (held_request held) (choose_of choice) held
